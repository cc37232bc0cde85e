-- `on_parts`: each part that is lent lies within its area, as the test found. Assumes nothing.
use Rattle.std.proofs.Common.{arith, length-take-le, ◌∙◌}
use Rattle.bench_images.proofs.Laws.{parts_obeyed}
use Rattle.bench_images.proofs.on_parts.Goals as goal

pub returns : goal.returns
returns c =
    λ fit. parts_obeyed _ _ _ _ _ _ _ _ (c.call.auto.active ∙ length-take-le _ _ (omega arith)) (c.call.auto.dfu ∙ length-take-le _ _ (omega arith))
    (c.call.auto.state ∙ length-take-le _ _ (omega arith)) c.call.ensures
