-- `obey`: where a boot is refused, nothing; else what `on_parts` does. Assumes nothing.
use Rattle.bench_images.proofs.Laws.{call_admitted, did_refused, nothing_obeyed}
use Rattle.bench_images.proofs.Areas.obey.Goals as goal

pub returns-in_err-s : goal.returns-in_err-s
returns-in_err-s c = λ f. nothing_obeyed _ _ _ _ _ (did_refused _ _ _ _ _ c.in_err-s.was _ c.from_residual.ensures.1)

pub returns : goal.returns
returns c = λ f. rw (call_admitted _ _ _ 0 _ c.in_ok-s.was) (c.on_parts.ensures f)
