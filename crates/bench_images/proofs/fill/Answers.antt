-- `fill`: the bytes passed are filled. Assumes nothing.
use Rattle.std.proofs.Common.{length, arith, ◌≡◌}
use Rattle.bench_images.proofs.Laws.{all_filled}
use Rattle.bench_images.proofs.fill.Goals as goal

pub returns : goal.returns
returns c =
    let e : length c.loop-i.area ≡ length c.args.area.now = omega arith in
    rw (← e) (all_filled c.args.size c.args.before c.loop-i.area (λ j h. c.loop-i.invariant j (omega arith)))
