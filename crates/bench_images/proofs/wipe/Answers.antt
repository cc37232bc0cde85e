-- `wipe`: `fill` leaves the value throughout. Assumes nothing.
use Rattle.state.specs.Cells.{erased}
use Rattle.bench_images.proofs.wipe.Goals as goal

pub returns : goal.returns
unfolding erased
returns c = c.fill.ensures.after (λ y e. e)
