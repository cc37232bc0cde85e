use Rattle.geometry.specs.Refusals.{outside}
use Rattle.verdicts.proofs.check.state_limits.Goals as goal

pub returns : goal.returns
unfolding outside
returns c = c.bad_sizes.ensures _ (c.last.ensures _ c.too_long.ensures)
