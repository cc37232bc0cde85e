use Rattle.geometry.specs.Refusals.{bad_state}
use Rattle.geometry.specs.Geometry.{words}
use mathlib.Core.Path.{refl}
use Rattle.verdicts.proofs.check.bad_state.Goals as goal

pub returns : goal.returns
unfolding bad_state words
returns c = c.or-2.ensures _ _ c.uneven.ensures (c.or.ensures _ _ c.uneven-2.ensures (c.last.ensures _ refl))
