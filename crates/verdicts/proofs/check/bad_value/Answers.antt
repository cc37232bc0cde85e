use mathlib.Core.Path.{refl, ap}
use mathlib.Core.Bool.{not}
use Rattle.state.specs.Cells.{erased}
use Rattle.geometry.specs.Refusals.{bad_value}
use Rattle.verdicts.proofs.check.bad_value.Goals as goal

pub returns : goal.returns
unfolding bad_value erased
returns c = ap not (c.or-known.ensures _ _ refl (c.last.ensures _ refl))
