use mathlib.Core.Path.{refl}
use Rattle.geometry.specs.Refusals.{bad_number, most_number}
use Rattle.verdicts.proofs.check.bad_number.Goals as goal

pub returns : goal.returns
unfolding bad_number most_number
returns c = c.or.ensures _ _ refl (c.last.ensures _ refl)
