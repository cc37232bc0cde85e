use mathlib.Core.Path.{refl}
use Rattle.geometry.specs.Refusals.{too_long, most_length}
use Rattle.verdicts.proofs.check.too_long.Goals as goal

pub returns : goal.returns
unfolding too_long most_length
returns c = refl
