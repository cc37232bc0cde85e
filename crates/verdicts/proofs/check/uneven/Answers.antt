use mathlib.Core.Path.{refl}
use Rattle.geometry.specs.Refusals.{uneven}
use Rattle.verdicts.proofs.check.uneven.Goals as goal

pub returns : goal.returns
unfolding uneven
returns c = refl
