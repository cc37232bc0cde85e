use mathlib.Core.Path.{◌∙◌, sym}
use Rattle.geometry.proofs.Tests.{any_one}
use Rattle.verdicts.proofs.check.last.Goals as goal

pub returns : goal.returns
returns c = λ x e. e ∙ sym (any_one x)
