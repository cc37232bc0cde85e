use mathlib.Core.Path.{◌∙◌, sym}
use Rattle.geometry.proofs.Tests.{any_first, any_later}
use Rattle.verdicts.proofs.check.or.Goals as goal

pub returns-then-first : goal.returns-then-first
returns-then-first c = λ x bs e d. sym (any_first x bs (sym e ∙ c.if-first.true))

pub returns-else-first : goal.returns-else-first
returns-else-first c = λ x bs e d. d ∙ sym (any_later x bs (sym e ∙ c.if-first.false))
