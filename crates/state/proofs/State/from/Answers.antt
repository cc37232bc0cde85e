use mathlib.Core.Path.{◌∙◌, sym}
use Rattle.state.proofs.States.{none_swap, first_filled, first_mixed}
use borrow.Author.Rules.{rules}
use Rattle.state.proofs.State.from.Goals as goal

pub returns-in-None : goal.returns-in-None
returns-in-None c = none_swap _ (search rules)

pub returns-in-Some : goal.returns-in-Some
returns-in-Some c = c.from_magic.ensures ∙ first_filled _ _ (search rules) (sym c.all_are.ensures ∙ c.if-all_are.true)

pub returns-in-Some-2 : goal.returns-in-Some-2
returns-in-Some-2 c = first_mixed _ _ (search rules) (sym c.all_are.ensures ∙ c.if-all_are.false)
