-- `last_number` meets its contract: a sector is cut down to what the cast takes.
-- Assumes nothing.
use mathlib.Core.Path.{ap, sym, ◌∙◌}
use Rattle.packed.specs.Packed.{no_sector, last_number}
use borrow.Author.Rules.{rules}
use Rattle.packed.proofs.last_number.Goals as goal

pub returns-in-None : goal.returns-in-None
unfolding last_number no_sector
returns-in-None c = search rules

pub returns-in-Some : goal.returns-in-Some
unfolding last_number no_sector
returns-in-Some c = c.least.ensures ∙ sym (ap last_number c.in-Some.is)
