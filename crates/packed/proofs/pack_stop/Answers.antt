-- `pack_stop` meets its contract: each arm joins what the answer tells. A refusal's number is small enough by `number_low`.
-- Assumes nothing.
use mathlib.Core.Path.{ap, ◌∙◌}
use Rattle.rules.specs.Calls.{reported}
use Rattle.packed.specs.Packed.{state_byte, packed, joined}
use Rattle.packed.proofs.Low.{number_low}
use borrow.Author.Rules.{rules}
use Rattle.packed.proofs.pack_stop.Goals as goal

pub join-requires : goal.join-requires
join-requires c = let n = number_low c.in-Refused.why in search rules

pub returns-in-Refused : goal.returns-in-Refused
unfolding packed reported state_byte
returns-in-Refused c = rw c.in-Refused.is (c.join.ensures ∙ ap (λ n. joined n 255 0) c.number.ensures)

pub returns-in-Cut : goal.returns-in-Cut
unfolding packed reported state_byte
returns-in-Cut c = rw c.in-Cut.is c.join-in-Cut.ensures
