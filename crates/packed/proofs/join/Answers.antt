-- `join` meets its contract. What its callers owe keeps the sum within 64 bits.
-- Assumes nothing.
use Rattle.packed.specs.Packed.{joined}
use borrow.Author.Rules.{rules}
use Rattle.packed.proofs.join.Goals as goal

pub returns : goal.returns
unfolding joined
returns c = search rules
