-- `pack` meets its contract: what was done is joined, and a stop packed. Assumes nothing.
use mathlib.Core.Path.{ap, ◌∙◌}
use Rattle.rules.specs.Calls.{reported}
use Rattle.packed.specs.Packed.{packed, joined}
use Rattle.packed.proofs.pack.Goals as goal

pub returns-in-Ok : goal.returns-in-Ok
unfolding packed reported
returns-in-Ok c = rw c.in-Ok.is (c.join.ensures ∙ ap (λ s. joined 0 s c.in-Ok.done.count) c.state_byte.ensures.value)

pub returns-in-Err : goal.returns-in-Err
returns-in-Err c = rw c.in-Err.is c.pack_stop.ensures
