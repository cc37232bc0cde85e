-- `mark_booted` meets its contract: the updater's promise, with the caller's sizes.
-- Assumes nothing.
use Rattle.packed.proofs.Packs.{tells}
use Rattle.boundary_marks.proofs.mark_booted.Goals as goal

pub returns : goal.returns
returns c = tells (rw c.new.ensures.sizes at c.mark_booted.ensures) c.pack.ensures
