-- `check_and_mark_updated` meets its contract: the updater's promise, with the caller's sizes. Assumes nothing.
use Rattle.packed.proofs.Packs.{tells}
use Rattle.boundary_checks.proofs.check_and_mark_updated.Goals as goal

pub returns : goal.returns
returns c = tells (rw c.new-updater.ensures.sizes at c.check_and_mark_updated.ensures) c.pack.ensures
