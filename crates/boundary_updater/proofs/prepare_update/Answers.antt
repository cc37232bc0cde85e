-- `prepare_update` meets its contract: the updater's promise, with the caller's sizes.
-- Assumes nothing.
use Rattle.packed.proofs.Packs.{tells}
use Rattle.boundary_updater.proofs.prepare_update.Goals as goal

pub returns : goal.returns
returns c = tells (rw c.new.ensures.sizes at c.prepare_update-written.ensures.did) c.pack.ensures
