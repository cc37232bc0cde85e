-- `prepare_boot` meets its contract: the loader's promise, with the caller's sizes for the loader's.
-- Assumes nothing.
use Rattle.packed.proofs.Packs.{tells}
use Rattle.boundary_boot.proofs.prepare_boot.Goals as goal

pub returns : goal.returns
returns c = tells (rw c.new.ensures at c.prepare_boot.ensures) c.pack.ensures
