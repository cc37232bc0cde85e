-- `read_state` meets its contract: the loader's promise, with the caller's sizes for the loader's.
-- Assumes nothing.
use Rattle.packed.proofs.Packs.{packs}
use Rattle.boundary_boot.proofs.read_state.Goals as goal

pub returns : goal.returns
returns c = packs _ c.pack.ensures (rw c.new.ensures at c.read_state.ensures)
