-- `get_state` meets its contract: the promise of the firmware state, with the caller's sizes.
-- Assumes nothing.
use Rattle.packed.proofs.Packs.{packs}
use Rattle.boundary_state.proofs.get_state.Goals as goal

pub returns : goal.returns
returns c = packs _ c.pack.ensures (rw c.new.ensures at c.get_state.ensures)
