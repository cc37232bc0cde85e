-- `get_state` meets its contract: the updater's promise, with the caller's sizes.
-- Assumes nothing.
use Rattle.packed.proofs.Packs.{packs}
use Rattle.boundary_marks.proofs.get_state.Goals as goal

pub returns : goal.returns
returns c = packs _ c.pack.ensures (rw c.new.ensures.sizes at c.get_state.ensures)
