-- `mark_dfu` meets its contract: the promise of the firmware state, with the caller's sizes.
-- Assumes nothing.
use Rattle.packed.proofs.Packs.{tells}
use Rattle.boundary_state.proofs.mark_dfu.Goals as goal

pub returns : goal.returns
returns c = tells (rw c.new.ensures at c.mark_dfu.ensures) c.pack.ensures
