-- `read_dfu` meets its contract: the updater's promise of answer and buffer, with the caller's sizes.
-- Assumes nothing.
use Rattle.packed.proofs.Packs.{tells_read}
use Rattle.boundary_updater.proofs.read_dfu.Goals as goal

pub returns : goal.returns
returns c =
    let e = c.new.ensures.sizes in
    tells_read _ (rw e at c.read_dfu.ensures.answer, rw e at c.read_dfu.ensures.buffer) c.pack.ensures
