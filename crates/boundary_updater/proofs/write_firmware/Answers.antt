-- `write_firmware` meets its contract: the updater's promise, with the caller's sizes and memory.
-- Assumes nothing.
use mathlib.Core.Path.{refl}
use Rattle.boundary_updater.proofs.Wrote.{told_write}
use Rattle.boundary_updater.proofs.write_firmware.Goals as goal

pub returns : goal.returns
returns c = told_write _ (refl, c.sector-memory.ensures) c.write_firmware-written.ensures c.last_number.ensures c.pack.ensures
