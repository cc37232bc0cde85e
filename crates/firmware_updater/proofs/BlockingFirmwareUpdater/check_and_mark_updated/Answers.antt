-- `check_and_mark_updated`: the mark, at the verdict that knows of the sum. Assumes nothing.
use mathlib.Core.Path.{refl}
use mathlib.Core.List.{[]}
use Rattle.mem_flash.specs.Run.{flash}
use Rattle.rules.specs.FirmwareUpdater.{check_and_mark_updated}
use Rattle.firmware_updater.proofs.BlockingFirmwareUpdater.check_and_mark_updated.Goals as goal

pub returns : goal.returns
unfolding check_and_mark_updated
returns c =
    let a = c.args in
    c.mark.ensures (check_and_mark_updated a.self.sizes a.n a.crc (flash [] a.dfu.now a.state.now)) [] a.dfu.now c.check_verdict-checked.ensures refl refl
