-- `mark_booted`: the mark, at the updater's verdict. Assumes nothing.
use mathlib.Core.Path.{refl}
use mathlib.Core.List.{[]}
use Rattle.mem_flash.specs.Run.{flash}
use Rattle.rules.specs.FirmwareUpdater.{updater_mark_booted, updater_mark, updater_call}
use Rattle.firmware_updater.proofs.BlockingFirmwareUpdater.mark_booted.Goals as goal

pub returns : goal.returns
unfolding updater_mark_booted updater_mark updater_call
returns c =
    let a = c.args in
    c.mark.ensures (updater_mark_booted a.self.sizes (flash [] a.dfu.now a.state.now)) [] a.dfu.now c.updater_verdict-judged.ensures refl refl
