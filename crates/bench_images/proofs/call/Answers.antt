-- `call`: the promise of the call that the command is, with the geometry's sizes. Assumes nothing.
use Rattle.bench_images.proofs.Laws.{did_update, did_booted, did_boot}
use Rattle.bench_images.proofs.call.Goals as goal

pub returns-in-Update : goal.returns-in-Update
returns-in-Update c =
    let a = c.args in
    did_update a.g c.new-marks.result.sizes c.new-marks.ensures a.command _ a.active.now a.dfu.now
    a.state.now _ _ c.in-Update.is c.mark_updated.ensures

pub returns-in-Booted : goal.returns-in-Booted
returns-in-Booted c =
    let a = c.args in
    did_booted a.g c.new-marks.result.sizes c.new-marks.ensures a.command _ a.active.now a.dfu.now
    a.state.now _ _ c.in-Booted.is c.mark_booted.ensures

pub returns-in-Boot : goal.returns-in-Boot
returns-in-Boot c =
    let a = c.args in
    let n = c.new.ensures in
    let e = c.in-Boot.is in
    did_boot a.g _ a.command _ _ _ _ n e c.prepare_boot.ensures
