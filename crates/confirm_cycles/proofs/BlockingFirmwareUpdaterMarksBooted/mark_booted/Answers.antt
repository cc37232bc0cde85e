-- The updater's mark_booted, said of a flash with any active image. Assumes nothing.
use Rattle.state.specs.declared.State.TheVariants.{Boot}
use Rattle.state.specs.Magic.{magic}
use Rattle.rules.specs.FirmwareUpdater.{updater_call, updater_mark, updater_mark_booted}
use Rattle.rules.proofs.Marks.{on_mark, did_beside}
use Rattle.confirm_cycles.proofs.BlockingFirmwareUpdaterMarksBooted.mark_booted.Goals as goal

pub returns : goal.returns
unfolding updater_call updater_mark updater_mark_booted
returns c a =
    let m = c.args.self in
    did_beside _ _ a c.args.dfu.now (on_mark m.sizes.state (magic Boot) c.args.state.now) c.mark_booted.ensures
