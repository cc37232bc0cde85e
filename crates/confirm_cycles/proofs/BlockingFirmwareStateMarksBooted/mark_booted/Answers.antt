-- The firmware state's mark_booted, said of a flash with any images. Assumes nothing.
use Rattle.state.specs.declared.State.TheVariants.{Boot}
use Rattle.state.specs.Magic.{magic}
use Rattle.rules.specs.FirmwareState.{mark}
use Rattle.rules.proofs.Marks.{on_mark, did_beside}
use Rattle.confirm_cycles.proofs.BlockingFirmwareStateMarksBooted.mark_booted.Goals as goal

pub returns : goal.returns
unfolding mark
returns c a =
    let m = c.args.self in
    did_beside _ _ a c.args._dfu.now (on_mark m.sizes (magic Boot) c.args.state.now) c.mark_booted.ensures
