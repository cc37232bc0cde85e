use mathlib.Core.Path.{refl}
use mathlib.Core.List.{[]}
use Rattle.state.specs.declared.State.TheVariants.{DfuDetach}
use Rattle.rules.specs.FirmwareState.{mark}
use Rattle.firmware_state.proofs.BlockingFirmwareState.mark_dfu.Goals as goal

pub returns : goal.returns
unfolding mark
returns c =
    let a = c.args in
    c.mark.ensures (mark DfuDetach a.self.sizes a.state.now) [] [] c.state_verdict-judged.ensures refl refl
