use mathlib.Core.Path.{refl}
use mathlib.Core.List.{[]}
use Rattle.state.specs.declared.State.TheVariants.{Swap}
use Rattle.rules.specs.FirmwareState.{mark}
use Rattle.firmware_state.proofs.BlockingFirmwareState.mark_updated.Goals as goal

pub returns : goal.returns
unfolding mark
returns c =
    let a = c.args in
    c.mark.ensures (mark Swap a.self.sizes a.state.now) [] [] c.state_verdict-judged.ensures refl refl
