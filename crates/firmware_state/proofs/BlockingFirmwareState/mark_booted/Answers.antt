use mathlib.Core.Path.{refl}
use mathlib.Core.List.{[]}
use Rattle.state.specs.declared.State.TheVariants.{Boot}
use Rattle.rules.specs.FirmwareState.{mark}
use Rattle.firmware_state.proofs.BlockingFirmwareState.mark_booted.Goals as goal

pub returns : goal.returns
unfolding mark
returns c =
    let a = c.args in
    c.mark.ensures (mark Boot a.self.sizes a.state.now) [] [] c.state_verdict-judged.ensures refl refl
