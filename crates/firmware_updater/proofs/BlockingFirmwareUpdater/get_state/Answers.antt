-- `get_state`: the verdict's refusal, or the state that `read` found. Assumes nothing.
use mathlib.Core.Path.{refl, ap, sym}
use mathlib.Core.List.{[]}
use Rattle.std.specs.Prelude.{Some}
use Rattle.mem_flash.specs.Run.{flash}
use Rattle.rules.specs.FirmwareUpdater.{updater_call, updater_get_state}
use Rattle.rules.proofs.Did.{verdict_admitted, did_stopped, did_nothing}
use Rattle.firmware_updater.proofs.BlockingFirmwareUpdater.get_state.Goals as goal

pub returns-in_err-updater_verdict : goal.returns-in_err-updater_verdict
unfolding updater_get_state updater_call
returns-in_err-updater_verdict c =
    let a = c.args in
    (did_stopped (updater_get_state a.self.sizes (flash [] a.dfu.now a.state.now)) 0 (flash [] [] []) _
    c.updater_verdict.ensures c.in_err-updater_verdict.was _ c.from_residual.ensures.1).answer

pub returns : goal.returns
unfolding updater_get_state updater_call
returns c =
    let a = c.args in
    (did_nothing (updater_get_state a.self.sizes (flash [] a.dfu.now a.state.now)) 0 (flash [] [] [])
    (verdict_admitted _ _ c.updater_verdict.ensures c.in_ok-updater_verdict.was) _ (ap Some (sym c.read-found.ensures)) refl).answer
