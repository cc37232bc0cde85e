-- Each answer rewrites by the law, which proves a weaker clause as well: must-fail/get_state_number_only is refused by proofs/Unique.
use mathlib.Core.Path.{refl, ap, sym}
use Rattle.std.specs.Prelude.{Some}
use mathlib.Core.List.{[]}
use Rattle.mem_flash.specs.Run.{flash}
use Rattle.rules.specs.Boot.{get_state}
use Rattle.rules.proofs.Did.{verdict_admitted, did_stopped, did_nothing}
use Rattle.firmware_state.proofs.BlockingFirmwareState.get_state.Goals as goal

pub returns-in_err-state_verdict : goal.returns-in_err-state_verdict
unfolding get_state
returns-in_err-state_verdict c =
    let a = c.args in
    let d = did_stopped (get_state a.self.sizes a.state.now) 0 (flash [] [] []) _
    c.state_verdict.ensures c.in_err-state_verdict.was _ c.from_residual.ensures.1 in
    rw (← d.answer)

pub returns : goal.returns
unfolding get_state
returns c =
    let a = c.args in
    let passed = verdict_admitted _ _ c.state_verdict.ensures c.in_ok-state_verdict.was in
    let d = did_nothing (get_state a.self.sizes a.state.now) 0 (flash [] [] []) passed _
    (ap Some (sym c.read.ensures)) refl in
    rw (← d.answer)
