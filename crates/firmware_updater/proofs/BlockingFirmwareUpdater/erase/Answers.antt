-- `erase`: the verdict's refusal, or the erase of DFU, cut or done. Assumes nothing.
use Rattle.rules.proofs.Did.{left_low}
use Rattle.firmware_updater.proofs.Answers.{update_refused, update_ran, update_erased}
use Rattle.firmware_updater.proofs.BlockingFirmwareUpdater.erase.Goals as goal

pub returns-in_err-booted_verdict : goal.returns-in_err-booted_verdict
returns-in_err-booted_verdict c =
    let a = c.args in
    update_refused a.self a.dfu.now a.state.now c.booted_verdict.ensures c.in_err-booted_verdict.was _ c.from_residual.ensures.1

pub answer-requires : goal.answer-requires
answer-requires c =
    let a = c.args in
    left_low _ _ _ _ _ (update_ran a.self a.dfu.now a.state.now c.cell.ensures c.erase-ended.ensures)

pub returns : goal.returns
returns c =
    let a = c.args in
    update_erased a.self a.dfu.now a.state.now c.booted_verdict.ensures c.in_ok-booted_verdict.was c.cell.ensures c.erase-ended.ensures c.answer.ensures
