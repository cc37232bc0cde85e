-- `write`: the verdict's refusal, or the pieces, cut or done. Assumes nothing.
use Rattle.rules.proofs.Did.{left_low}
use Rattle.firmware_updater.proofs.Answers.{firmware_refused, firmware_room, firmware_ran, firmware_wrote}
use Rattle.firmware_updater.proofs.BlockingFirmwareUpdater.write.Goals as goal

pub returns-in_err-write_verdict : goal.returns-in_err-write_verdict
returns-in_err-write_verdict c =
    let a = c.args in
    firmware_refused a.self.now a.dfu.now a.state.now a.offset.0 a.«data».now c.write_verdict.ensures c.in_err-write_verdict.was _ c.from_residual.ensures.1

pub write_pieces-ended-requires : goal.write_pieces-ended-requires
write_pieces-ended-requires c =
    let a = c.args in
    let room = firmware_room a.self.now a.dfu.now a.state.now a.offset.0 a.«data».now c.write_verdict.ensures c.in_ok-write_verdict.was in
    record { unit_some = room.0; whole_units = room.1; data_in = room.2 }

pub answer-requires : goal.answer-requires
answer-requires c =
    let a = c.args in
    left_low _ _ _ _ _ (firmware_ran a.self.now a.dfu.now a.state.now a.offset.0 a.«data».now c.write_verdict.ensures c.in_ok-write_verdict.was c.cell.ensures c.write_pieces-ended.ensures)

pub returns : goal.returns
returns c =
    let a = c.args in
    firmware_wrote a.self.now a.dfu.now a.state.now a.offset.0 a.«data».now c.write_verdict.ensures c.in_ok-write_verdict.was
    c.cell.ensures c.write_pieces-ended.ensures c.answer.ensures
