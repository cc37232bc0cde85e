-- `read_dfu`: the verdict's refusal, row 6, or the copy. Each answer rewrites by the law, which proves a weaker clause as well,
-- so that a weakened contract is refused where its meaning is missed: in proofs/Unique (must-fail/read_length_only). Assumes nothing.
use mathlib.Core.Path.{refl, sym, ◌∙◌}
use borrow.Author.Tests.{ltb-false}
use Rattle.std.specs.Prelude.{Err}
use Rattle.geometry.proofs.Rows.{updater_early, updater_range, updater_passed}
use Rattle.rules.specs.FirmwareUpdater.{past_end}
use Rattle.rules.proofs.Did.{verdict_admitted}
use Rattle.firmware_pieces.proofs.Verdicts.{handed_on}
use Rattle.firmware_updater.proofs.Answers.{read_refused, read_done}
use Rattle.firmware_updater.proofs.BlockingFirmwareUpdater.read_dfu.Goals as goal

pub returns-in_err-updater_verdict : goal.returns-in_err-updater_verdict
returns-in_err-updater_verdict c =
    let a = c.args in
    let d = read_refused a.self.sizes a.offset.0 a.buf.now a.dfu.now a.state.now
    (handed_on c.updater_verdict.ensures c.in_err-updater_verdict.was (Err _) refl (λ h. updater_early _ _ _ _ _ _ h refl)) refl
    c.from_residual.result c.from_residual.ensures.1 in
    record { answer = d.0; buffer = rw (← d.1) }

pub returns-then-past_end : goal.returns-then-past_end
returns-then-past_end c =
    let a = c.args in
    let d = read_refused a.self.sizes a.offset.0 a.buf.now a.dfu.now a.state.now
    (updater_range _ _ _ _ _ (verdict_admitted _ _ c.updater_verdict.ensures c.in_ok-updater_verdict.was) refl
    (sym c.past_end.ensures ∙ c.if-past_end.true)) refl (Err _) refl in
    record { answer = d.0; buffer = rw (← d.1) }

pub copy_out-requires : goal.copy_out-requires
unfolding past_end
copy_out-requires c = ltb-false _ _ (sym c.past_end.ensures ∙ c.if-past_end.false)

pub returns : goal.returns
returns c =
    let a = c.args in
    let d = read_done a.self.sizes a.offset.0 a.buf.now a.dfu.now a.state.now
    (updater_passed _ _ _ _ _ (verdict_admitted _ _ c.updater_verdict.ensures c.in_ok-updater_verdict.was) refl
    (sym c.past_end.ensures ∙ c.if-past_end.false)) refl c.copy_out.ensures in
    record { answer = d.0; buffer = rw (← d.1) }
