-- `booted_verdict`: rows 1 to 4 are the callee's, row 5 is what `verify_booted` found. Assumes nothing.
use mathlib.Core.Path.{refl, ap, ◌∙◌}
use mathlib.Core.Bool.{not}
use Rattle.geometry.proofs.Rows.{updater_early, updater_swap, updater_passed}
use Rattle.rules.proofs.Did.{verdict_admitted}
use Rattle.firmware_pieces.proofs.Verdicts.{handed_on, inverse}
use Rattle.firmware_pieces.proofs.booted_verdict.Goals as goal

pub returns-in_err-updater_verdict : goal.returns-in_err-updater_verdict
returns-in_err-updater_verdict c =
    handed_on c.updater_verdict.ensures c.in_err-updater_verdict.was _ c.from_residual.ensures.1
    (λ h. updater_early _ _ _ _ _ _ h refl)

-- a swap is pending
pub returns-then-not-verify_booted : goal.returns-then-not-verify_booted
returns-then-not-verify_booted c =
    updater_swap _ _ _ _ _ (verdict_admitted _ _ c.updater_verdict.ensures c.in_ok-updater_verdict.was)
    (inverse _ c.verify_booted.ensures ∙ ap not c.if-not-verify_booted.true)

-- none is
pub returns : goal.returns
returns c =
    updater_passed _ _ _ _ _ (verdict_admitted _ _ c.updater_verdict.ensures c.in_ok-updater_verdict.was)
    (inverse _ c.verify_booted.ensures ∙ ap not c.if-not-verify_booted.false) refl
