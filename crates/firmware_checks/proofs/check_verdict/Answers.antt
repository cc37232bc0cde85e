-- `check_verdict`: rows 1 to 5 as `booted_verdict` has them, row 6 by `past_end`, row 8 by the sum. Assumes nothing.
use mathlib.Core.Path.{refl, ◌∙◌, sym}
use Rattle.geometry.proofs.Rows.{checked_early, checked_range, checked_sum, checked_passed}
use Rattle.rules.proofs.Did.{verdict_admitted}
use Rattle.firmware_pieces.proofs.Verdicts.{handed_on}
use Rattle.firmware_checks.proofs.Verdicts.{sum_wrong, sum_right}
use Rattle.firmware_checks.proofs.check_verdict.Goals as goal

pub returns-in_err-booted_verdict : goal.returns-in_err-booted_verdict
returns-in_err-booted_verdict c =
    handed_on c.booted_verdict.ensures c.in_err-booted_verdict.was _ c.from_residual.ensures.1
    (λ h. checked_early _ _ _ _ _ _ _ h refl)

-- the bytes run past the end
pub returns-then-past_end : goal.returns-then-past_end
returns-then-past_end c =
    checked_range _ _ _ _ _ _ (verdict_admitted _ _ c.booted_verdict.ensures c.in_ok-booted_verdict.was)
    (sym c.past_end.ensures ∙ c.if-past_end.true)

-- their sum is another
pub returns-then-sum-crc : goal.returns-then-sum-crc
returns-then-sum-crc c =
    let a = c.args in
    checked_sum _ _ _ _ _ _ (verdict_admitted _ _ c.booted_verdict.ensures c.in_ok-booted_verdict.was)
    (sym c.past_end.ensures ∙ c.if-past_end.false) (sum_wrong a.n a.dfu.now c.sum.ensures c.if-sum-crc.true)

-- no row holds
pub returns : goal.returns
returns c =
    let a = c.args in
    checked_passed _ _ _ _ _ _ (verdict_admitted _ _ c.booted_verdict.ensures c.in_ok-booted_verdict.was)
    (sym c.past_end.ensures ∙ c.if-past_end.false) (sum_right a.n a.dfu.now c.sum.ensures c.if-sum-crc.false)
