-- `write_verdict`: rows 1 to 5 are those of `booted_verdict`, row 6 is what `bad_range` found. Assumes nothing.
use mathlib.Core.Path.{refl, ◌∙◌, sym}
use Rattle.geometry.proofs.Rows.{updater_admits}
use Rattle.rules.proofs.Did.{verdict_admitted}
use Rattle.firmware_pieces.proofs.Verdicts.{handed_on, booted_early, booted_range, booted_passed}
use Rattle.firmware_pieces.proofs.write_verdict.Goals as goal

pub returns-in_err-booted_verdict : goal.returns-in_err-booted_verdict
returns-in_err-booted_verdict c =
    handed_on c.booted_verdict.ensures c.in_err-booted_verdict.was _ c.from_residual.ensures.1
    (λ h. booted_early _ _ _ _ _ _ h refl)

pub bad_range-requires : goal.bad_range-requires
bad_range-requires c =
    (updater_admits _ _ _ _ _ (verdict_admitted _ _ c.booted_verdict.ensures c.in_ok-booted_verdict.was)).0.wd.some

-- the range is bad
pub returns-then-bad_range : goal.returns-then-bad_range
returns-then-bad_range c =
    booted_range _ _ _ _ _ (verdict_admitted _ _ c.booted_verdict.ensures c.in_ok-booted_verdict.was)
    (sym c.bad_range.ensures ∙ c.if-bad_range.true)

-- no row holds
pub returns : goal.returns
returns c =
    booted_passed _ _ _ _ _ (verdict_admitted _ _ c.booted_verdict.ensures c.in_ok-booted_verdict.was)
    (sym c.bad_range.ensures ∙ c.if-bad_range.false)
