-- `hash_verdict`: a refusal by rows 1 to 4 stands whatever row 6 says; else row 6 decides. Assumes nothing.
use mathlib.Core.Path.{refl, sym, ap, ◌∙◌}
use Rattle.std.proofs.lemmas.Result.{err_from_is_err_and}
use Rattle.geometry.specs.Refusals.{verdict}
use Rattle.geometry.proofs.Tests.{number_some}
use Rattle.geometry.proofs.Rows.{updater_early, updater_range, updater_passed}
use Rattle.rules.proofs.Did.{verdict_admitted}
use Rattle.firmware_hash.proofs.hash_verdict.Goals as goal

pub returns-in_err-updater_verdict : goal.returns-in_err-updater_verdict
unfolding verdict
returns-in_err-updater_verdict c =
    let p = err_from_is_err_and c.from_residual.result c.from_residual.ensures.1 in
    rw (p.1, p.2)
    (updater_early _ _ _ _ _ _ (number_some _) (sym (ap verdict c.in_err-updater_verdict.was) ∙ c.updater_verdict.ensures))

pub returns-then-bad_hash : goal.returns-then-bad_hash
returns-then-bad_hash c =
    updater_range _ _ _ _ _ (verdict_admitted _ _ c.updater_verdict.ensures c.in_ok-updater_verdict.was) refl
    (sym c.bad_hash.ensures ∙ c.if-bad_hash.true)

pub returns : goal.returns
returns c =
    updater_passed _ _ _ _ _ (verdict_admitted _ _ c.updater_verdict.ensures c.in_ok-updater_verdict.was) refl
    (sym c.bad_hash.ensures ∙ c.if-bad_hash.false)
