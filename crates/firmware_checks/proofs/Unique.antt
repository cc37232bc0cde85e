-- Any two results that a contract of this crate allows for one input are equal. Assumes nothing.
use mathlib.Core.Path.{refl, sym, ◌∙◌}
use Rattle.state.specs.OneResult.{OneResult}
use Rattle.geometry.proofs.Unique.{verdict_unique}
use Rattle.firmware_checks.proofs.check_verdict.Kinds as check_verdict_kinds
use Rattle.firmware_checks.proofs.check_verdict.Reads as check_verdict

pub check_verdict_unique : OneResult check_verdict_kinds.ps check_verdict_kinds.r check_verdict.Post
check_verdict_unique κs a x y v w p q = (verdict_unique x y (p ∙ sym q), refl)
