-- Any two results that a contract of this crate allows for one input are equal. Assumes nothing.
use mathlib.Core.Path.{refl, sym, ◌∙◌}
use mathlib.Core.List.{[], ◌∷◌}
use Rattle.state.specs.OneResult.{OneResult}
use Rattle.geometry.proofs.Unique.{verdict_unique}
use Rattle.geometry.proofs.Tests.{any_one}
use Rattle.verdicts.proofs.boot_verdict.Kinds as boot_verdict_kinds
use Rattle.verdicts.proofs.boot_verdict.Reads as boot_verdict
use Rattle.verdicts.proofs.state_verdict.Kinds as state_verdict_kinds
use Rattle.verdicts.proofs.state_verdict.Reads as state_verdict
use Rattle.verdicts.proofs.updater_verdict.Kinds as updater_verdict_kinds
use Rattle.verdicts.proofs.updater_verdict.Reads as updater_verdict
use Rattle.verdicts.proofs.check.or.Kinds as or_kinds
use Rattle.verdicts.proofs.check.or.Reads as or
use Rattle.verdicts.proofs.check.last.Kinds as last_kinds
use Rattle.verdicts.proofs.check.last.Reads as last
use Rattle.verdicts.proofs.check.bad_number.Kinds as bad_number_kinds
use Rattle.verdicts.proofs.check.bad_number.Reads as bad_number_reads
use Rattle.verdicts.proofs.check.bad_value.Kinds as bad_value_kinds
use Rattle.verdicts.proofs.check.bad_value.Reads as bad_value_reads
use Rattle.verdicts.proofs.check.too_long.Kinds as too_long_kinds
use Rattle.verdicts.proofs.check.too_long.Reads as too_long
use Rattle.verdicts.proofs.check.uneven.Kinds as uneven_kinds
use Rattle.verdicts.proofs.check.uneven.Reads as uneven
use Rattle.verdicts.proofs.check.boot_limits.Kinds as boot_limits_kinds
use Rattle.verdicts.proofs.check.boot_limits.Reads as boot_limits
use Rattle.verdicts.proofs.check.state_limits.Kinds as state_limits_kinds
use Rattle.verdicts.proofs.check.state_limits.Reads as state_limits
use Rattle.verdicts.proofs.check.updater_limits.Kinds as updater_limits_kinds
use Rattle.verdicts.proofs.check.updater_limits.Reads as updater_limits
use Rattle.verdicts.proofs.check.uneven_page.Kinds as uneven_page_kinds
use Rattle.verdicts.proofs.check.uneven_page.Reads as uneven_page_reads
use Rattle.verdicts.proofs.check.uneven_areas.Kinds as uneven_areas_kinds
use Rattle.verdicts.proofs.check.uneven_areas.Reads as uneven_areas_reads
use Rattle.verdicts.proofs.check.bad_state.Kinds as bad_state_kinds
use Rattle.verdicts.proofs.check.bad_state.Reads as bad_state_reads
use Rattle.verdicts.proofs.check.boot_words.Kinds as boot_words_kinds
use Rattle.verdicts.proofs.check.boot_words.Reads as boot_words_reads
use Rattle.verdicts.proofs.check.bad_boot_state.Kinds as bad_boot_state_kinds
use Rattle.verdicts.proofs.check.bad_boot_state.Reads as bad_boot_state

pub boot_verdict_unique : OneResult boot_verdict_kinds.ps boot_verdict_kinds.r boot_verdict.Post
boot_verdict_unique κs a x y v w p q = (verdict_unique x y (p ∙ sym q), refl)

pub state_verdict_unique : OneResult state_verdict_kinds.ps state_verdict_kinds.r state_verdict.Post
state_verdict_unique κs a x y v w p q = (verdict_unique x y (p ∙ sym q), refl)

pub updater_verdict_unique : OneResult updater_verdict_kinds.ps updater_verdict_kinds.r updater_verdict.Post
updater_verdict_unique κs a x y v w p q = (verdict_unique x y (p ∙ sym q), refl)

-- a list of tests, of which the contract knows how it ends
pub or_unique : OneResult or_kinds.ps or_kinds.r or.Post
or_unique κs a x y v w p q = (p _ (a.1.0 ∷ []) refl (sym (any_one _)) ∙ sym (q _ (a.1.0 ∷ []) refl (sym (any_one _))), refl)

pub last_unique : OneResult last_kinds.ps last_kinds.r last.Post
last_unique κs a x y v w p q = (p _ refl ∙ sym (q _ refl), refl)

-- the rows
pub bad_number_unique : OneResult bad_number_kinds.ps bad_number_kinds.r bad_number_reads.Post
bad_number_unique κs a x y v w p q = (p ∙ sym q, refl)

pub bad_value_unique : OneResult bad_value_kinds.ps bad_value_kinds.r bad_value_reads.Post
bad_value_unique κs a x y v w p q = (p ∙ sym q, refl)

pub too_long_unique : OneResult too_long_kinds.ps too_long_kinds.r too_long.Post
too_long_unique κs a x y v w p q = (p ∙ sym q, refl)

pub uneven_unique : OneResult uneven_kinds.ps uneven_kinds.r uneven.Post
uneven_unique κs a x y v w p q = (p ∙ sym q, refl)

pub boot_limits_unique : OneResult boot_limits_kinds.ps boot_limits_kinds.r boot_limits.Post
boot_limits_unique κs a x y v w p q = (p ∙ sym q, refl)

pub state_limits_unique : OneResult state_limits_kinds.ps state_limits_kinds.r state_limits.Post
state_limits_unique κs a x y v w p q = (p ∙ sym q, refl)

pub updater_limits_unique : OneResult updater_limits_kinds.ps updater_limits_kinds.r updater_limits.Post
updater_limits_unique κs a x y v w p q = (p ∙ sym q, refl)

pub uneven_page_unique : OneResult uneven_page_kinds.ps uneven_page_kinds.r uneven_page_reads.Post
uneven_page_unique κs a x y v w p q = (p ∙ sym q, refl)

pub uneven_areas_unique : OneResult uneven_areas_kinds.ps uneven_areas_kinds.r uneven_areas_reads.Post
uneven_areas_unique κs a x y v w p q = (p ∙ sym q, refl)

pub bad_state_unique : OneResult bad_state_kinds.ps bad_state_kinds.r bad_state_reads.Post
bad_state_unique κs a x y v w p q = (p ∙ sym q, refl)

pub boot_words_unique : OneResult boot_words_kinds.ps boot_words_kinds.r boot_words_reads.Post
boot_words_unique κs a x y v w p q = (p ∙ sym q, refl)

pub bad_boot_state_unique : OneResult bad_boot_state_kinds.ps bad_boot_state_kinds.r bad_boot_state.Post
bad_boot_state_unique κs a x y v w p q = (p ∙ sym q, refl)
