-- Any two results that a contract of this crate allows for one input are equal; and a refusal, and a verdict, is known by its number.
-- Assumes nothing.
use mathlib.Core.Path.{◌≡◌, refl, sym, ap, ◌∙◌}
use Prim.Native.Nat.{ℕ}
use lib.Dec.{eqb}
use Rattle.state.specs.Choice.{pick}
use Rattle.state.specs.OneResult.{OneResult}
use Rattle.geometry.specs.declared.Refusal.{Refusal}
use Rattle.geometry.specs.declared.Refusal.TheVariants.{Limit, Page, Area, StateArea, BadState, Range, Checksum}
use Rattle.std.specs.Prelude.{Ok, Err}
use Rattle.geometry.specs.Refusals.{number, Verdict, verdict}
use Rattle.geometry.proofs.Refusal.number.Kinds as number_kinds
use Rattle.geometry.proofs.Refusal.number.Reads as number_reads
use Rattle.geometry.proofs.StateSizes.cell.Kinds as cell_kinds
use Rattle.geometry.proofs.StateSizes.cell.Reads as cell
use Rattle.geometry.proofs.Geometry.page_size.Kinds as page_size_kinds
use Rattle.geometry.proofs.Geometry.page_size.Reads as page_size
use Rattle.geometry.proofs.Page.offset.Kinds as page_offset_kinds
use Rattle.geometry.proofs.Page.offset.Reads as page_offset
use Rattle.geometry.proofs.Word.offset.Kinds as word_offset_kinds
use Rattle.geometry.proofs.Word.offset.Reads as word_offset
use Rattle.geometry.proofs.least.Kinds as least_kinds
use Rattle.geometry.proofs.least.Reads as least

-- ---- back from a number

unfoldable pub refusal_of : ℕ → Refusal
refusal_of n =
    pick (eqb n 1) Limit
    (pick (eqb n 2) Page
    (pick (eqb n 3) Area (pick (eqb n 4) StateArea (pick (eqb n 5) BadState (pick (eqb n 6) Range Checksum)))))

pub refusal_back : (r : Refusal) → refusal_of (number r) ≡ r
unfolding refusal_of number pick
refusal_back Limit = refl
refusal_back Page = refl
refusal_back Area = refl
refusal_back StateArea = refl
refusal_back BadState = refl
refusal_back Range = refl
refusal_back Checksum = refl

verdict_of : ℕ → Verdict
verdict_of n = pick (eqb n 0) (Ok tt) (Err (refusal_of n))

verdict_back : (v : Verdict) → verdict_of (verdict v) ≡ v
unfolding verdict_of refusal_of verdict number pick
verdict_back (Ok tt) = refl
verdict_back (Err Limit) = refl
verdict_back (Err Page) = refl
verdict_back (Err Area) = refl
verdict_back (Err StateArea) = refl
verdict_back (Err BadState) = refl
verdict_back (Err Range) = refl
verdict_back (Err Checksum) = refl

pub verdict_unique : (v w : Verdict) → verdict v ≡ verdict w → v ≡ w
verdict_unique v w e = sym (verdict_back v) ∙ ap verdict_of e ∙ verdict_back w

-- ---- the functions

pub number_unique : OneResult number_kinds.ps number_kinds.r number_reads.Post
number_unique κs a x y v w p q = (p ∙ sym q, refl)

pub cell_unique : OneResult cell_kinds.ps cell_kinds.r cell.Post
cell_unique κs a x y v w p q = (p ∙ sym q, refl)

pub page_size_unique : OneResult page_size_kinds.ps page_size_kinds.r page_size.Post
page_size_unique κs a x y v w p q = (p ∙ sym q, refl)

pub least_unique : OneResult least_kinds.ps least_kinds.r least.Post
least_unique κs a x y v w p q = (p ∙ sym q, refl)

pub page_offset_unique : OneResult page_offset_kinds.ps page_offset_kinds.r page_offset.Post
page_offset_unique κs a x y v w p q = (ap (λ o. record { 0 = o }) (p ∙ sym q), refl)

pub word_offset_unique : OneResult word_offset_kinds.ps word_offset_kinds.r word_offset.Post
word_offset_unique κs a x y v w p q = (ap (λ o. record { 0 = o }) (p ∙ sym q), refl)
