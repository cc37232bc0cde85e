-- Any two numbers, or memories, that a contract of this crate allows for one input are equal; and so are any two results that the
-- relations of the C boundary (specs/Told) allow: the number, the areas, the buffer and the memory. The boundary's calls that change
-- nothing have their number by an equation. Assumes nothing.
use mathlib.Core.Path.{◌≡◌, refl, sym, ◌∙◌}
use mathlib.Core.List.{List}
use Prim.Native.Nat.{ℕ}
use Rattle.state.specs.OneResult.{OneResult}
use Rattle.geometry.specs.declared.Sizes.{Sizes}
use Rattle.mem_flash.specs.Flash.{Flash}
use Rattle.rules.specs.Calls.{Call}
use Rattle.packed.specs.Told.{Told, ToldRead, ToldWrite}
use Rattle.packed.proofs.state_number.Kinds as state_number_kinds
use Rattle.packed.proofs.state_number.Reads as state_number_reads
use Rattle.packed.proofs.pack.Kinds as pack_kinds
use Rattle.packed.proofs.pack.Reads as pack
use Rattle.packed.proofs.sector.Kinds as sector_kinds
use Rattle.packed.proofs.sector.Reads as sector
use Rattle.packed.proofs.last_number.Kinds as last_number_kinds
use Rattle.packed.proofs.last_number.Reads as last_number_reads

pub state_number_unique : OneResult state_number_kinds.ps state_number_kinds.r state_number_reads.Post
state_number_unique κs a x y v w p q = (p.0 ∙ sym q.0, refl)

pub pack_unique : OneResult pack_kinds.ps pack_kinds.r pack.Post
pack_unique κs a x y v w p q = (p ∙ sym q, refl)

pub sector_unique : OneResult sector_kinds.ps sector_kinds.r sector.Post
sector_unique κs a x y v w p q = (p ∙ sym q, refl)

pub last_number_unique : OneResult last_number_kinds.ps last_number_kinds.r last_number_reads.Post
last_number_unique κs a x y v w p q = (p ∙ sym q, refl)

-- ---- the relations of the boundary

pub told_unique : {c : Call} {k : ℕ} {f f₁ f₂ : Flash} {q r : ℕ} → Told c k f f₁ q → Told c k f f₂ r → (f₁ ≡ f₂) × (q ≡ r)
told_unique a b = (a.flash ∙ sym b.flash, a.answer ∙ sym b.answer)

pub read_unique : {z : Sizes} {offset : ℕ} {out out₁ out₂ : List ℕ} {f : Flash} {q r : ℕ} → ToldRead z offset out out₁ f q
    → ToldRead z offset out out₂ f r → (out₁ ≡ out₂) × (q ≡ r)
read_unique a b = (a.filled ∙ sym b.filled, a.answer ∙ sym b.answer)

pub write_unique : {z : Sizes} {k offset : ℕ} {bytes : List ℕ} {last last₁ last₂ : ℕ} {f f₁ f₂ : Flash} {q r : ℕ}
    → ToldWrite z k offset bytes last last₁ f f₁ q → ToldWrite z k offset bytes last last₂ f f₂ r → (f₁ ≡ f₂) × (last₁ ≡ last₂) × (q ≡ r)
write_unique a b =
    let e = told_unique a.told b.told in
    (e.0, a.remembered ∙ sym b.remembered, e.1)
