-- Any two results that a contract of this crate allows for one input are equal: the answer, and what the output holds. Assumes nothing.
use mathlib.Core.Path.{◌≡◌, sym, ap, ◌∙◌}
use mathlib.Core.List.{List}
use Prim.Native.Nat.{ℕ}
use Rattle.state.specs.OneResult.{OneResult}
use Rattle.geometry.specs.declared.Sizes.{Sizes}
use Rattle.mem_flash.specs.Flash.{Flash}
use Rattle.rules.specs.Calls.{Answer}
use Rattle.rules.proofs.Unique.{answer_unique}
use Rattle.firmware_hash.specs.Hash.{Hashed}
use Rattle.firmware_hash.proofs.hash.Kinds as hash_kinds
use Rattle.firmware_hash.proofs.hash.Reads as hash

pub hashed_unique : {z : Sizes} {len chunk : ℕ} {out out₁ out₂ : List ℕ} {f : Flash} {x y : Answer} → Hashed z len chunk out out₁ f x
    → Hashed z len chunk out out₂ f y → (x ≡ y) × (out₁ ≡ out₂)
hashed_unique {x = x} {y = y} p q = (answer_unique x y (p.answer ∙ sym q.answer), p.digest ∙ sym q.digest)

pub hash_unique : OneResult hash_kinds.ps hash_kinds.r hash.Post
hash_unique κs a x y v w p q = let e = hashed_unique p q in (e.0, ap (λ (out : List ℕ). (tt, (tt, (tt, (tt, (tt, (out, tt))))))) e.1)
