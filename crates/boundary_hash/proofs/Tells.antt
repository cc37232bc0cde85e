-- From the updater's promise of a hash to that of its number; and that the boundary's promise leaves nothing open. Assumes nothing.
use mathlib.Core.Path.{◌≡◌, sym, ◌∙◌}
use mathlib.Core.List.{List}
use Prim.Native.Nat.{ℕ}
use Rattle.geometry.specs.declared.Sizes.{Sizes}
use Rattle.mem_flash.specs.Flash.{Flash}
use Rattle.rules.specs.Calls.{Answer, reported}
use Rattle.firmware_hash.specs.Hash.{Hashed}
use Rattle.packed.specs.Packed.{packed}
use Rattle.packed.proofs.Packs.{packs}
use Rattle.boundary_hash.specs.Told.{ToldHash}

module _ {z : Sizes} {len chunk : ℕ} {out : List ℕ} {f : Flash} where
  pub tells_hash : (a : Answer) {out' : List ℕ} {r : ℕ} → Hashed z len chunk out out' f a → r ≡ packed (reported a) → ToldHash z len chunk out out' f r
  tells_hash a w p = record { answer = packs a p w.answer; digest = w.digest }

  pub told_hash_unique : {out₁ out₂ : List ℕ} {q r : ℕ} → ToldHash z len chunk out out₁ f q → ToldHash z len chunk out out₂ f r → (out₁ ≡ out₂) × (q ≡ r)
  told_hash_unique a b = (a.digest ∙ sym b.digest, a.answer ∙ sym b.answer)
