-- What a hash depends on, by its contract: not on the chunk's length, and of the flash on two lengths and the bytes asked. Its answer does not
-- depend on any byte, so that it answers alike as 01 has it of the other calls; its output is the exception. Assumes nothing.
use mathlib.Core.Path.{◌≡◌, refl, sym, ap, ap₂, ◌∙◌}
use mathlib.Core.Bool.{Bool, false}
use Rattle.std.specs.Prelude.{None}
use mathlib.Core.List.{List, []}
use Prim.Native.Nat.{ℕ}
use lib.Dec.{eqb}
use lib.ListN.{length, take}
use borrow.Author.Tests.{ne_eqb}
use Rattle.state.specs.Choice.{pick}
use Rattle.geometry.specs.declared.Sizes.{Sizes}
use Rattle.mem_flash.specs.Flash.{Flash}
use Rattle.rules.specs.Calls.{Answer, Call, report}
use Rattle.rules.specs.FirmwareUpdater.{updater_call}
use Rattle.rules.proofs.Unique.{answer_unique}
use Rattle.sha512.specs.Sha512.{sha512}
use Rattle.firmware_hash.specs.Hash.{bad_hash, hash_call, hash_out, Hashed}

-- two hashes whose calls are the same
module _ {z : Sizes} {len c d : ℕ} {out out₁ out₂ : List ℕ} {f h : Flash} {x y : Answer} (p : Hashed z len c out out₁ f x) (q : Hashed z len d out out₂ h y)
    (e : hash_call z len c (length out) f ≡ hash_call z len d (length out) h) where
  same_answer : x ≡ y
  same_answer = answer_unique x y (p.answer ∙ ap (λ (a : Call). report a 0) e ∙ sym q.answer)

  same_output : take len f.dfu ≡ take len h.dfu → out₁ ≡ out₂
  unfolding hash_out
  same_output b =
      p.digest ∙ ap₂ (λ (a : Call) (bytes : List ℕ). pick (eqb a.refusal 0) (sha512 bytes) out) e b ∙ sym q.digest

-- any two chunks that are not empty
same_row : (ld len c d n : ℕ) → (c ≡ 0 → ⊥) → (d ≡ 0 → ⊥) → bad_hash ld len c n ≡ bad_hash ld len d n
unfolding bad_hash
same_row ld len c d n i j = rw (ne_eqb c 0 i, ne_eqb d 0 j)

pub chunk_aside : {z : Sizes} {len c d : ℕ} {out out₁ out₂ : List ℕ} {f : Flash} {x y : Answer} → (c ≡ 0 → ⊥) → (d ≡ 0 → ⊥)
    → Hashed z len c out out₁ f x → Hashed z len d out out₂ f y → (x ≡ y) × (out₁ ≡ out₂)
unfolding hash_call
chunk_aside {z} {len} {c} {d} {out} {f = f} i j p q =
    let e = ap (λ (b : Bool). updater_call z f false b None []) (same_row (length f.dfu) len c d (length out) i j) in
    (same_answer p q e, same_output p q e refl)

-- two flashes with areas as long as each other
module _ {z : Sizes} {len c : ℕ} {out out₁ out₂ : List ℕ} {f h : Flash} {x y : Answer} (dfu : length f.dfu ≡ length h.dfu) (state : length f.state ≡ length h.state)
    (p : Hashed z len c out out₁ f x) (q : Hashed z len c out out₂ h y) where
  same_call : hash_call z len c (length out) f ≡ hash_call z len c (length out) h
  unfolding hash_call updater_call
  same_call = rw (dfu, state)

  pub answers_alike : x ≡ y
  answers_alike = same_answer p q same_call

  -- that agree on the bytes asked
  pub bytes_decide : take len f.dfu ≡ take len h.dfu → out₁ ≡ out₂
  bytes_decide = same_output p q same_call
