-- The table's rule at each entry, from the one test of the whole table; and a byte's step by such a table. Assumes nothing.
use mathlib.Core.Path.{◌≡◌, refl, sym, ap, ◌∙◌}
use mathlib.Core.Bool.{Bool, true, false, false≢true}
use mathlib.Core.List.{List}
use mathlib.Core.Logic.{⊎_elim}
use Prim.Native.Nat.{ℕ, zero, suc, ◌/◌, ◌^◌, ◌<◌}
use native.Mathlib.Nat.{le_of_suc-le-suc, not-suc-le-zero, eq-or-lt_of_le}
use lib.Dec.{eqb}
use lib.ListN.{get_or}
use lib.Bits.{bit_xor, bit_and, mask_lt}
use borrow.Author.Tests.{eqb-true}
use Rattle.state.specs.Choice.{pick}
use Rattle.crc32.specs.Crc.{bits, byte}
use Rattle.crc32.specs.Table.{tabled}
use Rattle.crc32.proofs.Steps.{byte_split}

both_pass : (p q : Bool) → pick p q false ≡ true → (p ≡ true) × (q ≡ true)
unfolding pick
both_pass true q t = (refl, t)
both_pass false q t = absurd (false≢true t)

pub entry : (n : ℕ) (t : List ℕ) → tabled n t ≡ true → (k : ℕ) → k < n → get_or t k 0 ≡ bits 8 k
unfolding tabled
entry zero t e k h = absurd (not-suc-le-zero h)
entry (suc n) t e k h =
    let passed = both_pass (eqb (get_or t n 0) (bits 8 n)) (tabled n t) e in
    ⊎_elim (λ (at : k ≡ n). rw at (eqb-true _ _ passed.0)) (λ before. entry n t passed.1 k before) (eq-or-lt_of_le (le_of_suc-le-suc h))

pub by_table : (t : List ℕ) → tabled 256 t ≡ true → (r b : ℕ) → b < 256
    → bit_xor (get_or t (bit_and (bit_xor r b) 255) 0) (r / 2 ^ 8) ≡ byte r b
by_table t e r b h =
    ap (λ (x : ℕ). bit_xor x (r / 2 ^ 8)) (entry 256 t e (bit_and (bit_xor r b) 255) (mask_lt (bit_xor r b) 8)) ∙ sym (byte_split r b h)
