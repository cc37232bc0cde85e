-- Any two places that the contract of `first` allows for one byte and one slice are equal. Assumes nothing.
use mathlib.Core.Path.{◌≡◌, refl}
use mathlib.Core.List.{List}
use Prim.Native.Nat.{ℕ, ◌+◌, ◌≤◌, ◌<◌}
use native.Mathlib.Nat.{lt_of_not-le}
use native.Mathlib.Decide.{dec_le}
use native.Mathlib.Omega.{arith}
use Rattle.state.specs.OneResult.{OneResult}
use Rattle.byte_search.specs.First.{First}
use Rattle.byte_search.proofs.first.Kinds as first_kinds
use Rattle.byte_search.proofs.first.Reads as first

-- the later of two places would have the byte before it
not_before : {v : ℕ} {xs : List ℕ} {m n : ℕ} → First v xs m → First v xs n → m < n → ⊥
not_before {m = m} p q less = q.before m less (p.found (omega (arith, q.within)))

place_unique : {v : ℕ} {xs : List ℕ} {m n : ℕ} → First v xs m → First v xs n → m ≡ n
place_unique {m = m} {n} p q = go (dec_le (m + 1) n) (dec_le (n + 1) m)
  where
    go : Dec (m + 1 ≤ n) → Dec (n + 1 ≤ m) → m ≡ n
    go (yes l) r = absurd (not_before p q (omega arith))
    go (no l) (yes r) = absurd (not_before q p (omega arith))
    go (no l) (no r) = omega (arith, lt_of_not-le l, lt_of_not-le r)

pub first_unique : OneResult first_kinds.ps first_kinds.r first.Post
first_unique κs a x y v w p q = (place_unique p q, refl)
