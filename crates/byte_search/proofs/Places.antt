-- Laws of the search for a byte: whether a word holds it. Assumes nothing.
use mathlib.Core.Path.{◌≡◌, refl}
use mathlib.Core.Bool.{Bool, true, false, ◌||◌, or-true}
use mathlib.Core.List.{List, [], ◌∷◌}
use Prim.Native.Nat.{ℕ, zero, suc, ◌<◌}
use native.Mathlib.Omega.{arith}
use lib.Dec.{eqb}
use lib.ListN.{length, get_or}
use borrow.Author.Tests.{eq-eqb, ne_eqb}
use Rattle.state.specs.Choice.{pick}
use Rattle.state.specs.Magic.{holds}
use Rattle.byte_search.specs.First.{Lacks}

pick_or : (a r : Bool) → pick a true r ≡ (a || r)
unfolding pick
pick_or true r = refl
pick_or false r = refl

-- ---- a byte that stands somewhere, and one that stands nowhere

pub holds_at : (v : ℕ) (xs : List ℕ) (k : ℕ) → k < length xs → get_or xs k 0 ≡ v → holds v xs ≡ true
unfolding holds
holds_at v [] k h e = absurd (omega arith)
holds_at v (x ∷ xs) zero h e = rw (pick_or, eq-eqb x v e)
holds_at v (x ∷ xs) (suc k) h e = rw (pick_or, holds_at v xs k (omega arith) e) (or-true (eqb x v))

pub holds_not : (v : ℕ) (xs : List ℕ) → Lacks v (length xs) xs → holds v xs ≡ false
unfolding holds pick
holds_not v [] l = refl
holds_not v (x ∷ xs) l = rw (ne_eqb x v (l 0 (omega arith)), holds_not v xs (λ k h e. l (suc k) (omega arith) e))
