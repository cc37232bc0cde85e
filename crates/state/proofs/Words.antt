-- What the iterator's `all` answers of a word. Assumes nothing.
use mathlib.Core.Path.{◌≡◌, refl, ◌∙◌}
use mathlib.Core.Bool.{Bool, true, false, ◌&&◌}
use mathlib.Core.List.{List, [], ◌∷◌}
use Prim.Native.Nat.{ℕ}
use lib.Dec.{eqb}
use Rattle.std.specs.List.{list_all}
use Rattle.state.specs.Choice.{pick}
use Rattle.state.specs.Magic.{throughout}

pick_and : (a b : Bool) → (a && b) ≡ pick a b false
unfolding pick
pick_and true b = refl
pick_and false b = refl

all_is : (v : ℕ) (xs : List ℕ) → list_all (λ x. eqb x v) xs ≡ throughout v xs
unfolding throughout
all_is v [] = refl
all_is v (x ∷ xs) = rw (all_is v xs) (pick_and (eqb x v) (throughout v xs))

pub by_all : (v : ℕ) (xs : List ℕ) {r : Bool} → r ≡ list_all (λ x. eqb x v) xs → r ≡ throughout v xs
by_all v xs e = e ∙ all_is v xs
