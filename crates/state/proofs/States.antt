-- Laws of the state that a word stands for: one for each way out of the conversion of a word. Assumes nothing.
use mathlib.Core.Path.{◌≡◌, refl, ap, sym, ◌∙◌}
use mathlib.Core.Bool.{Bool, true, false}
use mathlib.Core.List.{List, [], ◌∷◌}
use Prim.Native.Nat.{ℕ}
use lib.Dec.{eqb}
use Rattle.std.specs.List.{slice_get}
use Rattle.std.proofs.Common.{Some, None}
use borrow.Author.Tests.{eq-eqb, eqb-true}
use Rattle.state.specs.declared.State.{State}
use Rattle.state.specs.declared.State.TheVariants.{Boot, Swap, Revert, DfuDetach}
use Rattle.state.specs.Choice.{pick}
use Rattle.state.specs.Magic.{magic, throughout, state_of}

-- a word that holds Swap's magic throughout reads Swap
pub is_swap_lem : (w : List ℕ) → throughout 0xF0 w ≡ true → Swap ≡ state_of w
unfolding state_of pick magic
is_swap_lem w e = rw e

-- no bytes read Swap
pub none_swap : (w : List ℕ) → None ≡ slice_get w 0 → Swap ≡ state_of w
unfolding throughout
none_swap [] e = is_swap_lem [] refl
none_swap (x ∷ xs) e = cc

-- a word that holds its first byte throughout holds v throughout just if that byte is v
module _ (x : ℕ) (xs : List ℕ) where
  filled_by : (v : ℕ) → throughout x (x ∷ xs) ≡ true → throughout v (x ∷ xs) ≡ throughout v (x ∷ [])
  unfolding throughout pick
  filled_by v e = go _ refl
    where
      go : (b : Bool) → eqb x v ≡ b → pick b (throughout v xs) false ≡ pick b true false
      go true q = sym (ap (λ (u : ℕ). throughout u xs) (eqb-true x v q)) ∙ (rw (eq-eqb x x refl) at e)
      go false q = refl

  -- and one that does not holds nothing throughout
  mixed_by : (v : ℕ) → throughout x (x ∷ xs) ≡ false → throughout v (x ∷ xs) ≡ false
  unfolding throughout pick
  mixed_by v e = go _ refl
    where
      go : (b : Bool) → eqb x v ≡ b → pick b (throughout v xs) false ≡ false
      go true q = sym (ap (λ (u : ℕ). throughout u xs) (eqb-true x v q)) ∙ (rw (eq-eqb x x refl) at e)
      go false q = refl

-- so it reads as its first byte does, or Boot
pub first_filled : (x : ℕ) (w : List ℕ) → Some x ≡ slice_get w 0 → throughout x w ≡ true → state_of (x ∷ []) ≡ state_of w
unfolding state_of
first_filled x [] h e = cc
first_filled x (y ∷ ys) h e =
    let same : x ≡ y = cc in
    let t : throughout y (y ∷ ys) ≡ true = rw same at e in
    rw same (sym (rw (filled_by y ys (magic Swap) t, filled_by y ys (magic Revert) t, filled_by y ys (magic DfuDetach) t)))

pub first_mixed : (x : ℕ) (w : List ℕ) → Some x ≡ slice_get w 0 → throughout x w ≡ false → Boot ≡ state_of w
unfolding state_of pick
first_mixed x [] h e = cc
first_mixed x (y ∷ ys) h e =
    let same : x ≡ y = cc in
    let t : throughout y (y ∷ ys) ≡ false = rw same at e in
    rw (mixed_by y ys (magic Swap) t, mixed_by y ys (magic Revert) t, mixed_by y ys (magic DfuDetach) t)

-- a state's own byte reads as that state
pub magic_back : (s : State) → state_of (magic s ∷ []) ≡ s
unfolding state_of throughout pick magic
magic_back Boot = refl
magic_back Swap = refl
magic_back Revert = refl
magic_back DfuDetach = refl
