-- Laws of the state area's words, marks and progress, for any word size. The loader's search for the first open mark cites
-- them, a turn and an end each. Assumes nothing.
use mathlib.Core.Path.{◌≡◌, refl, ap, ◌∙◌, sym}
use mathlib.Core.Bool.{Bool, true, false}
use mathlib.Core.List.{List, [], ◌∷◌, ◌++◌}
use Prim.Native.Nat.{ℕ, suc, ◌+◌, ◌-◌, ◌≤◌, ◌<◌}
use native.Mathlib.Numerals.{add-one}
use native.Mathlib.Omega.{arith}
use lib.Dec.{eqb}
use borrow.Author.Tests.{eq-eqb}
use Rattle.state.specs.Choice.{pick}
use Rattle.state.specs.Cells.{erased}
use Rattle.state.specs.Magic.{holds}
use Rattle.geometry.specs.declared.StateSizes.{StateSizes}
use Rattle.geometry.specs.Geometry.{cell}
use Rattle.rules.specs.StateArea.{word, valid, mark_open, most_marks, first_open, marks_done, progress}

-- ---- a mark

pub pick_true : (b : Bool) → pick b true true ≡ true
unfolding pick
pick_true true = refl
pick_true false = refl

pub holds_within : (v : ℕ) (xs ys : List ℕ) → holds v (xs ++ (v ∷ ys)) ≡ true
unfolding holds pick
holds_within v [] ys = rw (eq-eqb v v refl)
holds_within v (x ∷ xs) ys = rw (holds_within v xs ys) (pick_true (eqb x v))

-- one erased byte, wherever it stands, keeps a mark open: 00 FF 00 00 is not done
pub mark_open_lem : (z : StateSizes) (i : ℕ) (st xs ys : List ℕ) → word z (2 + i) st ≡ xs ++ ((erased (cell z)) ∷ ys) → mark_open z st i ≡ true
unfolding mark_open
mark_open_lem z i st xs ys e = ap (holds (erased (cell z))) e ∙ holds_within (erased (cell z)) xs ys

-- ---- the progress

pub progress_invalid : (z : StateSizes) (st : List ℕ) → valid z st ≡ false → progress z st ≡ most_marks z st
unfolding progress pick
progress_invalid z st e = rw e

pub progress_valid : (z : StateSizes) (st : List ℕ) → valid z st ≡ true → progress z st ≡ marks_done z st
unfolding progress pick
progress_valid z st e = rw e

module _ (z : StateSizes) (most i : ℕ) (st : List ℕ) (h : i < most) where
  pub open_here : mark_open z st i ≡ true → first_open z st (most - i) i ≡ i
  unfolding first_open pick
  open_here e =
      let s : most - i ≡ suc (most - (i + 1)) = omega arith in
      rw (s, e)

  pub open_turn : mark_open z st i ≡ false → first_open z st (most - (i + 1)) (i + 1) ≡ first_open z st (most - i) i
  unfolding first_open pick
  open_turn e =
      let s : most - i ≡ suc (most - (i + 1)) = omega arith in
      sym (rw (s, e) (simp add-one))

pub open_end : (z : StateSizes) (most i : ℕ) (st : List ℕ) → most ≤ i → first_open z st (most - i) i ≡ i
unfolding first_open
open_end z most i st h =
    let s : most - i ≡ 0 = omega arith in
    rw s
