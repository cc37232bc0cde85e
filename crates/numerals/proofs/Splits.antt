-- Laws of cutting at a byte: where the search for it ends, and the words on either side. Assumes nothing.
use mathlib.Core.Path.{◌≡◌, refl, ap, sym, ◌∙◌}
use mathlib.Core.Bool.{Bool, true, false, cond, not}
use Rattle.std.proofs.Common.{Option, None, Some}
use Rattle.std.specs.Option.{unwrap_or}
use Rattle.std.specs.List.{position, position_or_len}
use mathlib.Core.List.{List, [], ◌∷◌}
use Prim.Native.Nat.{ℕ, suc, ◌+◌, ◌-◌, ◌≤◌, ◌<◌}
use native.Mathlib.Numerals.{add-one}
use native.Mathlib.Omega.{arith}
use lib.Dec.{eqb, ltb}
use lib.ListN.{length, take, drop, length-drop}
use lib.Seq.{take_all}
use borrow.Author.Tests.{ltb-false}
use Rattle.state.specs.Choice.{pick}
use Rattle.numerals.specs.Text.{grown, split, first}

-- ---- where std's search ends

first_by : (t : Bool) (n : ℕ) → pick t 0 (suc n) ≡ cond (not t) (1 + n) 0
unfolding pick
first_by true n = refl
first_by false n = omega arith

pub first_is : (c : ℕ) (xs : List ℕ) → first c xs ≡ position_or_len (λ b. eqb b c) xs
unfolding first
first_is c [] = refl
first_is c (b ∷ bs) = rw (first_is c bs) (first_by (eqb b c) (position_or_len (λ b. eqb b c) bs))

pick_le : (t : Bool) (n m : ℕ) → n ≤ m → pick t 0 (suc n) ≤ suc m
unfolding pick
pick_le true n m h = omega arith
pick_le false n m h = omega arith

pub first_le : (c : ℕ) (xs : List ℕ) → first c xs ≤ length xs
unfolding first
first_le c [] = omega arith
first_le c (b ∷ bs) = pick_le (eqb b c) (first c bs) (length bs) (first_le c bs)

found_by : (t : Bool) (k n r : ℕ) → ltb k n ≡ t → k ≤ n → r ≡ unwrap_or (cond t (Some k) None) n → r ≡ k
found_by true k n r e l h = h
found_by false k n r e l h = omega (arith, h, ltb-false k n e)

-- what its answer is, with the length where there is none
pub first_found : (c : ℕ) (xs : List ℕ) (o : Option ℕ) (r : ℕ) → o ≡ position (λ b. eqb b c) xs → r ≡ unwrap_or o (length xs) → r ≡ first c xs
first_found c xs o r e h =
    let l : position_or_len (λ b. eqb b c) xs ≤ length xs = omega (arith, first_is c xs, first_le c xs) in
    found_by _ (position_or_len (λ b. eqb b c) xs) (length xs) r refl l (rw e at h) ∙ sym (first_is c xs)

-- ---- the words, the first of them apart

last_by : (t : Bool) (c b : ℕ) (bs : List ℕ) → (first c bs ≡ length bs → split c bs ≡ bs ∷ [])
    → pick t 0 (suc (first c bs)) ≡ suc (length bs) → pick t ([] ∷ split c bs) (grown b (split c bs)) ≡ (b ∷ bs) ∷ []
unfolding pick grown
last_by true c b bs ih e = absurd (omega arith)
last_by false c b bs ih e = ap (grown b) (ih (omega arith))

pub split_last : (c : ℕ) (xs : List ℕ) → first c xs ≡ length xs → split c xs ≡ xs ∷ []
unfolding first split
split_last c [] e = refl
split_last c (b ∷ bs) e = last_by (eqb b c) c b bs (split_last c bs) e

next_by : (t : Bool) (c b : ℕ) (bs : List ℕ)
    → (first c bs < length bs → split c bs ≡ take (first c bs) bs ∷ split c (drop (suc (first c bs)) bs))
    → pick t 0 (suc (first c bs)) < suc (length bs)
    → pick t ([] ∷ split c bs) (grown b (split c bs))
    ≡ take (pick t 0 (suc (first c bs))) (b ∷ bs) ∷ split c (drop (suc (pick t 0 (suc (first c bs)))) (b ∷ bs))
unfolding pick grown
next_by true c b bs ih h = refl
next_by false c b bs ih h = ap (grown b) (ih (omega arith))

pub split_next : (c : ℕ) (xs : List ℕ) → first c xs < length xs
    → split c xs ≡ take (first c xs) xs ∷ split c (drop (suc (first c xs)) xs)
unfolding first split
split_next c [] h = absurd (omega arith)
split_next c (b ∷ bs) h = next_by (eqb b c) c b bs (split_next c bs) h

head_by : (t : Bool) (b f : ℕ) (bs : List ℕ) (ws : List (List ℕ)) → ws ≡ take f bs ∷ drop 1 ws
    → pick t ([] ∷ ws) (grown b ws) ≡ take (pick t 0 (suc f)) (b ∷ bs) ∷ drop 1 (pick t ([] ∷ ws) (grown b ws))
unfolding pick grown
head_by true b f bs ws e = refl
head_by false b f bs [] e = cc
head_by false b f bs (w ∷ ws) e = cc

-- there is always a first word
pub split_head : (c : ℕ) (xs : List ℕ) → split c xs ≡ take (first c xs) xs ∷ drop 1 (split c xs)
unfolding first split
split_head c [] = refl
split_head c (b ∷ bs) = head_by (eqb b c) b (first c bs) bs (split c bs) (split_head c bs)

-- ---- one word taken off

module _ (c : ℕ) (xs : List ℕ) where
  pub cut_all : first c xs ≡ length xs → split c xs ≡ xs ∷ []
  cut_all = split_last c xs

  pub cut_on : first c xs < length xs
      → split c xs ≡ take (first c xs) xs ∷ split c (take (length xs - (first c xs + 1)) (drop (first c xs + 1) xs))
  cut_on l =
      let w : length (drop (first c xs + 1) xs) ≤ length xs - (first c xs + 1) = omega (arith, length-drop (first c xs + 1) xs) in
      rw (take_all _ _ w, add-one) (split_next c xs l)
