-- Laws of what a line says: the three kinds of line from a row of numbers, and a command's name. Assumes nothing.
use mathlib.Core.Path.{◌≡◌, refl, ap, sym, ◌∙◌}
use mathlib.Core.Bool.{Bool, true, false, ◌&&◌}
use Rattle.std.specs.Cmp.Lexicographic.{pointwise}
use mathlib.Core.List.{List, [], ◌∷◌}
use Rattle.std.proofs.Common.{None, Some}
use Prim.Native.Nat.{ℕ, ◌≤◌, ◌<◌}
use native.Mathlib.Omega.{arith}
use lib.Dec.{eqb, leb}
use lib.ListN.{length, get_or}
use borrow.Author.Tests.{eqb-true, le-leb, lt-leb, leb-true, leb-false}
use Rattle.state.specs.Choice.{pick}
use Rattle.numerals.specs.Text.{numbers, exactly, up_to, row}
use Rattle.numerals.proofs.Grammar.{row_written}
use Rattle.lines.specs.Lines.{alike, short, most_length, lengths_of, lengths_line, ordered, command_of}

-- ---- one length

no_by : (t : Bool) (most n : ℕ) → leb n most ≡ t → None ≡ pick t (Some n) None → most < n
unfolding pick
no_by true most n l e = let z : ◌≡◌ {A = ℕ} 0 1 = cc in absurd (omega arith)
no_by false most n l e = leb-false n most l

pub too_long : (most n : ℕ) → None ≡ up_to most n → most < n
unfolding up_to
too_long most n e = no_by _ most n refl e

yes_by : (t : Bool) (most n m : ℕ) → leb n most ≡ t → Some m ≡ pick t (Some n) None → (m ≡ n) × (n ≤ most)
unfolding pick
yes_by true most n m l e = (cc, leb-true n most l)
yes_by false most n m l e = let z : ◌≡◌ {A = ℕ} 0 1 = cc in absurd (omega arith)

pub fits : (most n m : ℕ) → Some m ≡ up_to most n → (m ≡ n) × (n ≤ most)
unfolding up_to
fits most n m e = yes_by _ most n m refl e

-- ---- three lengths

three_are : (ns : List ℕ) → length ns ≡ 3 → ns ≡ get_or ns 0 0 ∷ get_or ns 1 0 ∷ get_or ns 2 0 ∷ []
three_are [] e = absurd (omega arith)
three_are (a ∷ []) e = absurd (omega arith)
three_are (a ∷ b ∷ []) e = absurd (omega arith)
three_are (a ∷ b ∷ c ∷ []) e = refl
three_are (a ∷ b ∷ c ∷ d ∷ ns) e = absurd (omega arith)

module _ (line ns : List ℕ) (e : Some ns ≡ row 3 line) where
  three : ns ≡ get_or ns 0 0 ∷ get_or ns 1 0 ∷ get_or ns 2 0 ∷ []
  three = three_are ns (row_written 3 line ns (sym e)).1

  -- by what is said of the numbers
  said : (t : Bool) → short (get_or ns 0 0 ∷ get_or ns 1 0 ∷ get_or ns 2 0 ∷ []) ≡ t
      → pick t (Some (record { active = get_or ns 0 0; dfu = get_or ns 1 0; state = get_or ns 2 0 })) None ≡ lengths_line line
  unfolding lengths_line lengths_of
  said t h = rw (← e, ap short three, h) refl

  pub first_long : None ≡ up_to most_length (get_or ns 0 0) → None ≡ lengths_line line
  unfolding short pick
  first_long p = said false (rw (lt-leb _ _ (too_long most_length _ p)) refl)

  module _ (a : ℕ) (p : Some a ≡ up_to most_length (get_or ns 0 0)) where
    pub second_long : None ≡ up_to most_length (get_or ns 1 0) → None ≡ lengths_line line
    unfolding short pick
    second_long q = said false (rw (le-leb _ _ (fits most_length _ a p).1, lt-leb _ _ (too_long most_length _ q)) refl)

    module _ (d : ℕ) (q : Some d ≡ up_to most_length (get_or ns 1 0)) where
      pub third_long : None ≡ up_to most_length (get_or ns 2 0) → None ≡ lengths_line line
      unfolding short pick
      third_long r =
          said false
          (rw (le-leb _ _ (fits most_length _ a p).1, le-leb _ _ (fits most_length _ d q).1, lt-leb _ _ (too_long most_length _ r)) refl)

      pub all_short : (s : ℕ) → Some s ≡ up_to most_length (get_or ns 2 0)
          → Some (record { active = a; dfu = d; state = s }) ≡ lengths_line line
      unfolding short pick
      all_short s r =
          let x = fits most_length _ a p in
          let y = fits most_length _ d q in
          let z = fits most_length _ s r in
          rw (x.0, y.0, z.0) (said true (rw (le-leb _ _ x.1, le-leb _ _ y.1, le-leb _ _ z.1) refl))

-- ---- a command

-- a line without a space
pub alone : (w : List ℕ) → None ≡ command_of (w ∷ [])
unfolding command_of ordered numbers exactly pick
alone w = refl

-- ---- a name

alike_by : (t : Bool) (x y : ℕ) (xs ys : List ℕ) → eqb x y ≡ t → (alike xs ys ≡ true → xs ≡ ys) → pick t (alike xs ys) false ≡ true → x ∷ xs ≡ y ∷ ys
unfolding pick
alike_by true x y xs ys e ih h = let a : x ≡ y = eqb-true x y e in let b : xs ≡ ys = ih h in cc
alike_by false x y xs ys e ih h = cc

pub alike_are : (xs ys : List ℕ) → alike xs ys ≡ true → xs ≡ ys
unfolding alike
alike_are [] [] h = refl
alike_are [] (y ∷ ys) h = cc
alike_are (x ∷ xs) [] h = cc
alike_are (x ∷ xs) (y ∷ ys) h = alike_by (eqb x y) x y xs ys refl (alike_are xs ys) h

-- what `==` answers
same_by : (t : Bool) (x y : Bool) → x ≡ y → (t && x) ≡ pick t y false
unfolding pick
same_by true x y e = e
same_by false x y e = refl

pointwise_is : (xs ys : List ℕ) → pointwise eqb xs ys ≡ alike xs ys
unfolding alike
pointwise_is [] [] = refl
pointwise_is [] (y ∷ ys) = refl
pointwise_is (x ∷ xs) [] = refl
pointwise_is (x ∷ xs) (y ∷ ys) = same_by (eqb x y) _ _ (pointwise_is xs ys)

pub same_is : {r : Bool} (xs ys : List ℕ) → r ≡ pointwise eqb xs ys → alike xs ys ≡ r
same_is xs ys e = sym (e ∙ pointwise_is xs ys)
