-- Laws of the numbers that words are, for the loops of `number` and `row`. Assumes nothing.
use mathlib.Core.Path.{◌≡◌, refl, ap, sym}
use mathlib.Core.Bool.{Bool, true, false, ◌&&◌}
use Rattle.std.specs.Char.{is_ascii_digit}
use mathlib.Core.List.{List, [], ◌∷◌, ◌++◌, append_assoc}
use Rattle.std.proofs.Common.{Option, None, Some}
use Prim.Native.Nat.{ℕ, ◌+◌, ◌*◌, ◌-◌, ◌≤◌, ◌<◌}
use native.Mathlib.Numerals.{add-one}
use native.Mathlib.Nat.{le_trans}
use native.Mathlib.Omega.{arith}
use lib.Dec.{leb}
use lib.ListN.{length, drop, get_or, length-append}
use lib.Seq.{drop-cons}
use borrow.Author.Tests.{le-leb, lt-leb, ne_eqb}
use Rattle.state.specs.Choice.{pick}
use Rattle.numerals.specs.Text.{digit, digits, value, up_to, most_number, number, more, numbers, exactly}

same : {A : Type 0} (t : Bool) (x : A) → x ≡ pick t x x
unfolding pick
same true x = refl
same false x = refl

-- ---- one word

pub is_digit : (b : ℕ) → 48 ≤ b → b ≤ 57 → digit b ≡ true
unfolding digit pick
is_digit b l h = rw (le-leb 48 b l, le-leb b 57 h)

digit_by : (s t : Bool) → pick s t false ≡ (s && t)
unfolding pick
digit_by true t = refl
digit_by false t = refl

-- std's test is the definition's
pub digit_is_std : (b : ℕ) → is_ascii_digit b ≡ digit b
unfolding digit
digit_is_std b = sym (digit_by (leb 48 b) (leb b 57))

module _ (i : ℕ) (w : List ℕ) (h : i < length w) where
  pub digits_turn : digit (get_or w i 0) ≡ true → digits (drop i w) ≡ digits (drop (i + 1) w)
  unfolding digits pick
  digits_turn e = rw (drop-cons w i 0 h, e) (simp add-one)

  pub digits_not : digit (get_or w i 0) ≡ false → digits (drop i w) ≡ false
  unfolding digits pick
  digits_not e = rw (drop-cons w i 0 h, e)

  pub value_turn : (n : ℕ) → value n (drop i w) ≡ value (n * 10 + (get_or w i 0 - 48)) (drop (i + 1) w)
  unfolding value
  value_turn n = rw (drop-cons w i 0 h) (simp add-one)

pub value_grows : (n : ℕ) (w : List ℕ) → n ≤ value n w
unfolding value
value_grows n [] = omega arith
value_grows n (b ∷ bs) =
    let l : n ≤ n * 10 + (b - 48) = omega arith in
    le_trans l (value_grows (n * 10 + (b - 48)) bs)

-- a digit more, and the value is at least so much
pub value_reaches : (w : List ℕ) (i n : ℕ) → i < length w → value 0 w ≡ value n (drop i w) → n * 10 + (get_or w i 0 - 48) ≤ value 0 w
value_reaches w i n h e = rw (e, value_turn i w h n) (value_grows _ _)

pub number_empty : (w : List ℕ) → length w ≡ 0 → None ≡ number w
unfolding number
number_empty [] e = refl
number_empty (b ∷ bs) e = absurd (omega arith)

pub number_not : (w : List ℕ) → digits w ≡ false → None ≡ number w
unfolding number pick
number_not [] e = refl
number_not (b ∷ bs) e = sym (rw e)

pub number_over : (w : List ℕ) → most_number < value 0 w → None ≡ number w
unfolding number up_to pick
number_over [] h = refl
number_over (b ∷ bs) h = rw (lt-leb (value 0 (b ∷ bs)) most_number h) (same (digits (b ∷ bs)) None)

pub number_is : (n : ℕ) (w : List ℕ) → 0 < length w → digits w ≡ true → value 0 w ≡ n → n ≤ most_number → Some n ≡ number w
unfolding number up_to pick
number_is n [] p d v h = absurd (omega arith)
number_is n (b ∷ bs) p d v h = sym (rw (d, v, le-leb n most_number h))

-- ---- a row of words

-- numbers in front of those that the rest is
unfoldable pub ahead : List ℕ → Option (List ℕ) → Option (List ℕ)
ahead xs None = None
ahead xs (Some ns) = Some (xs ++ ns)

pub ahead_nil : (o : Option (List ℕ)) → o ≡ ahead [] o
unfolding ahead
ahead_nil None = refl
ahead_nil (Some ns) = refl

ahead_more : (xs : List ℕ) (n : ℕ) (o : Option (List ℕ)) → ahead xs (more (Some n) o) ≡ ahead (xs ++ (n ∷ [])) o
unfolding ahead more
ahead_more xs n None = refl
ahead_more xs n (Some ns) = ap Some (sym (append_assoc xs (n ∷ []) ns))

-- a word that is a number
pub numbers_turn : (xs w : List ℕ) (n : ℕ) (ws : List (List ℕ)) → Some n ≡ number w → ahead xs (numbers (w ∷ ws)) ≡ ahead (xs ++ (n ∷ [])) (numbers ws)
unfolding numbers
numbers_turn xs w n ws e = rw (← e) (ahead_more xs n (numbers ws))

-- and one that is none
pub numbers_not : (k : ℕ) (xs w : List ℕ) (ws : List (List ℕ)) → None ≡ number w → None ≡ exactly k (ahead xs (numbers (w ∷ ws)))
unfolding numbers more ahead exactly
numbers_not k xs w ws e = rw (← e) refl

many_by : (k : ℕ) (xs : List ℕ) (m : Option ℕ) (o : Option (List ℕ)) → k ≤ length xs → None ≡ exactly k (ahead xs (more m o))
unfolding more ahead exactly pick
many_by k xs None o h = refl
many_by k xs (Some n) None h = refl
many_by k xs (Some n) (Some ns) h = rw (ne_eqb (length (xs ++ (n ∷ ns))) k (λ e. omega (arith, length-append xs (n ∷ ns)))) refl

-- a word where there is no room for it
pub numbers_many : (k : ℕ) (xs w : List ℕ) (ws : List (List ℕ)) → k ≤ length xs → None ≡ exactly k (ahead xs (numbers (w ∷ ws)))
unfolding numbers
numbers_many k xs w ws h = many_by k xs (number w) (numbers ws) h
