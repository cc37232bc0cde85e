-- A word is read as n just if it is n in decimal. Assumes nothing.
use mathlib.Core.Path.{◌≡◌, refl, sym, ◌∙◌}
use mathlib.Core.Bool.{Bool, true, false}
use mathlib.Core.List.{List, [], ◌∷◌, ◌++◌, append_assoc, append-nil}
use Rattle.std.proofs.Common.{None, Some}
use Prim.Native.Nat.{ℕ, zero, suc, ◌+◌, ◌*◌, ◌-◌, ◌/◌, ◌%◌, ◌^◌, ◌≤◌, ◌<◌}
use native.Mathlib.Nat.{add-zero, zero-add, lt_of_lt_of_le, mul-le-mul_right, mul_assoc, pow-suc, pow-succ'}
use native.Mathlib.Omega.{arith}
use lib.Dec.{leb}
use lib.ListN.{length}
use borrow.Author.Tests.{leb-true}
use Rattle.state.specs.Choice.{pick}
use Rattle.numerals.specs.Text.{digit, digits, value, up_to, most_number, number}
use Rattle.numerals.specs.Grammar.{spelled, Written}
use Rattle.numerals.proofs.Numbers.{is_digit, number_is}

-- ---- what a word must be to be a number

digit_by : (s t : Bool) (b : ℕ) → leb 48 b ≡ s → leb b 57 ≡ t → pick s t false ≡ true → (48 ≤ b) × (b ≤ 57)
unfolding pick
digit_by true true b l h e = (leb-true 48 b l, leb-true b 57 h)
digit_by true false b l h e = let z : ◌≡◌ {A = ℕ} 0 1 = cc in absurd (omega arith)
digit_by false t b l h e = let z : ◌≡◌ {A = ℕ} 0 1 = cc in absurd (omega arith)

pub digit_is : (b : ℕ) → digit b ≡ true → (48 ≤ b) × (b ≤ 57)
unfolding digit
digit_is b e = digit_by (leb 48 b) (leb b 57) b refl refl e

both_by : (s t : Bool) → pick s t false ≡ true → (s ≡ true) × (t ≡ true)
unfolding pick
both_by true t e = (refl, e)
both_by false t e = let z : ◌≡◌ {A = ℕ} 0 1 = cc in absurd (omega arith)

pub digits_are : (b : ℕ) (bs : List ℕ) → digits (b ∷ bs) ≡ true → (digit b ≡ true) × (digits bs ≡ true)
unfolding digits
digits_are b bs e = both_by (digit b) (digits bs) e

up_by : (t : Bool) (m n v : ℕ) → leb v m ≡ t → pick t (Some v) None ≡ Some n → (v ≡ n) × (v ≤ m)
unfolding pick
up_by true m n v l e = (cc, leb-true v m l)
up_by false m n v l e = let z : ◌≡◌ {A = ℕ} 0 1 = cc in absurd (omega arith)

some_by : (t : Bool) (n v : ℕ) → pick t (up_to most_number v) None ≡ Some n → (t ≡ true) × (v ≡ n) × (v ≤ most_number)
unfolding pick up_to
some_by true n v e = let u = up_by (leb v most_number) most_number n v refl e in (refl, u.0, u.1)
some_by false n v e = let z : ◌≡◌ {A = ℕ} 0 1 = cc in absurd (omega arith)

pub number_some : (w : List ℕ) (n : ℕ) → number w ≡ Some n → (0 < length w) × (digits w ≡ true) × (value 0 w ≡ n) × (n ≤ most_number)
unfolding number
number_some [] n e = let z : ◌≡◌ {A = ℕ} 0 1 = cc in absurd (omega arith)
number_some (b ∷ bs) n e =
    let s = some_by (digits (b ∷ bs)) n (value 0 (b ∷ bs)) e in
    (omega arith, s.0, s.1, omega (arith, s.1, s.2))

-- ---- digits spell their value

-- one digit more
spelled_digit : (k a b : ℕ) → 48 ≤ b → b ≤ 57 → spelled (suc k) (a * 10 + (b - 48)) ≡ spelled k a ++ (b ∷ [])
unfolding spelled
spelled_digit k a b l h =
    let q : (a * 10 + (b - 48)) / 10 ≡ a = omega arith in
    let r : 48 + (a * 10 + (b - 48)) % 10 ≡ b = omega arith in
    rw (q, r) refl

spelled_value : (w : List ℕ) (k a : ℕ) → digits w ≡ true → spelled (k + length w) (value a w) ≡ spelled k a ++ w
unfolding value
spelled_value [] k a e = rw (add-zero k, append-nil (spelled k a)) refl
spelled_value (b ∷ bs) k a e =
    let d = digits_are b bs e in
    let g = digit_is b d.0 in
    let s : k + suc (length bs) ≡ suc k + length bs = omega arith in
    rw s
    (spelled_value bs (suc k) (a * 10 + (b - 48)) d.1
    ∙ rw (spelled_digit k a b g.0 g.1) (append_assoc (spelled k a) (b ∷ []) bs))

value_below : (w : List ℕ) (a : ℕ) → digits w ≡ true → value a w < (a + 1) * 10 ^ length w
unfolding value
value_below [] a e = omega arith
value_below (b ∷ bs) a e =
    let d = digits_are b bs e in
    let g = digit_is b d.0 in
    let l : a * 10 + (b - 48) + 1 ≤ (a + 1) * 10 = omega arith in
    rw (pow-succ' 10 (length bs), ← mul_assoc (a + 1) 10 (10 ^ length bs))
    (lt_of_lt_of_le (value_below bs (a * 10 + (b - 48)) d.1) (mul-le-mul_right (10 ^ length bs) l))

pub number_written : (w : List ℕ) (n : ℕ) → number w ≡ Some n → Written w n
unfolding spelled
number_written w n e =
    let s = number_some w n e in
    record {
      some = s.0;
      most = s.3;
      fits = rw (← s.2) (omega (arith, value_below w 0 s.1));
      text = rw (← s.2) (sym (rw zero-add at (spelled_value w 0 0 s.1)));
    }

-- ---- and back

value_append : (a : ℕ) (xs ys : List ℕ) → value a (xs ++ ys) ≡ value (value a xs) ys
unfolding value
value_append a [] ys = refl
value_append a (x ∷ xs) ys = value_append (a * 10 + (x - 48)) xs ys

digits_append : (xs ys : List ℕ) → digits xs ≡ true → digits ys ≡ true → digits (xs ++ ys) ≡ true
unfolding digits pick
digits_append [] ys p q = q
digits_append (x ∷ xs) ys p q = let d = digits_are x xs p in rw d.0 (digits_append xs ys d.1 q)

spelled_digits : (k n : ℕ) → digits (spelled k n) ≡ true
unfolding spelled digits pick
spelled_digits zero n = refl
spelled_digits (suc k) n =
    digits_append (spelled k (n / 10)) ((48 + n % 10) ∷ []) (spelled_digits k (n / 10)) (rw (is_digit (48 + n % 10) (omega arith) (omega arith)) refl)

spelled_is : (k n : ℕ) → n < 10 ^ k → value 0 (spelled k n) ≡ n
unfolding spelled value
spelled_is zero n h = omega arith
spelled_is (suc k) n h =
    let l : n / 10 < 10 ^ k = omega (arith, pow-suc 10 k) in
    value_append 0 (spelled k (n / 10)) ((48 + n % 10) ∷ []) ∙ rw (spelled_is k (n / 10) l) (omega arith)

pub written_number : (w : List ℕ) (n : ℕ) → Written w n → Some n ≡ number w
written_number w n h =
    number_is n w h.some
    (rw h.text (spelled_digits (length w) n))
    (rw h.text (spelled_is (length w) n h.fits))
    h.most
