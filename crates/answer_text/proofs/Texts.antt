-- Laws of putting text together. Assumes nothing.
use mathlib.Core.Path.{◌≡◌, refl, ap, sym, ◌∙◌}
use mathlib.Core.Bool.{Bool, true, false}
use mathlib.Core.List.{List, [], ◌∷◌, ◌++◌, append_assoc}
use Prim.Native.Nat.{ℕ, zero, suc, min, ◌+◌, ◌-◌, ◌*◌, ◌/◌, ◌%◌, ◌^◌, ◌≤◌, ◌<◌}
use native.Mathlib.Nat.{pow-le-pow_right, pow-succ', one-le-pow, mod-eq_of_lt}
use native.Mathlib.Numerals.{add-one}
use native.Mathlib.Omega.{arith}
use lib.Dec.{leb}
use lib.ListN.{length, take, get_or}
use lib.Seq.{take-length, take-suc, take_all, length-take-le}
use borrow.Author.Tests.{leb-true, leb-false, lt-ltb, le-ltb}
use Rattle.io.specs.Digits.{hex_digit_ascii, last_digits, IsDigitCount}
use Rattle.state.specs.Choice.{pick}
use Rattle.rules.specs.Calls.{Report}
use Rattle.lines.specs.declared.Command.{Command}
use Rattle.numerals.specs.Text.{space}
use Rattle.lines.specs.Lines.{line_feed}
use Rattle.lines.specs.Grammar.{name_of}
use Rattle.answer_text.specs.Answers.{decimal_in, decimal, state_text, command_text, bad_line, bad_line_text, hex_of}

-- ---- decimal

-- the fewest digits of a number are its decimal
digits_in : (k m n : ℕ) → n < m → IsDigitCount 10 1 n k → last_digits 10 k n ≡ decimal_in m n
unfolding decimal_in pick
digits_in zero m n h f = absurd (omega (arith, f.0))
digits_in (suc k) zero n h f = absurd (omega arith)
digits_in (suc zero) (suc m) n h f =
    let l : n < 10 = omega (arith, f.1) in
    rw (mod-eq_of_lt {n = n} {m = 10} l, lt-ltb n 10 l) refl
digits_in (suc (suc j)) (suc m) n h f =
    let p : 10 ^ suc (suc j) ≡ 10 * 10 ^ suc j = pow-succ' 10 (suc j) in
    let q : 10 ^ suc j ≡ 10 * 10 ^ j = pow-succ' 10 j in
    let u : suc (suc j) - 1 ≡ suc j = omega arith in
    let v : suc j - 1 ≡ j = omega arith in
    let b : 10 ^ suc j ≤ n = rw u at (f.2 (omega arith)) in
    let o : 1 ≤ 10 ^ j = one-le-pow j 10 (omega arith) in
    let t : 10 ≤ n = omega arith in
    rw (le-ltb n 10 t)
    (ap (λ (x : List ℕ). x ++ (hex_digit_ascii (n % 10) ∷ []))
    (digits_in (suc j) m (n / 10) (omega arith) (omega arith, omega (arith, f.1), λ _. rw v (omega arith))))

pub decimal_is : (k n : ℕ) → IsDigitCount 10 1 n k → last_digits 10 k n ≡ decimal n
unfolding decimal
decimal_is k n f = digits_in k (suc n) n (omega arith) f

-- 64 bits take at most 20 digits
few_by : (t : Bool) (x k : ℕ) → leb k 20 ≡ t → x < 2 ^ 64 → (1 < k → 10 ^ (k - 1) ≤ x) → k ≤ 20
few_by true x k e h f = leb-true k 20 e
few_by false x k e h f =
    let l : 20 < k = leb-false k 20 e in
    let p : 10 ^ 20 ≤ 10 ^ (k - 1) = pow-le-pow_right {n = 10} (omega arith) {i = 20} {j = k - 1} (omega arith) in
    absurd (omega (arith, p, f (omega arith)))

pub few_digits : (x k : ℕ) → x < 2 ^ 64 → IsDigitCount 10 1 x k → k ≤ 20
few_digits x k h f = few_by (leb k 20) x k refl h f.2

-- ---- the lines, part by part

module _ (c : Command) (t : Report) (o₀ o₁ o₂ o₃ o₄ o₅ o₆ : List ℕ) (none : o₀ ≡ []) (name : o₁ ≡ o₀ ++ name_of c)
    (gap : o₂ ≡ o₁ ++ (space ∷ [])) (number : o₃ ≡ o₂ ++ decimal t.number)
    (state : o₄ ≡ o₃ ++ (space ∷ state_text t.state ∷ space ∷ [])) (count : o₅ ≡ o₄ ++ decimal t.count)
    (end : o₆ ≡ o₅ ++ (line_feed ∷ [])) where
  pub line_answered : o₆ ≡ command_text c t
  unfolding command_text
  line_answered = rw (end, count, state, number, gap, name, none) (simp append_assoc)

module _ (x : ℕ) (o₀ o₁ o₂ o₃ : List ℕ) (none : o₀ ≡ []) (words : o₁ ≡ o₀ ++ bad_line) (number : o₂ ≡ o₁ ++ decimal x)
    (end : o₃ ≡ o₂ ++ (line_feed ∷ [])) where
  pub line_bad : o₃ ≡ bad_line_text x
  unfolding bad_line_text
  line_bad = rw (end, number, words, none) (simp append_assoc)

-- ---- hexadecimal

hex_on : (xs : List ℕ) (b : ℕ) → hex_of (xs ++ (b ∷ [])) ≡ hex_of xs ++ (hex_digit_ascii (b / 16) ∷ hex_digit_ascii (b % 16) ∷ [])
unfolding hex_of
hex_on [] b = refl
hex_on (x ∷ xs) b = ap (λ t. hex_digit_ascii (x / 16) ∷ hex_digit_ascii (x % 16) ∷ t) (hex_on xs b)

hex_length : (xs : List ℕ) → length (hex_of xs) ≡ 2 * length xs
unfolding hex_of
hex_length [] = refl
hex_length (x ∷ xs) = omega (arith, hex_length xs)

module _ (bytes text : List ℕ) (i : ℕ) (so_far : text ≡ hex_of (take i bytes)) where
  pub hex_count : i ≤ length bytes → length text ≡ 2 * i
  hex_count h = rw so_far (omega (arith, hex_length (take i bytes), length-take-le i bytes h))

  -- one byte more
  pub hex_turn : (h l : ℕ) (text' : List ℕ) → i < length bytes → h ≡ hex_digit_ascii (get_or bytes i 0 / 16)
      → l ≡ hex_digit_ascii (get_or bytes i 0 % 16) → text' ≡ text ++ (h ∷ l ∷ []) → text' ≡ hex_of (take (i + 1) bytes)
  hex_turn h l text' k p q w =
      rw (w, so_far, p, q, add-one, take-suc bytes i 0 k) (sym (hex_on (take i bytes) (get_or bytes i 0)))

shown_by : (t : Bool) (bytes : List ℕ) (m : ℕ) → leb 32 (length bytes) ≡ t → m ≡ min (length bytes) 32 → take m bytes ≡ take 32 bytes
shown_by true bytes m e h =
    let l = leb-true 32 (length bytes) e in
    let q : m ≡ 32 = omega arith in
    rw q refl
shown_by false bytes m e h =
    let l = leb-false 32 (length bytes) e in
    let q : m ≡ length bytes = omega arith in
    rw (q, take-length bytes) (sym (take_all 32 bytes (omega arith)))

-- all that is shown
pub hex_end : (bytes text : List ℕ) (m i : ℕ) → m ≡ min (length bytes) 32 → length (take m bytes) ≤ i → text ≡ hex_of (take i (take m bytes))
    → text ≡ hex_of (take 32 bytes)
hex_end bytes text m i h l e = e ∙ ap hex_of (take_all i (take m bytes) l ∙ shown_by _ bytes m refl h)
