-- What the definitions take is what one writes, and nothing else, said for rows of numbers, commands and lines, both ways. Assumes nothing.
use mathlib.Core.Path.{◌≡◌, refl, ap, sym, ◌∙◌}
use mathlib.Core.Bool.{Bool, true, false}
use mathlib.Core.List.{List, [], ◌∷◌, ◌++◌}
use Rattle.std.proofs.Common.{Option, None, Some}
use Prim.Native.Nat.{ℕ, suc, ◌<◌}
use native.Mathlib.Omega.{arith}
use lib.Dec.{eqb}
use lib.ListN.{length}
use borrow.Author.Tests.{eq-eqb, ne_eqb, eqb-true}
use Rattle.state.specs.Choice.{pick}
use Rattle.numerals.specs.Text.{space, grown, split, first, digits, number, more, numbers, exactly, row}
use Rattle.numerals.specs.Grammar.{Written, Row}
use Rattle.numerals.specs.Grammar as grammar
use Rattle.numerals.proofs.Splits.{split_last}
use Rattle.numerals.proofs.Decimal.{digit_is, digits_are, number_some, number_written, written_number}

-- ---- cutting, and joining again

-- up to a c, where there is none before it
split_by : (t : Bool) (c x : ℕ) (xs ys : List ℕ) → (first c xs ≡ length xs → split c (xs ++ (c ∷ ys)) ≡ xs ∷ split c ys)
    → pick t 0 (suc (first c xs)) ≡ suc (length xs)
    → pick t ([] ∷ split c (xs ++ (c ∷ ys))) (grown x (split c (xs ++ (c ∷ ys)))) ≡ (x ∷ xs) ∷ split c ys
unfolding pick grown
split_by true c x xs ys ih e = absurd (omega arith)
split_by false c x xs ys ih e = ap (grown x) (ih (omega arith))

pub split_at : (c : ℕ) (xs ys : List ℕ) → first c xs ≡ length xs → split c (xs ++ (c ∷ ys)) ≡ xs ∷ split c ys
unfolding first split pick
split_at c [] ys e = rw (eq-eqb c c refl) refl
split_at c (x ∷ xs) ys e = split_by (eqb x c) c x xs ys (split_at c xs ys) e

-- the words with a c between
unfoldable pub join : ℕ → List (List ℕ) → List ℕ
join c [] = []
join c (w ∷ []) = w
join c (w ∷ v ∷ ws) = w ++ (c ∷ join c (v ∷ ws))

-- words that are joined to xs
pub record Joined (c : ℕ) (xs : List ℕ) (ws : List (List ℕ)) : Type 0 where
  pub some : 0 < length ws
  pub text : join c ws ≡ xs

joined_by : (t : Bool) (c b : ℕ) (bs : List ℕ) (ws : List (List ℕ)) → eqb b c ≡ t → Joined c bs ws
    → Joined c (b ∷ bs) (pick t ([] ∷ ws) (grown b ws))
unfolding pick grown join
joined_by t c b bs [] e j = absurd (omega (arith, j.some))
joined_by true c b bs (w ∷ ws) e j =
    let q : b ≡ c = eqb-true b c e in
    record { some = omega arith; text = rw (q, j.text) refl }
joined_by false c b bs (w ∷ []) e j = record { some = omega arith; text = ap (λ l. b ∷ l) j.text }
joined_by false c b bs (w ∷ v ∷ ws) e j = record { some = omega arith; text = ap (λ l. b ∷ l) j.text }

pub joined : (c : ℕ) (xs : List ℕ) → Joined c xs (split c xs)
unfolding split join
joined c [] = record { some = omega arith; text = refl }
joined c (b ∷ bs) = joined_by (eqb b c) c b bs (split c bs) refl (joined c bs)

-- ---- rows of numbers

pub more_by : (m : Option ℕ) (o : Option (List ℕ)) (ns : List ℕ) → more m o ≡ Some ns
    → (n : ℕ) × (rest : List ℕ) × (m ≡ Some n) × (o ≡ Some rest) × (ns ≡ n ∷ rest)
unfolding more
more_by None o ns e = let z : ◌≡◌ {A = ℕ} 0 1 = cc in absurd (omega arith)
more_by (Some n) None ns e = let z : ◌≡◌ {A = ℕ} 0 1 = cc in absurd (omega arith)
more_by (Some n) (Some rest) ns e = (n, rest, refl, refl, cc)

words_row : (ws : List (List ℕ)) (ns : List ℕ) → 0 < length ws → numbers ws ≡ Some ns → Row (join space ws) ns
unfolding numbers join
words_row [] ns p e = absurd (omega arith)
words_row (w ∷ []) ns p e =
    let m = more_by (number w) (Some []) ns e in
    let q : ns ≡ m.0 ∷ [] = m.4 ∙ ap (λ r. m.0 ∷ r) (cc m.3) in
    rw q (grammar.Row.one (number_written w m.0 m.2))
words_row (w ∷ v ∷ ws) ns p e =
    let m = more_by (number w) (numbers (v ∷ ws)) ns e in
    rw m.4 (grammar.Row.next (number_written w m.0 m.2) (words_row (v ∷ ws) m.1 (omega arith) m.3))

exactly_by : (t : Bool) (k : ℕ) (ms ns : List ℕ) → eqb (length ms) k ≡ t → pick t (Some ms) None ≡ Some ns → (ms ≡ ns) × (length ns ≡ k)
unfolding pick
exactly_by true k ms ns l e =
    let q : ms ≡ ns = cc in
    let n : length ms ≡ k = eqb-true (length ms) k l in
    (q, rw (← q) n)
exactly_by false k ms ns l e = let z : ◌≡◌ {A = ℕ} 0 1 = cc in absurd (omega arith)

pub exactly_some : (k : ℕ) (o : Option (List ℕ)) (ns : List ℕ) → exactly k o ≡ Some ns → (o ≡ Some ns) × (length ns ≡ k)
unfolding exactly
exactly_some k None ns e = let z : ◌≡◌ {A = ℕ} 0 1 = cc in absurd (omega arith)
exactly_some k (Some ms) ns e = let x = exactly_by (eqb (length ms) k) k ms ns refl e in (ap Some x.0, x.1)

-- a line that is read as k numbers is written so
pub row_written : (k : ℕ) (line ns : List ℕ) → row k line ≡ Some ns → Row line ns × (length ns ≡ k)
unfolding row
row_written k line ns e =
    let x = exactly_some k (numbers (split space line)) ns e in
    let j = joined space line in
    (rw j.text at (words_row (split space line) ns j.some x.0), x.1)

-- digits are no spaces
digit_plain : (c : ℕ) (w : List ℕ) → c < 48 → digits w ≡ true → first c w ≡ length w
unfolding first pick
digit_plain c [] l e = refl
digit_plain c (b ∷ bs) l e =
    let d = digits_are b bs e in
    let g = digit_is b d.0 in
    rw (ne_eqb b c (λ q. omega (arith, g.0))) (ap suc (digit_plain c bs l d.1))

pub written_plain : (c : ℕ) (w : List ℕ) (n : ℕ) → c < 48 → Written w n → first c w ≡ length w
written_plain c w n l h = digit_plain c w l (number_some w n (sym (written_number w n h))).1

written_numbers : (line ns : List ℕ) → Row line ns → numbers (split space line) ≡ Some ns
unfolding numbers more
written_numbers line ns (grammar.Row.one {w = w} {n = n} h) =
    rw (split_last space w (written_plain space w n (omega arith) h), ← written_number w n h) refl
written_numbers line ns (grammar.Row.next {w = w} {l = l} {ns = ms} {n = n} h r) =
    rw (split_at space w l (written_plain space w n (omega arith) h), ← written_number w n h, written_numbers l ms r) refl

-- and a line that is written so is read as its numbers
pub written_row : (line ns : List ℕ) → Row line ns → row (length ns) line ≡ Some ns
unfolding row exactly pick
written_row line ns r = rw (written_numbers line ns r, eq-eqb (length ns) (length ns) refl) refl
