-- However the input comes in pieces, `take_line` gathers its lines. What is held is the start of the line that comes next, the piece
-- from `at` on is what follows it, and `rest` is what no one has read yet. Assumes nothing.
use mathlib.Core.Path.{◌≡◌, refl, ap, ◌∙◌}
use mathlib.Core.Bool.{Bool, true, false}
use mathlib.Core.List.{List, [], ◌∷◌, ◌++◌, append_assoc}
use Prim.Native.Nat.{ℕ, suc, ◌+◌, ◌-◌, ◌≤◌, ◌<◌, min}
use native.Mathlib.Omega.{arith}
use lib.Dec.{eqb}
use lib.ListN.{length, take, drop, get_or, length-append, length-drop}
use lib.Seq.{split_at as parts_at, take-paste, take-length, drop-drop, length-take-le}
use borrow.Author.Tests.{eqb-true}
use Rattle.state.specs.Choice.{pick}
use Rattle.numerals.specs.Text.{first}
use Rattle.numerals.proofs.Splits.{first_le}
use Rattle.lines.specs.declared.Taken.{Taken}
use Rattle.lines.specs.Lines.{line_feed, lines, taken_at, held_then}
use Rattle.lines.specs.Grammar.{Plain, Says}
use Rattle.lines.proofs.Cuts.{lines_next}
use Rattle.lines.proofs.Gathered.{Told, line, part, long, told}

-- ---- the first c of two lists, one after the other

on_by : (t : Bool) (n m k l : ℕ) → (n ≡ l → m ≡ l + k) → pick t 0 (suc n) ≡ suc l → pick t 0 (suc m) ≡ suc l + k
unfolding pick
on_by true n m k l h e = absurd (omega arith)
on_by false n m k l h e = omega (arith, h (omega arith))

pub first_on : (c : ℕ) (xs ys : List ℕ) → first c xs ≡ length xs → first c (xs ++ ys) ≡ length xs + first c ys
unfolding first
first_on c [] ys e = omega arith
first_on c (x ∷ xs) ys e = on_by (eqb x c) (first c xs) (first c (xs ++ ys)) (first c ys) (length xs) (first_on c xs ys) e

le_by : (t : Bool) (n m : ℕ) → n ≤ m → pick t 0 (suc n) ≤ pick t 0 (suc m)
unfolding pick
le_by true n m h = omega arith
le_by false n m h = omega arith

first_grows : (c : ℕ) (xs ys : List ℕ) → first c xs ≤ first c (xs ++ ys)
unfolding first
first_grows c [] ys = omega arith
first_grows c (x ∷ xs) ys = le_by (eqb x c) (first c xs) (first c (xs ++ ys)) (first_grows c xs ys)

-- at the first c stands a c, and before it none
at_by : (t : Bool) (c x : ℕ) (xs : List ℕ) → eqb x c ≡ t → (first c xs < length xs → get_or xs (first c xs) 0 ≡ c)
    → pick t 0 (suc (first c xs)) < suc (length xs) → get_or (x ∷ xs) (pick t 0 (suc (first c xs))) 0 ≡ c
unfolding pick
at_by true c x xs e h l = eqb-true x c e
at_by false c x xs e h l = h (omega arith)

first_at : (c : ℕ) (xs : List ℕ) → first c xs < length xs → get_or xs (first c xs) 0 ≡ c
unfolding first
first_at c [] l = absurd (omega arith)
first_at c (x ∷ xs) l = at_by (eqb x c) c x xs refl (first_at c xs) l

before_by : (t : Bool) (c x : ℕ) (xs : List ℕ) → eqb x c ≡ t → first c (take (first c xs) xs) ≡ length (take (first c xs) xs)
    → first c (take (pick t 0 (suc (first c xs))) (x ∷ xs)) ≡ length (take (pick t 0 (suc (first c xs))) (x ∷ xs))
unfolding pick first
before_by true c x xs e h = refl
before_by false c x xs e h = rw e (ap suc h)

first_before : (c : ℕ) (xs : List ℕ) → first c (take (first c xs) xs) ≡ length (take (first c xs) xs)
unfolding first
first_before c [] = refl
first_before c (x ∷ xs) = before_by (eqb x c) c x xs refl (first_before c xs)

plain_on : (xs ys : List ℕ) → Plain xs → Plain ys → Plain (xs ++ ys)
plain_on xs ys p q = first_on line_feed xs ys p ∙ omega (arith, q, length-append xs ys)

-- ---- the line that comes next

module _ (held piece : List ℕ) (n at : ℕ) (room : n ≤ length held) (plain : Plain (take n held)) where
  -- the bytes held then, of which the line is made
  taken_bytes : n + first line_feed (drop at piece) ≤ length held
      → take (n + first line_feed (drop at piece)) (held_then (length held) held n piece at)
      ≡ take n held ++ take (first line_feed (drop at piece)) (drop at piece)
  unfolding held_then
  taken_bytes h =
      let q : min (first line_feed (drop at piece)) (length held - n) ≡ first line_feed (drop at piece) = omega arith in
      rw q (take-paste held n (drop at piece) (first line_feed (drop at piece)) room (first_le line_feed (drop at piece)))

  line_plain : Plain (take n held ++ take (first line_feed (drop at piece)) (drop at piece))
  line_plain = plain_on _ _ plain (first_before line_feed (drop at piece))

  -- the line feed that ends a line, and what stands on either side
  apart : at + first line_feed (drop at piece) < length piece → (rest : List ℕ)
      → (take n held ++ drop at piece) ++ rest
      ≡ (take n held ++ take (first line_feed (drop at piece)) (drop at piece))
      ++ (line_feed ∷ (drop (at + first line_feed (drop at piece) + 1) piece ++ rest))
  apart l rest =
      let k : first line_feed (drop at piece) < length (drop at piece) = omega (arith, length-drop at piece) in
      let e : at + suc (first line_feed (drop at piece)) ≡ at + first line_feed (drop at piece) + 1 = omega arith in
      let d : drop at piece ≡ take (first line_feed (drop at piece)) (drop at piece)
      ++ (line_feed ∷ drop (at + first line_feed (drop at piece) + 1) piece) =
      parts_at (drop at piece) (first line_feed (drop at piece)) 0 k
      ∙ rw (first_at line_feed (drop at piece) k, drop-drop (suc (first line_feed (drop at piece))) at piece, e) refl in
      ap (λ x. (take n held ++ x) ++ rest) d ∙ simp append_assoc

  says_by : (r : Taken) → Told (length held) n at (first line_feed (drop at piece)) (length piece) r → Says held piece n at r
  says_by r (line h l) = λ rest.
      ap lines (apart l rest) ∙ lines_next _ (drop (at + first line_feed (drop at piece) + 1) piece ++ rest) line_plain
      ∙ rw (taken_bytes h) refl
  says_by r (part h l) =
      let f : first line_feed (drop at piece) ≡ length (drop at piece) =
      omega (arith, first_le line_feed (drop at piece), length-drop at piece) in
      let t : take (first line_feed (drop at piece)) (drop at piece) ≡ drop at piece = rw f (take-length (drop at piece)) in
      (taken_bytes h ∙ ap (λ x. take n held ++ x) t, rw (taken_bytes h) line_plain)
  says_by r (long h) = λ rest.
      omega (
        arith,
        first_grows line_feed (take n held ++ drop at piece) rest,
        first_on line_feed (take n held) (drop at piece) plain,
        length-take-le n held room,
      )

  pub pieces : Says held piece n at (taken_at (length held) n piece at)
  pieces = says_by (taken_at (length held) n piece at) (told (length held) n at piece)
