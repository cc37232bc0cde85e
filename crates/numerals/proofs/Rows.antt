-- Laws of a row of numbers: a turn of `row`'s loop and each way out of it. Assumes nothing.
use mathlib.Core.Path.{◌≡◌, refl, sym, ◌∙◌}
use mathlib.Core.List.{List, [], ◌∷◌, ◌++◌, append-nil}
use Rattle.std.proofs.Common.{Option, None, Some, Bor, MatchOption}
use Prim.Native.Nat.{ℕ, ◌+◌, ◌≤◌, ◌<◌}
use native.Mathlib.Numerals.{add-one}
use native.Mathlib.Omega.{arith}
use lib.ListN.{length, take, set, length-take}
use lib.Seq.{take-suc-set, take_all}
use borrow.Author.Tests.{eq-eqb, ne_eqb}
use Rattle.state.specs.Choice.{pick}
use Rattle.numerals.specs.Text.{space, split, number, numbers, exactly, row}
use Rattle.numerals.proofs.Splits.{split_head}
use Rattle.numerals.proofs.Numbers.{ahead, ahead_nil, numbers_turn, numbers_not, numbers_many}

-- the words of what is left of a line
unfoldable pub words : Option (Bor (List ℕ)) → List (List ℕ)
words None = []
words (Some rest) = split space rest.now

-- what `cut` ensures
pub words_cut : (after : Option (Bor (List ℕ))) (ws : List (List ℕ)) (w : List ℕ)
    → MatchOption after (ws ≡ w ∷ []) (λ x. ws ≡ w ∷ split space x.now) → ws ≡ w ∷ words after
unfolding words
words_cut None ws w h = h
words_cut (Some x) ws w h = h

-- the first i words of a line are the first i numbers of `out`
pub record Reads (line out : List ℕ) (i : ℕ) (left : Option (Bor (List ℕ))) : Type 0 where
  pub so_far : numbers (split space line) ≡ ahead (take i out) (numbers (words left))

-- before the first word
pub row_begins : (line : Bor (List ℕ)) (out : List ℕ) → Reads line.now out 0 (Some line)
unfolding words
row_begins line out = record { so_far = ahead_nil _ }

module _ {line out : List ℕ} {i : ℕ} where
  -- fewer words than numbers are asked for
  pub row_few : (k : ℕ) → length out ≡ k → Reads line out i None → i < length out → None ≡ row k line
  unfolding row words numbers ahead exactly pick
  row_few k e h l =
      let n : length (take i out) < length out = omega (arith, length-take i out) in
      rw (h.so_far, append-nil (take i out), ne_eqb (length (take i out)) k (λ q. omega arith)) refl

  -- as many
  pub row_all : (k : ℕ) → length out ≡ k → Reads line out i None → length out ≤ i → Some out ≡ row k line
  unfolding row words numbers ahead exactly pick
  row_all k e h l = rw (h.so_far, append-nil (take i out), take_all i out l, eq-eqb (length out) k e) refl

  module _ (rest : Bor (List ℕ)) (w : List ℕ) (after : Option (Bor (List ℕ))) (h : Reads line out i (Some rest))
      (cut : split space rest.now ≡ w ∷ words after) where
    -- a word that is no number
    pub row_not : (k : ℕ) → None ≡ number w → None ≡ row k line
    unfolding row words
    row_not k e = rw (h.so_far, cut) (numbers_not k (take i out) w (words after) e)

    -- one that is
    pub row_turn : (n : ℕ) → Some n ≡ number w → i < length out → Reads line (set out i n) (i + 1) after
    unfolding words
    row_turn n e l =
        let t : take i out ++ (n ∷ []) ≡ take (i + 1) (set out i n) = rw add-one (sym (take-suc-set out i n l)) in
        record { so_far = h.so_far ∙ rw (cut, numbers_turn (take i out) w n (words after) e, t) refl }

  -- more
  pub row_many : (k : ℕ) (rest : Bor (List ℕ)) → length out ≡ k → Reads line out i (Some rest) → length out ≤ i → None ≡ row k line
  unfolding row words
  row_many k rest e h l =
      let n : k ≤ length (take i out) = omega (arith, length-take i out) in
      rw (h.so_far, split_head space rest.now) (numbers_many k (take i out) _ _ n)
