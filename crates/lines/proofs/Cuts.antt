-- The lines of an input are those that one writes it with. Assumes nothing.
use mathlib.Core.Path.{◌≡◌, refl, ap, ◌∙◌}
use mathlib.Core.Bool.{Bool, true, false}
use mathlib.Core.List.{List, [], ◌∷◌, ◌++◌}
use Prim.Native.Nat.{ℕ, suc, ◌<◌}
use native.Mathlib.Omega.{arith}
use lib.Dec.{eqb}
use lib.ListN.{length}
use Rattle.state.specs.Choice.{pick}
use Rattle.numerals.specs.Text.{grown, split, first}
use Rattle.numerals.proofs.Splits.{split_last}
use Rattle.numerals.proofs.Grammar.{split_at, join, joined}
use Rattle.lines.specs.Lines.{line_feed, closed, lines}
use Rattle.lines.specs.Grammar.{Plain, Cut}
use Rattle.lines.specs.Grammar as grammar

-- ---- the input as written

-- no word has a c
unfoldable pub Plains : ℕ → List (List ℕ) → Type 0
Plains c [] = Unit {0}
Plains c (w ∷ ws) = (first c w ≡ length w) × Plains c ws

plains_by : (t : Bool) (c b : ℕ) (ws : List (List ℕ)) → eqb b c ≡ t → Plains c ws → Plains c (pick t ([] ∷ ws) (grown b ws))
unfolding pick grown first Plains
plains_by true c b ws e p = (refl, p)
plains_by false c b [] e p = tt
plains_by false c b (w ∷ ws) e p = (rw e (ap suc p.0), p.1)

plains : (c : ℕ) (xs : List ℕ) → Plains c (split c xs)
unfolding split first Plains
plains c [] = (refl, tt)
plains c (b ∷ bs) = plains_by (eqb b c) c b (split c bs) refl (plains c bs)

words_cut : (ws : List (List ℕ)) → 0 < length ws → Plains line_feed ws → Cut (join line_feed ws) (closed ws)
unfolding join closed Plains
words_cut [] h p = absurd (omega arith)
words_cut ([] ∷ []) h p = grammar.Cut.none
words_cut ((b ∷ bs) ∷ []) h p = grammar.Cut.last p.0
words_cut ([] ∷ m ∷ ms) h p = grammar.Cut.next p.0 (words_cut (m ∷ ms) (omega arith) p.1)
words_cut ((b ∷ bs) ∷ m ∷ ms) h p = grammar.Cut.next p.0 (words_cut (m ∷ ms) (omega arith) p.1)

-- every input is written with its lines
pub lines_cut : (input : List ℕ) → Cut input (lines input)
unfolding lines
lines_cut input =
    let j = joined line_feed input in
    rw j.text at (words_cut (split line_feed input) j.some (plains line_feed input))

closed_next : (l : List ℕ) (ws : List (List ℕ)) → 0 < length ws → closed (l ∷ ws) ≡ l ∷ closed ws
unfolding closed
closed_next l [] h = absurd (omega arith)
closed_next [] (m ∷ ms) h = refl
closed_next (b ∷ bs) (m ∷ ms) h = refl

-- a line and what follows its line feed
pub lines_next : (l rest : List ℕ) → Plain l → lines (l ++ (line_feed ∷ rest)) ≡ l ∷ lines rest
unfolding lines
lines_next l rest p =
    rw (split_at line_feed l rest p) (closed_next l (split line_feed rest) (joined line_feed rest).some)

pub lines_last : (b : ℕ) (bs : List ℕ) → Plain (b ∷ bs) → lines (b ∷ bs) ≡ (b ∷ bs) ∷ []
unfolding lines closed
lines_last b bs p = rw (split_last line_feed (b ∷ bs) p) refl

-- and has no others
pub cut_lines : (input : List ℕ) (ls : List (List ℕ)) → Cut input ls → lines input ≡ ls
unfolding lines closed split
cut_lines input ls grammar.Cut.none = refl
cut_lines input ls (grammar.Cut.last {b = b} {bs = bs} p) = lines_last b bs p
cut_lines input ls (grammar.Cut.next {l = l} {rest = rest} {ls = ms} p c) = lines_next l rest p ∙ ap (λ t. l ∷ t) (cut_lines rest ms c)
