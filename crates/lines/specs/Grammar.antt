-- The same lines said another way, by how one writes them, without cutting: `Commands`, `Cuts` and `Pieces` in proofs/ show that the two
-- agree. Assumes nothing.
use Rattle.std.specs.Prelude.{◌≡◌, List, [], ◌∷◌, ◌++◌, ℕ, ◌<◌, length, take, drop}
use Rattle.numerals.specs.Text.{space, first}
use Rattle.numerals.specs.Grammar.{Written}
use Rattle.lines.specs.declared.Command.{Command}
use Rattle.lines.specs.declared.Command.TheVariants.{Update, Booted, Boot}
use Rattle.lines.specs.declared.Taken.{Taken}
use Rattle.lines.specs.declared.Taken.TheVariants.{Line, Part, Long}
use Rattle.lines.specs.Lines.{line_feed, lines, held_then, update, booted, boot}

-- a command's name, a space and its number
abbrev pub name_of : Command → List ℕ
name_of (Update k) = update
name_of (Booted k) = booted
name_of (Boot k) = boot

abbrev pub number_of : Command → ℕ
number_of (Update k) = k
number_of (Booted k) = k
number_of (Boot k) = k

pub record Ordered (line : List ℕ) (c : Command) : Type 0 where
  pub word : List ℕ
  pub text : line ≡ name_of c ++ (space ∷ word)
  pub number : Written word (number_of c)

-- no line feed in it
abbrev pub Plain : List ℕ → Type 0
Plain l = first line_feed l ≡ length l

-- an input that has these lines: each ends with a line feed, but the last need not, if it has a byte
pub data Cut : List ℕ → List (List ℕ) → Type 0 where
  none : Cut [] []
  last : {b : ℕ} {bs : List ℕ} → Plain (b ∷ bs) → Cut (b ∷ bs) ((b ∷ bs) ∷ [])
  next : {l rest : List ℕ} {ls : List (List ℕ)} → Plain l → Cut rest ls → Cut (l ++ (line_feed ∷ rest)) (l ∷ ls)

-- What an answer of `take_line` says of the input, where the n bytes held begin the next line, the piece from `at` on follows them, and
-- whatever `rest` comes after the piece. A line is the first of the lines, and the others follow; a part is held and has no line feed;
-- a long one has more bytes than can be held before its line feed.
abbrev pub Says : List ℕ → List ℕ → ℕ → ℕ → Taken → Type 0
Says held piece n at (Line m e) =
    (rest : List ℕ) → lines ((take n held ++ drop at piece) ++ rest)
    ≡ take m (held_then (length held) held n piece at) ∷ lines (drop e piece ++ rest)
Says held piece n at (Part m) =
    (take m (held_then (length held) held n piece at) ≡ take n held ++ drop at piece)
    × Plain (take m (held_then (length held) held n piece at))
Says held piece n at Long = (rest : List ℕ) → length held < first line_feed ((take n held ++ drop at piece) ++ rest)
