-- The lines of the bench program's input, and what each kind of line says: request No. 4. Assumes nothing.
use Rattle.std.specs.Prelude.{Bool, true, false, List, [], ◌∷◌, ℕ, ◌+◌, ◌-◌, min, leb, ltb, eqb, length, get_or, drop, Option, Some, None}
use Rattle.std.proofs.Math.Seq.{paste}
use Rattle.state.specs.declared.Cell.TheVariants.{High}
use Rattle.state.specs.Cells.{erased}
use Rattle.state.specs.Choice.{pick}
use Rattle.numerals.specs.Text.{space, first, split, numbers, exactly, row}
use Rattle.geometry.specs.declared.Geometry.{Geometry}
use Rattle.lines.specs.declared.Lengths.{Lengths}
use Rattle.lines.specs.declared.Command.{Command}
use Rattle.lines.specs.declared.Command.TheVariants.{Update, Booted, Boot}
use Rattle.lines.specs.declared.Taken.{Taken}
use Rattle.lines.specs.declared.Taken.TheVariants.{Line, Part, Long}

-- ---- cutting the input into lines

-- what ends a line
abbrev pub line_feed : ℕ
line_feed = 10

-- after a last line feed there is no further line
unfoldable pub closed : List (List ℕ) → List (List ℕ)
closed [] = []
closed ([] ∷ []) = []
closed ((b ∷ bs) ∷ []) = (b ∷ bs) ∷ []
closed (l ∷ m ∷ ls) = l ∷ closed (m ∷ ls)

-- the lines of an input
unfoldable pub lines : List ℕ → List (List ℕ)
lines input = closed (split line_feed input)

-- the most bytes that a line has
abbrev pub most_bytes : ℕ
most_bytes = 80

-- With n bytes of a line held, the bytes of a piece from `at` on: up to its line feed or the piece's end they belong to the line.
-- Then it is a whole line of so many bytes, and the next starts after the line feed; or a part of one; or it has more than `most`.
unfoldable pub taken_at : ℕ → ℕ → List ℕ → ℕ → Taken
taken_at most n piece at =
    pick (leb (n + first line_feed (drop at piece)) most)
    (pick (ltb (at + first line_feed (drop at piece)) (length piece))
    (Line (n + first line_feed (drop at piece)) (at + first line_feed (drop at piece) + 1))
    (Part (n + first line_feed (drop at piece))))
    Long

-- and what is held then: those bytes after the n, as far as there is room
unfoldable pub held_then : ℕ → List ℕ → ℕ → List ℕ → ℕ → List ℕ
held_then most held n piece at = paste held n (drop at piece) (min (first line_feed (drop at piece)) (most - n))

-- ---- what a line says

-- the first line: Ea Wa Ed Wd Es Ws b; the flash of the bench erases to FF
unfoldable pub sizes_of : Option (List ℕ) → Option Geometry
sizes_of None = None
sizes_of (Some ns) =
    Some
    (record {
      ea = get_or ns 0 0;
      wa = get_or ns 1 0;
      ed = get_or ns 2 0;
      wd = get_or ns 3 0;
      state = record { es = get_or ns 4 0; ws = get_or ns 5 0; ev = erased High };
      b = get_or ns 6 0;
    })

unfoldable pub sizes_line : List ℕ → Option Geometry
sizes_line line = sizes_of (row 7 line)

-- the longest area of the program
abbrev pub most_length : ℕ
most_length = 16384

unfoldable pub short : List ℕ → Bool
short [] = true
short (n ∷ ns) = pick (leb n most_length) (short ns) false

-- the second line: La Ld Ls
unfoldable pub lengths_of : Option (List ℕ) → Option Lengths
lengths_of None = None
lengths_of (Some ns) =
    pick (short ns) (Some (record { active = get_or ns 0 0; dfu = get_or ns 1 0; state = get_or ns 2 0 })) None

unfoldable pub lengths_line : List ℕ → Option Lengths
lengths_line line = lengths_of (row 3 line)

-- two words are the same
unfoldable pub alike : List ℕ → List ℕ → Bool
alike [] [] = true
alike [] (y ∷ ys) = false
alike (x ∷ xs) [] = false
alike (x ∷ xs) (y ∷ ys) = pick (eqb x y) (alike xs ys) false

-- the names of the commands
abbrev pub update : List ℕ
update = 117 ∷ 112 ∷ 100 ∷ 97 ∷ 116 ∷ 101 ∷ []

abbrev pub booted : List ℕ
booted = 98 ∷ 111 ∷ 111 ∷ 116 ∷ 101 ∷ 100 ∷ []

abbrev pub boot : List ℕ
boot = 98 ∷ 111 ∷ 111 ∷ 116 ∷ []

-- a command by its name
unfoldable pub named : List ℕ → ℕ → Option Command
named w k =
    pick (alike w update) (Some (Update k)) (pick (alike w booted) (Some (Booted k)) (pick (alike w boot) (Some (Boot k)) None))

unfoldable pub ordered : List ℕ → Option (List ℕ) → Option Command
ordered w None = None
ordered w (Some ns) = named w (get_or ns 0 0)

-- a name, and one number
unfoldable pub command_of : List (List ℕ) → Option Command
command_of [] = None
command_of (w ∷ ws) = ordered w (exactly 1 (numbers ws))

-- every further line
unfoldable pub command_line : List ℕ → Option Command
command_line line = command_of (split space line)
