-- The bench program's whole output from its whole input: request No. 4. What a line says is defined in lines/specs/Lines, what a
-- command does in bench_images/specs/Images, and the texts in answer_text/specs/Answers. Assumes nothing.
use Rattle.std.specs.Prelude.{List, [], ◌∷◌, ◌++◌, ℕ, ◌+◌, leb, length, Option, None, Some}
use Rattle.state.specs.Choice.{pick}
use Rattle.geometry.specs.declared.Geometry.{Geometry}
use Rattle.geometry.specs.Refusals.{boot_refusal}
use Rattle.mem_flash.specs.Flash.{Flash}
use Rattle.rules.specs.Calls.{Call, report, left}
use Rattle.numerals.specs.Text.{space}
use Rattle.lines.specs.declared.Lengths.{Lengths}
use Rattle.lines.specs.declared.Command.{Command}
use Rattle.lines.specs.Lines.{line_feed, lines, most_bytes}
use Rattle.lines.specs.Lines.{sizes_line, lengths_line, command_line}
use Rattle.lines.specs.Grammar.{number_of}
use Rattle.answer_text.specs.Answers.{command_text, bad_line_text, hex_of}
use Rattle.bench_images.specs.Images.{start_of, bench_call}

-- what the next line is: the first, with the sizes; the second, with the lengths; a command, with the geometry, the number under which
-- a boot is refused, 0 for none, and the areas as they are; or nothing more is read or written
pub data Stage : Type 0 where
  first : Stage
  second : Geometry → Stage
  command : Geometry → ℕ → Flash → Stage
  over : Stage

-- what a line writes, and what comes after it
pub record Step : Type 0 where
  pub text : List ℕ
  pub next : Stage

abbrev pub step : List ℕ → Stage → Step
step t s = record { text = t; next = s }

-- line n is bad, and nothing more is written
unfoldable pub bad : ℕ → Step
bad n = step (bad_line_text n) over

-- ---- line n by what it says

unfoldable pub on_sizes : ℕ → Option Geometry → Step
on_sizes n (Some g) = step [] (second g)
on_sizes n None = bad n

unfoldable pub on_lengths : ℕ → Geometry → Option Lengths → Step
on_lengths n g (Some l) = step [] (command g (boot_refusal g l.active l.dfu l.state) (start_of g l))
on_lengths n g None = bad n

-- a call with its budget: its answer is written, and the areas are as it leaves them
unfoldable pub called : Geometry → ℕ → Flash → Command → Call → Step
called g v f c call = step (command_text c (report call (number_of c))) (command g v (left call (number_of c) f))

unfoldable pub on_command : ℕ → Geometry → ℕ → Flash → Option Command → Step
on_command n g v f (Some c) = called g v f c (bench_call g v c f)
on_command n g v f None = bad n

-- a line that is too long is bad, whatever it says
unfoldable pub within : ℕ → List ℕ → Step → Step
within n line s = pick (leb (length line) most_bytes) s (bad n)

unfoldable pub on_line : Stage → ℕ → List ℕ → Step
on_line first n line = within n line (on_sizes n (sizes_line line))
on_line (second g) n line = within n line (on_lengths n g (lengths_line line))
on_line (command g v f) n line = within n line (on_command n g v f (command_line line))
on_line over n line = step [] over

-- ---- the input's end

-- the names of the areas
abbrev pub active : List ℕ
active = 97 ∷ 99 ∷ 116 ∷ 105 ∷ 118 ∷ 101 ∷ []

abbrev pub dfu : List ℕ
dfu = 100 ∷ 102 ∷ 117 ∷ []

abbrev pub state : List ℕ
state = 115 ∷ 116 ∷ 97 ∷ 116 ∷ 101 ∷ []

-- an area: its name, a space, its bytes in hexadecimal
unfoldable pub area_text : List ℕ → List ℕ → List ℕ
area_text name bytes = name ++ (space ∷ hex_of bytes ++ (line_feed ∷ []))

unfoldable pub areas_text : Flash → List ℕ
areas_text f = area_text active f.active ++ (area_text dfu f.dfu ++ area_text state f.state)

-- where line n would come the input ends: it is missing, or the commands are done
unfoldable pub at_end : Stage → ℕ → List ℕ
at_end first n = bad_line_text n
at_end (second g) n = bad_line_text n
at_end (command g v f) n = areas_text f
at_end over n = []

-- ---- the whole

-- what is written of these lines, of which the first is line n
unfoldable pub written : Stage → ℕ → List (List ℕ) → List ℕ
written s n [] = at_end s n
written s n (l ∷ ls) = (on_line s n l).text ++ written (on_line s n l).next (n + 1) ls

unfoldable pub output : List ℕ → List ℕ
output input = written first 1 (lines input)
