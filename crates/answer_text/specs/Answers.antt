-- The text that the bench program writes: request No. 4. Assumes nothing.
use Rattle.std.specs.Prelude.{Option, None, Some, List, [], ◌∷◌, ◌++◌, ℕ, zero, suc, ◌/◌, ◌%◌, ltb}
use Rattle.io.specs.Digits.{hex_digit_ascii}
use Rattle.state.specs.declared.State.{State}
use Rattle.state.specs.Choice.{pick}
use Rattle.state.specs.Magic.{state_number}
use Rattle.rules.specs.Calls.{Report}
use Rattle.lines.specs.declared.Command.{Command}
use Rattle.numerals.specs.Text.{space}
use Rattle.lines.specs.Lines.{line_feed}
use Rattle.lines.specs.Grammar.{name_of}

-- n in decimal, where it has at most so many digits: n itself, or the last digit after those of a tenth of n
unfoldable pub decimal_in : ℕ → ℕ → List ℕ
decimal_in zero n = []
decimal_in (suc k) n = pick (ltb n 10) (hex_digit_ascii n ∷ []) (decimal_in k (n / 10) ++ (hex_digit_ascii (n % 10) ∷ []))

-- n in decimal: it never has more than n + 1 digits
unfoldable pub decimal : ℕ → List ℕ
decimal n = decimal_in (suc n) n

-- a state by its number, and `-` where there is none
unfoldable pub state_text : Option State → ℕ
state_text None = 45
state_text (Some s) = hex_digit_ascii (state_number s)

-- a command's line: its name, the answer's number, the state or `-`, the operations
unfoldable pub command_text : Command → Report → List ℕ
command_text c t =
    name_of c ++ (space ∷ decimal t.number ++ (space ∷ state_text t.state ∷ space ∷ decimal t.count ++ (line_feed ∷ [])))

-- `bad line ` and the line's number
abbrev pub bad_line : List ℕ
bad_line = 98 ∷ 97 ∷ 100 ∷ 32 ∷ 108 ∷ 105 ∷ 110 ∷ 101 ∷ 32 ∷ []

unfoldable pub bad_line_text : ℕ → List ℕ
bad_line_text n = bad_line ++ (decimal n ++ (line_feed ∷ []))

-- two hexadecimal digits for each byte
unfoldable pub hex_of : List ℕ → List ℕ
hex_of [] = []
hex_of (b ∷ bs) = hex_digit_ascii (b / 16) ∷ hex_digit_ascii (b % 16) ∷ hex_of bs
