-- The rule of the code's table, as one test of the whole table. Assumes nothing.
use Rattle.std.specs.Prelude.{Bool, true, false, List, ℕ, zero, suc, eqb, get_or}
use Rattle.state.specs.Choice.{pick}
use Rattle.crc32.specs.Crc.{bits}

-- each of the first n words is what eight bits do to its place
unfoldable pub tabled : ℕ → List ℕ → Bool
tabled zero t = true
tabled (suc n) t = pick (eqb (get_or t n 0) (bits 8 n)) (tabled n t) false
