-- The bytes passed are the source's.
use Rattle.std.proofs.Common.{◌≡◌, ℕ, ◌+◌, ◌<◌, get_or}
use Rattle.firmware_pieces.proofs.range.copy_out.Given as goal

abbrev pub invariant-loop-i : goal.invariant-loop-i
invariant-loop-i l = (j : ℕ) → j < l.i → get_or l.buf j 0 ≡ get_or l.source (l.from.0 + j) 0
