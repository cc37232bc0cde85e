use Rattle.std.proofs.Common.{◌≡◌, ◌≤◌, length}
use Rattle.numerals.proofs.Rows.{Reads}
use Rattle.numerals.proofs.row.Given as goal

abbrev pub invariant-loop-n : goal.invariant-loop-n
invariant-loop-n g l = (length l.n-items ≡ g.row.N) × (l.n-index ≤ length l.n-items) × Reads l.line l.n-items l.n-index l.left
