-- What was written goes with what was taken of the piece, and the next line starts further on.
use Rattle.std.proofs.Common.{ℕ, ◌-◌, List, ◌++◌, length, drop}
use Rattle.bench_run.specs.Writes.{Writes}
use Rattle.bench_run.proofs.feed.Given as goal

abbrev pub invariant-loop-at : goal.invariant-loop-at
invariant-loop-at g l = (rest : List ℕ)
    → Writes (g.W.Write.contents l.initial.to) (g.W.Write.contents l.to) l.initial.machine (l.piece ++ rest) l.machine (drop l.at l.piece ++ rest)

abbrev pub decreases-loop-at : goal.decreases-loop-at
decreases-loop-at g l = length l.piece - l.at
