-- What was written goes with what was read, and there are more turns left than bytes to be read.
use Rattle.std.proofs.Common.{◌≡◌, ℕ, ◌+◌, ◌-◌, ◌^◌, ◌<◌, List, length, Some}
use Rattle.bench_run.specs.Writes.{Turned}
use Rattle.bench_run.proofs.run.Given as goal

abbrev pub invariant-loop : goal.invariant-loop
invariant-loop g l = (xs : List ℕ) → g.R.Read.remaining l.initial.from ≡ Some xs → length xs + 1 < 2 ^ 64
    → Turned (g.R.Read.remaining l.from) (g.W.Write.contents l.initial.to) (g.W.Write.contents l.to) (18446744073709551615 - l.counter)
    l.initial.machine xs l.machine
