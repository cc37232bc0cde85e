-- What was written and what is due are the whole; less is due after each text.
use Rattle.std.proofs.Common.{◌≡◌, List, ℕ, ◌++◌}
use Rattle.std.specs.Io.KnownBytes.{Appends}
use Rattle.bench_areas.specs.Tail.{Room, tail_text, due}
use Rattle.bench_run.proofs.show.Given as goal

abbrev pub invariant-loop-tail : goal.invariant-loop-tail
invariant-loop-tail g l = Room l.initial.tail → (done : List ℕ) × Room l.tail
    × (tail_text l.initial.tail l.areas ≡ done ++ tail_text l.tail l.areas)
    × Appends (g.W.Write.contents l.initial.to) (g.W.Write.contents l.to) done

abbrev pub decreases-loop-tail : goal.decreases-loop-tail
decreases-loop-tail g l = due l.tail
