use mathlib.Core.Path.{◌≡◌}
use mathlib.Core.List.{List}
use Prim.Native.Nat.{ℕ, ◌+◌, ◌*◌, ◌/◌, ◌≤◌}
use lib.ListN.{length}
use Rattle.std.specs.Slice.Iter.{chunks_exact_rest, chunks_exact_size}
use Rattle.std.specs.Iterator.Adapters.{enumerate_source, enumerate_count}
use Rattle.mem_flash.specs.Flash.{Area, Flash}
use Rattle.mem_flash.specs.Run.{run, placed}
use Rattle.rules.specs.Steps.{chunk_ops}
use Rattle.page_copy.proofs.copy_chunks.Given as goal

-- what is left to write, written to what is there, is the whole
abbrev pub invariant-loop-i : goal.invariant-loop-i
invariant-loop-i l =
    let rest : List ℕ = chunks_exact_rest (enumerate_source l.i-iterator) in
    let at : ℕ = l.to.0 + enumerate_count l.i-iterator * l.b in
    (chunks_exact_size (enumerate_source l.i-iterator) ≡ l.b)
    × (at + length rest ≤ length l.target)
    × ((a : Area) (f : Flash)
    → run l.initial.still.0 (chunk_ops l.cell (length l.page / l.b) a l.to.0 0 l.b l.page) (placed a l.initial.target f)
    ≡ run l.still.0 (chunk_ops l.cell (length rest / l.b) a at 0 l.b rest) (placed a l.target f))
