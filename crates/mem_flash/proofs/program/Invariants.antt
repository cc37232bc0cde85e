use mathlib.Core.Path.{◌≡◌}
use Prim.Native.Nat.{ℕ, ◌≤◌}
use mathlib.Core.List.{List}
use lib.ListN.{length, drop}
use Rattle.state.specs.declared.Cell.{Cell}
use Rattle.state.specs.Cells.{marked}
use Rattle.mem_flash.specs.Flash.{program, written_at}
use Rattle.mem_flash.specs.Given.{Gives}
use Rattle.mem_flash.proofs.program.Given as goal

-- what is left to write, written to what is there, is the whole
abbrev pub invariant-loop-i : goal.invariant-loop-i
invariant-loop-i g l =
    (k : Cell) (bs : List ℕ) → l.mark ≡ marked k → length l.part ≤ length bs → Gives (goal.F-post g l.byte) (length l.part) bs
    → written_at k l.i (drop l.i bs) l.part ≡ program k l.initial.part bs
