use mathlib.Core.Path.{◌≡◌}
use Prim.Native.Nat.{◌+◌, ◌-◌, ◌*◌}
use Rattle.mem_flash.specs.Flash.{Area, Flash, unit_ops}
use Rattle.mem_flash.specs.Run.{run, placed}
use Rattle.mem_flash.proofs.erase.Given as goal

-- the units that are left, erased of what is there, are the whole
abbrev pub invariant-loop-i : goal.invariant-loop-i
invariant-loop-i l =
    (a : Area) (f : Flash)
    → run l.initial.still.0 (unit_ops l.cell l.count l.unit a l.from.0) (placed a l.initial.area f)
    ≡ run l.still.0 (unit_ops l.cell (l.count - l.i) l.unit a (l.from.0 + l.i * l.unit)) (placed a l.area f)
