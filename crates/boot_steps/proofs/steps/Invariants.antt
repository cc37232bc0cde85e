use Prim.Native.Nat.{◌-◌}
use lib.ListN.{length}
use lib.Seq.{slice}
use Rattle.geometry.specs.Geometry.{pages}
use Rattle.mem_flash.specs.Run.{flash}
use Rattle.rules.specs.Steps.{all_steps, copies_ops}
use Rattle.boot_steps.proofs.Going.{Going}
use Rattle.boot_steps.proofs.steps.Given as goal

abbrev pub invariant-loop-next : goal.invariant-loop-next
invariant-loop-next l =
    Going l.g l.page_count l.end (copies_ops l.g (slice l.from l.end (all_steps (pages l.g (length l.initial.active)))) (flash l.initial.active l.initial.dfu l.initial.state)) l.initial.still
    (flash l.initial.active l.initial.dfu l.initial.state) l.next l.still (flash l.active l.dfu l.state)

abbrev pub decreases-loop-next : goal.decreases-loop-next
decreases-loop-next l = l.end - l.next
