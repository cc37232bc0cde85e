-- What a boot does is the operations of its task, and a task goes on from the progress. Assumes nothing.
use mathlib.Core.Path.{◌≡◌, refl}
use mathlib.Core.Bool.{Bool, true, false}
use Prim.Native.Nat.{◌*◌}
use lib.Dec.{ltb}
use Rattle.state.specs.declared.State.{State}
use Rattle.state.specs.declared.State.TheVariants.{Boot, Swap, Revert, DfuDetach}
use Rattle.state.specs.Choice.{pick}
use Rattle.geometry.specs.declared.Geometry.{Geometry}
use Rattle.mem_flash.specs.Flash.{Flash}
use Rattle.rules.specs.StateArea.{progress}
use Rattle.rules.specs.Steps.{page_count}
use Rattle.rules.specs.Boot.{swap_or_revert_ops, confirming, boot_ops_in, task, task_ops}

pub by_task : (s : State) (g : Geometry) (f : Flash) → boot_ops_in s g f ≡ task_ops (task s g.state (page_count g f) f.state) g f
unfolding boot_ops_in swap_or_revert_ops task task_ops pick
by_task Boot g f = refl
by_task Swap g f =
    go (confirming g.state (page_count g f) f.state) refl (ltb (progress g.state f.state) (2 * page_count g f)) refl
  where
    go : (a : Bool) → confirming g.state (page_count g f) f.state ≡ a
        → (b : Bool) → ltb (progress g.state f.state) (2 * page_count g f) ≡ b
        → boot_ops_in Swap g f ≡ task_ops (task Swap g.state (page_count g f) f.state) g f
    go true e b d = rw e
    go false e true d = rw (e, d)
    go false e false d = rw (e, d)
by_task Revert g f = refl
by_task DfuDetach g f = refl
