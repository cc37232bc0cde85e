-- Document 01, "Steps": prepare_boot, and read_state. Assumes nothing.
use Rattle.std.specs.Prelude.{Bool, false, List, [], ◌∷◌, ◌++◌, ℕ, ◌*◌, ltb, length}
use Rattle.std.specs.Prelude.{Some}
use Rattle.state.specs.declared.State.{State}
use Rattle.state.specs.declared.State.TheVariants.{Boot, Swap, Revert, DfuDetach}
use Rattle.state.specs.Choice.{pick}
use Rattle.state.specs.Magic.{magic}
use Rattle.geometry.specs.declared.StateSizes.{StateSizes}
use Rattle.geometry.specs.declared.Geometry.{Geometry}
use Rattle.geometry.specs.Geometry.{cell}
use Rattle.geometry.specs.Refusals.{boot_refusal, state_refusal}
use Rattle.mem_flash.specs.Flash.{state, Flash, Op, erase_ops}
use Rattle.rules.specs.StateArea.{read_state, valid, marks_done, progress, invalidate_op, magic_op}
use Rattle.rules.specs.Steps.{page_count, swap_ops, revert_ops}
use Rattle.rules.specs.Calls.{Call}
use Rattle.rules.specs.declared.Task.{Task}
use Rattle.rules.specs.declared.Task.TheVariants as tasks

-- the whole state area, of n bytes, erased and a magic written
unfoldable pub renew_ops : StateSizes → ℕ → ℕ → List Op
renew_ops z n m = erase_ops (cell z) z.es state 0 n ++ (magic_op z m ∷ [])

-- after the revert's steps: invalidate, erase the whole state area, write the Revert magic
unfoldable pub finish_ops : Geometry → Flash → List Op
finish_ops g f = invalidate_op g.state ∷ renew_ops g.state (length f.state) (magic Revert)

-- a progress below 2N swaps, any other reverts
unfoldable pub swap_or_revert_ops : Geometry → Flash → List Op
swap_or_revert_ops g f =
    pick (ltb (progress g.state f.state) (2 * page_count g f)) (swap_ops g f) (revert_ops g f ++ finish_ops g f)

-- a confirmation was cut, with n pages: the progress does not count, and the marks are those of a finished swap and of a revert
-- that is not finished (request No. 5 of 02)
unfoldable pub confirming : StateSizes → ℕ → List ℕ → Bool
confirming z n st =
    pick (valid z st) false (pick (ltb (marks_done z st) (2 * n)) false (ltb (marks_done z st) (4 * n)))

-- only state Swap acts: it finishes a confirmation that was cut, or swaps, or reverts
unfoldable pub boot_ops_in : State → Geometry → Flash → List Op
boot_ops_in Boot g f = []
boot_ops_in Swap g f =
    pick (confirming g.state (page_count g f) f.state)
    (renew_ops g.state (length f.state) (magic Boot))
    (swap_or_revert_ops g f)
boot_ops_in Revert g f = []
boot_ops_in DfuDetach g f = []

-- the same in two: what there is to do, by the state area alone, with n pages; and the operations of it
unfoldable pub task : State → StateSizes → ℕ → List ℕ → Task
task Boot z n st = tasks.Nothing
task Swap z n st =
    pick (confirming z n st)
    tasks.Confirm
    (pick (ltb (progress z st) (2 * n)) (tasks.Swap (progress z st)) (tasks.Revert (progress z st)))
task Revert z n st = tasks.Nothing
task DfuDetach z n st = tasks.Nothing

unfoldable pub task_ops : Task → Geometry → Flash → List Op
task_ops tasks.Nothing g f = []
task_ops tasks.Confirm g f = renew_ops g.state (length f.state) (magic Boot)
task_ops (tasks.Swap i) g f = swap_ops g f
task_ops (tasks.Revert i) g f = revert_ops g f ++ finish_ops g f

unfoldable pub boot_ops : Geometry → Flash → List Op
boot_ops g f = boot_ops_in (read_state g.state f.state) g f

-- prepare_boot carries the state read at entry
unfoldable pub prepare_boot : Geometry → Flash → Call
prepare_boot g f =
    record {
      refusal = boot_refusal g (length f.active) (length f.dfu) (length f.state);
      state = Some (read_state g.state f.state);
      ops = boot_ops g f;
    }

-- read_state of the boot loader and get_state of the firmware state do no operation
unfoldable pub get_state : StateSizes → List ℕ → Call
get_state z st = record { refusal = state_refusal z (length st); state = Some (read_state z st); ops = [] }
