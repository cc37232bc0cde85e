-- Document 01, "Steps": mark_updated, mark_dfu and mark_booted, one definition for the three. Assumes nothing.
use Rattle.std.specs.Prelude.{None}
use Rattle.std.specs.Prelude.{List, [], ◌∷◌, ◌++◌, ℕ, length}
use Rattle.state.specs.declared.State.{State}
use Rattle.state.specs.Choice.{pick}
use Rattle.state.specs.Magic.{magic, throughout}
use Rattle.geometry.specs.declared.StateSizes.{StateSizes}
use Rattle.geometry.specs.Refusals.{state_refusal}
use Rattle.mem_flash.specs.Flash.{Op}
use Rattle.rules.specs.StateArea.{word, valid, invalidate_op}
use Rattle.rules.specs.Boot.{renew_ops}
use Rattle.rules.specs.Calls.{Call}

-- nothing if word 0 has the magic already; else invalidate, if the progress is valid, erase the area, write the magic
unfoldable pub set_magic_ops : StateSizes → ℕ → List ℕ → List Op
set_magic_ops z m st =
    pick (throughout m (word z 0 st)) []
    (pick (valid z st) (invalidate_op z ∷ []) [] ++ renew_ops z (length st) m)

-- the state that is marked: Swap by mark_updated, DfuDetach by mark_dfu, Boot by mark_booted
unfoldable pub mark : State → StateSizes → List ℕ → Call
mark s z st = record { refusal = state_refusal z (length st); state = None; ops = set_magic_ops z (magic s) st }
