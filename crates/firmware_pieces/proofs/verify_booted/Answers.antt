-- `verify_booted`: an arm for each state that is read. Assumes nothing.
use mathlib.Core.Path.{◌≡◌, ap, sym, ◌∙◌}
use mathlib.Core.Bool.{Bool, not}
use Rattle.state.specs.declared.State.{State}
use Rattle.rules.specs.FirmwareUpdater.{is_swap, pending}
use Rattle.firmware_pieces.proofs.verify_booted.Goals as goal

pub returns-in-Swap : goal.returns-in-Swap
unfolding pending is_swap
returns-in-Swap c = ap (λ (s : State). not (is_swap s)) (sym c.in-Swap.is ∙ c.read.ensures)

pub returns-in-Boot : goal.returns-in-Boot
unfolding pending is_swap
returns-in-Boot c = ap (λ (s : State). not (is_swap s)) (sym c.in-Boot.is ∙ c.read.ensures)

pub returns-in-Revert : goal.returns-in-Revert
unfolding pending is_swap
returns-in-Revert c = ap (λ (s : State). not (is_swap s)) (sym c.in-Revert.is ∙ c.read.ensures)

pub returns-in-DfuDetach : goal.returns-in-DfuDetach
unfolding pending is_swap
returns-in-DfuDetach c = ap (λ (s : State). not (is_swap s)) (sym c.in-DfuDetach.is ∙ c.read.ensures)
