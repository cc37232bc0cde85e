-- 02, No. 12: which logs a device can have left, and what the judge of a log answers. A run is a call of prepare_boot with a budget;
-- nothing is said here of how a log is read. Assumes nothing.
use Rattle.std.specs.Prelude.{◌≡◌, List, [], ◌∷◌, map, ◌++◌, ℕ, ◌*◌, ◌<◌, ltb, eqb, length, take}
use Rattle.state.specs.Choice.{pick}
use Rattle.geometry.specs.declared.Geometry.{Geometry}
use Rattle.geometry.specs.declared.Refusal.TheVariants.{Range}
use Rattle.geometry.specs.Refusals.{number, boot_refusal, row, first_row}
use Rattle.mem_flash.specs.Flash.{Flash, Op, Supply, count}
use Rattle.rules.specs.StateArea.{progress}
use Rattle.rules.specs.Steps.{page_count}
use Rattle.rules.specs.Boot.{prepare_boot}
use Rattle.power.specs.Power.{Marked, ran}
use Rattle.log_steps.specs.Entries.{entry_of, written}
use Rattle.power_log.specs.declared.LogAnswer.{LogAnswer}
use Rattle.power_log.specs.declared.LogAnswer.TheVariants.{Yes, No, Refused}

-- ---- the logs

-- the whole operations of a run with a budget of k, and of a run for each budget, one after the other, joined
unfoldable pub done : Geometry → Supply → Flash → List Op
done g k f = take (count k) (prepare_boot g f).ops

unfoldable pub joined : Geometry → List Supply → Flash → List Op
joined g [] f = []
joined g (k ∷ ks) f = done g k f ++ joined g ks (ran g k f)

-- the swap is not finished: with no page it counts as finished
unfoldable pub Swapping : Geometry → Flash → Type 0
Swapping g f = progress g.state f.state < 2 * page_count g f

-- no run starts after the swap is finished
unfoldable pub InSwap : Geometry → List Supply → Flash → Type 0
InSwap g [] f = Unit {0}
InSwap g (k ∷ ks) f = Swapping g f × InSwap g ks (ran g k f)

-- a freshly marked flash of these lengths: of any images
pub record Start (g : Geometry) (la ld ls : ℕ) (f : Flash) : Type 0 where
  pub marked : Marked g f
  pub active : length f.active ≡ la
  pub dfu : length f.dfu ≡ ld
  pub state : length f.state ≡ ls

-- some list of budgets makes runs from the flash f whose whole operations, joined in order, are this log
pub record Makes (g : Geometry) (log : List ℕ) (f : Flash) : Type 0 where
  pub budgets : List Supply
  pub in_swap : InSwap g budgets f
  pub leaves : written (map entry_of (joined g budgets f)) ≡ log

-- ---- the answer

-- what an answer tells: the number of the table, and 1 for a yes
unfoldable pub answer_number : LogAnswer → ℕ
answer_number Yes = 0
answer_number No = 0
answer_number (Refused r) = number r

unfoldable pub answer_yes : LogAnswer → ℕ
answer_yes Yes = 1
answer_yes No = 0
answer_yes (Refused r) = 0

-- the longest log
unfoldable pub most_entries : ℕ
most_entries = 65536

-- boot's refusals come first; then a log of too many numbers
unfoldable pub log_refusal : Geometry → ℕ → ℕ → ℕ → ℕ → ℕ
log_refusal g la ld ls n =
    pick (eqb (boot_refusal g la ld ls) 0) (first_row (row Range (ltb (4 * most_entries) n) ∷ [])) (boot_refusal g la ld ls)

-- the answer r to a log: yes exactly if it can have been made, and then from whatever images
pub record Judged (g : Geometry) (la ld ls : ℕ) (log : List ℕ) (r : LogAnswer) : Type 0 where
  pub number : answer_number r ≡ log_refusal g la ld ls (length log)
  pub sound : answer_yes r ≡ 1 → (f : Flash) → Start g la ld ls f → Makes g log f
  pub complete : log_refusal g la ld ls (length log) ≡ 0 → (f : Flash) → Start g la ld ls f → Makes g log f → answer_yes r ≡ 1
