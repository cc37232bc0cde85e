-- What a log tells of the flash that its runs left, and what follows for single logs. Proved in proofs/Told. Assumes nothing.
use Rattle.std.specs.Prelude.{◌≡◌, List, [], ◌∷◌, map, ℕ, suc, ◌*◌, ◌≤◌, ◌<◌, eqb, length}
use Rattle.state.specs.Choice.{pick}
use Rattle.geometry.specs.declared.Geometry.{Geometry}
use Rattle.mem_flash.specs.Flash.{state, Flash, Supply}
use Rattle.rules.specs.StateArea.{progress}
use Rattle.rules.specs.Steps.{page_count}
use Rattle.rules.specs.Power.{swap_table}
use Rattle.power.specs.Power.{runs}
use Rattle.log_steps.specs.Entries.{Entry}
use Rattle.log_steps.specs.Entries.{area_number, entry_of, written}
use Rattle.power_log.specs.declared.LogAnswer.{LogAnswer}
use Rattle.power_log.specs.declared.LogAnswer.TheVariants.{Yes}
use Rattle.power_log.specs.Log.{joined, InSwap, Start, Makes, most_entries, Judged}

-- the whole steps in a log: each has one entry of the state area, its mark
unfoldable pub whole_steps : List Entry → ℕ
whole_steps [] = 0
whole_steps (e ∷ es) = pick (eqb e.area (area_number state)) (suc (whole_steps es)) (whole_steps es)

-- of runs from the flash f that start before the swap is finished
pub record LogTells (g : Geometry) (f : Flash) (ks : List Supply) : Type 0 where
  -- the progress is the number of whole steps in their log
  pub progress : progress g.state (runs g ks f).state ≡ whole_steps (map entry_of (joined g ks f))
  -- with two for each page the swap is finished, and the flash is the swap table
  pub swapped : whole_steps (map entry_of (joined g ks f)) ≡ 2 * page_count g f → runs g ks f ≡ swap_table g f

abbrev pub Tells : Geometry → Flash → Type 0
Tells g f = (ks : List Supply) → InSwap g ks f → LogTells g f ks

-- so a log names the flash that it was left with, whichever budgets made it
abbrev pub Names : Geometry → Flash → Type 0
Names g f =
    (es : List Entry) (k : Makes g (written es) f)
    → (progress g.state (runs g k.budgets f).state ≡ whole_steps es)
    × (whole_steps es ≡ 2 * page_count g f → runs g k.budgets f ≡ swap_table g f)

-- the images' bytes do not matter: from another freshly marked flash of these lengths runs with the same budgets log the same
pub record SameRuns (g : Geometry) (ks : List Supply) (f h : Flash) : Type 0 where
  pub in_swap : InSwap g ks h
  pub log : map entry_of (joined g ks f) ≡ map entry_of (joined g ks h)

abbrev pub AnyImages : Geometry → ℕ → ℕ → ℕ → Type 0
AnyImages g la ld ls =
    (f h : Flash) → Start g la ld ls f → Start g la ld ls h → (ks : List Supply) → InSwap g ks f → SameRuns g ks f h

-- an entry of a kind and an area that there are
unfoldable pub Known : List Entry → Type 0
Known [] = Unit {0}
Known (e ∷ es) = (e.kind < 2) × (e.area < 3) × Known es

-- what is said of single logs
pub record Edges (g : Geometry) (f : Flash) : Type 0 where
  -- the empty log can have been left, and with no page no other
  pub empty : Makes g [] f
  pub no_page : page_count g f ≡ 0 → (log : List ℕ) → Makes g log f → log ≡ []
  -- a log that can have been left is whole entries, each of a known kind and area
  pub known : (log : List ℕ) → Makes g log f → (es : List Entry) × Known es × (written es ≡ log)

-- what the first runs of a device log, until the swap is finished, is a yes, if it is not too long
abbrev pub FirstRuns : Geometry → Flash → Type 0
FirstRuns g f =
    (ks : List Supply) (r : LogAnswer) → InSwap g ks f → length (joined g ks f) ≤ most_entries
    → Judged g (length f.active) (length f.dfu) (length f.state) (written (map entry_of (joined g ks f))) r → r ≡ Yes
