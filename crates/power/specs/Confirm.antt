-- Request No. 5 of 02: a confirmation that was cut. From the state bytes of a finished swap, a mark_booted that is cut after its
-- invalidation, and any cuts in the boots after it, change no image and leave no Revert magic. Proved in proofs/Confirmed. Assumes
-- nothing.
use Rattle.std.specs.Prelude.{◌≡◌, List, [], ◌∷◌, ℕ, ◌+◌, ◌-◌, ◌*◌, ◌≤◌, length}
use Rattle.std.specs.Prelude.{Some}
use Rattle.state.specs.declared.State.TheVariants.{Boot, Swap, Revert}
use Rattle.geometry.specs.declared.Geometry.{Geometry}
use Rattle.geometry.specs.declared.Sizes.{Sizes}
use Rattle.geometry.specs.declared.StateSizes.{StateSizes}
use Rattle.geometry.specs.Geometry.{cell}
use Rattle.geometry.specs.Refusals.{boot_refusal}
use Rattle.mem_flash.specs.Flash.{Flash, blank, Supply, count}
use Rattle.rules.specs.StateArea.{read_state}
use Rattle.rules.specs.Steps.{page_count}
use Rattle.rules.specs.Calls.{Call, report, left}
use Rattle.rules.specs.FirmwareState.{mark}
use Rattle.rules.specs.FirmwareUpdater.{updater_mark_booted}
use Rattle.rules.specs.Power.{magic_area, swap_marks, void_marks, state_units}
use Rattle.power.specs.Power.{answer, ran, runs, FirstWhole, Rests, restated}

-- an admitted geometry with N pages, N at least 1, and the state bytes of a finished swap; the images are any
pub record Swapped (g : Geometry) (f : Flash) : Type 0 where
  pub admitted : boot_refusal g (length f.active) (length f.dfu) (length f.state) ≡ 0
  pub some_page : 1 ≤ page_count g f
  pub state : f.state ≡ swap_marks g.state (page_count g f) (length f.state)

-- the two calls that confirm an image, with the geometry's numbers of the state area
pub data MarkBooted (g : Geometry) (f : Flash) : Call → Type 0 where
  firmware_state : (z : StateSizes) → z ≡ g.state → MarkBooted g f (mark Boot z f.state)
  updater : (z : Sizes) → z.state ≡ g.state → MarkBooted g f (updater_mark_booted z f)

-- such a call with a budget of k is cut, after its invalidation
pub record CutConfirmation (c : Call) (k : Supply) : Type 0 where
  pub cut : (report c k).number ≡ 7
  pub invalidated : 1 ≤ count k

-- ---- the state area

-- the marks of a finished swap, invalid, with the first units erased and the rest as they were
unfoldable pub confirmed_part : Geometry → ℕ → Flash → Flash
confirmed_part g units f =
    restated (blank (cell g.state) (units * g.state.es) (void_marks g.state (2 * page_count g f) (length f.state))) f

-- the Boot magic, and erased behind it
unfoldable pub confirmed_whole : Geometry → Flash → Flash
confirmed_whole g f = restated (magic_area g.state Boot (length f.state)) f

-- the units that are erased after cuts: the last one counts, and a boot erases at once
unfoldable pub units_erased : ℕ → List Supply → ℕ
units_erased u [] = u
units_erased u (j ∷ js) = units_erased (count j) js

-- ---- the promise

-- from the flash x, which mark_booted left of f when it was cut after u units of the state's erase: boots with any budgets
pub record Confirms (g : Geometry) (f : Flash) (u : ℕ) (x : Flash) : Type 0 where
  -- no image is changed, cut or not
  pub active : (ks : List Supply) → (runs g ks x).active ≡ f.active
  pub dfu : (ks : List Supply) → (runs g ks x).dfu ≡ f.dfu
  -- the Revert magic is never left
  pub never : (ks : List Supply) → read_state g.state (runs g ks x).state ≡ Revert → ⊥
  -- the first boot that is not cut erases the state area and writes the Boot magic, where no unit was erased before it
  pub finishes : (ks : List Supply) (j : Supply) → FirstWhole g ks j x → units_erased u ks ≡ 0
      → (answer g j (runs g ks x) ≡ record { number = 0; state = Some Swap; count = 1 + state_units g f })
      × (ran g j (runs g ks x) ≡ confirmed_whole g f)
  -- else it reads Boot, and does nothing
  pub rests : (ks : List Supply) (j : Supply) → FirstWhole g ks j x → 1 ≤ units_erased u ks → Rests g ks j x (confirmed_part g (units_erased u ks) f)
  -- and behind it the state area reads Boot, in which no boot does anything
  pub settles : (ks : List Supply) (j : Supply) → FirstWhole g ks j x → read_state g.state (ran g j (runs g ks x)).state ≡ Boot

abbrev pub Confirming : Geometry → Flash → Type 0
Confirming g f = Swapped g f → (c : Call) → MarkBooted g f c → (k : Supply) → CutConfirmation c k → Confirms g f (count k - 1) (left c k f)
