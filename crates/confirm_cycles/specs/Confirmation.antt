-- A mark_booted and the boots after it, and request No. 5 of 02 as a contract: `mark_and_boot`, which calls mark_booted and then
-- boot_until_whole, ensures `Confirmation` of every input, and so do `confirm_and_boot` and `updater_confirm_and_boot`, which call it. The
-- state areas are those of power/specs/Confirm. Assumes nothing.
use Rattle.std.specs.Prelude.{◌≡◌, List, ℕ, ◌+◌, ◌-◌, ◌≤◌, take}
use Rattle.std.specs.Prelude.{Some}
use Rattle.state.specs.declared.State.TheVariants.{Boot, Swap, Revert}
use Rattle.geometry.specs.declared.Geometry.{Geometry}
use Rattle.geometry.specs.declared.StateSizes.{StateSizes}
use Rattle.mem_flash.specs.Flash.{Flash, Supply, count}
use Rattle.rules.specs.StateArea.{read_state}
use Rattle.rules.specs.Calls.{Answer, Call, reported, report, left}
use Rattle.rules.specs.Power.{state_units}
use Rattle.power.specs.Confirm.{Swapped, confirmed_part, confirmed_whole, units_erased}
use Rattle.power_cycles.specs.declared.Booted.{Booted}
use Rattle.power_cycles.specs.Cycles.{Uncut, Cycles}

-- one admitted geometry throughout, with a page or more, and the state bytes of a finished swap; mark_booted, with the state sizes z and
-- a budget of k, answers q: it was cut, after its invalidation
pub record CutShort (g : Geometry) (z : StateSizes) (k : Supply) (f : Flash) (q : Answer) : Type 0 where
  pub swapped : Swapped g f
  pub sizes : z ≡ g.state
  pub cut : (reported q).number ≡ 7
  pub invalidated : 1 ≤ count k

-- the units of the state area that are erased when the last of the boots b begins: mark_booted with a budget of k erased some, or
-- the last boot before it did
abbrev pub erased_before : Supply → List Supply → Booted → ℕ
erased_before k ks b = units_erased (count k - 1) (take (b.runs - 1) ks)

-- from the flash f to f': the call c, a mark_booted, with a budget of k, answers q; then boots with the budgets ks, until one is not cut
pub record Confirmation (g : Geometry) (z : StateSizes) (c : Call) (k : Supply) (ks : List Supply) (f f' : Flash) (q : Answer) (b : Booted) : Type 0 where
  pub marks : reported q ≡ report c k
  pub boots : Cycles g ks (left c k f) f' b.runs b.answer
  -- request No. 5: no image is changed, and the Revert magic is never left
  pub active : CutShort g z k f q → f'.active ≡ f.active
  pub dfu : CutShort g z k f q → f'.dfu ≡ f.dfu
  pub never : CutShort g z k f q → read_state g.state f'.state ≡ Revert → ⊥
  -- the boot that is not cut erases the state area and writes the Boot magic, where no unit was erased before it
  pub finishes : CutShort g z k f q → Uncut b.answer → erased_before k ks b ≡ 0
      → (reported b.answer ≡ record { number = 0; state = Some Swap; count = 1 + state_units g f }) × (f' ≡ confirmed_whole g f)
  -- else it reads Boot, and does nothing
  pub rests : CutShort g z k f q → Uncut b.answer → 1 ≤ erased_before k ks b
      → (reported b.answer ≡ record { number = 0; state = Some Boot; count = 0 }) × (f' ≡ confirmed_part g (erased_before k ks b) f)
  -- either way the state area then reads Boot, in which no later boot does anything
  pub settles : CutShort g z k f q → Uncut b.answer → read_state g.state f'.state ≡ Boot
