-- Document 01, "What the power may do", and demand 3 of the request: the statement. The tables are those of the crate
-- `rules`, a run is a call of prepare_boot with a budget, and no step is run here. Proved in proofs/Proved, and for N = 0 in
-- proofs/NoPages. Assumes nothing.
use Rattle.std.specs.Prelude.{◌≡◌, ◌⊎◌, List, [], ◌∷◌, ℕ, ◌+◌, ◌-◌, ◌*◌, ◌≤◌, ◌<◌, length}
use Rattle.std.specs.Prelude.{Some}
use Rattle.state.specs.declared.State.{State}
use Rattle.state.specs.declared.State.TheVariants.{Boot, Swap, Revert}
use Rattle.geometry.specs.declared.Geometry.{Geometry}
use Rattle.geometry.specs.Geometry.{cell, words}
use Rattle.geometry.specs.Refusals.{boot_refusal}
use Rattle.mem_flash.specs.Flash.{dfu, Flash, blank, Supply, count}
use Rattle.mem_flash.specs.Areas.{Bytes}
use Rattle.rules.specs.StateArea.{read_state, progress}
use Rattle.rules.specs.Steps.{page_count}
use Rattle.rules.specs.Calls.{Report, report, left}
use Rattle.rules.specs.Boot.{prepare_boot}
use Rattle.rules.specs.Power.{magic_area, Fresh, swap_table, reverted, revert_marks, reverted_part, reverted_erased, state_units, step_cost, dearer_cost, next_cost}

-- ---- where the runs start

-- the geometry is admitted, the areas hold bytes, and the state area is freshly marked for an update
pub record Marked (g : Geometry) (f : Flash) : Type 0 where
  pub admitted : boot_refusal g (length f.active) (length f.dfu) (length f.state) ≡ 0
  pub active_bytes : Bytes f.active
  pub dfu_bytes : Bytes f.dfu
  pub fresh : Fresh g f

-- and there are N pages, N at least 1
pub record Ready (g : Geometry) (f : Flash) : Type 0 where
  pub marked : Marked g f
  pub some_page : 1 ≤ page_count g f

-- demand 3 asks for 4N + 3 or more state words: every admitted geometry has them
abbrev pub EnoughWords : Geometry → Flash → Type 0
EnoughWords g f =
    boot_refusal g (length f.active) (length f.dfu) (length f.state) ≡ 0
    → 4 * page_count g f + 3 ≤ words g.state.ws (length f.state)

-- ---- runs

-- what a run of prepare_boot with a budget of k answers, and the flash that it leaves
unfoldable pub answer : Geometry → Supply → Flash → Report
answer g k f = report (prepare_boot g f) k

unfoldable pub ran : Geometry → Supply → Flash → Flash
ran g k f = left (prepare_boot g f) k f

-- the run is cut: it answers number 7
unfoldable pub Cut : Geometry → Supply → Flash → Type 0
Cut g k f = (answer g k f).number ≡ 7

-- the flash after a run for each budget, one after the other
unfoldable pub runs : Geometry → List Supply → Flash → Flash
runs g [] f = f
runs g (k ∷ ks) f = runs g ks (ran g k f)

-- each of these runs is cut
unfoldable pub AllCut : Geometry → List Supply → Flash → Type 0
AllCut g [] f = Unit {0}
AllCut g (k ∷ ks) f = Cut g k f × AllCut g ks (ran g k f)

-- the runs of ks are cut, and the next one, with a budget of k, is not
pub record FirstWhole (g : Geometry) (ks : List Supply) (k : Supply) (f : Flash) : Type 0 where
  pub cuts : AllCut g ks f
  pub whole : Cut g k (runs g ks f) → ⊥

-- that next run is done with the state s, and leaves the flash h
pub record Ends (g : Geometry) (ks : List Supply) (k : Supply) (f : Flash) (s : State) (h : Flash) : Type 0 where
  pub number : (answer g k (runs g ks f)).number ≡ 0
  pub state : (answer g k (runs g ks f)).state ≡ Some s
  pub flash : ran g k (runs g ks f) ≡ h

-- every budget is n or more, and every budget is below n
unfoldable pub AllAtLeast : ℕ → List Supply → Type 0
AllAtLeast n [] = Unit {0}
AllAtLeast n (k ∷ ks) = (n ≤ count k) × AllAtLeast n ks

unfoldable pub AllBelow : ℕ → List Supply → Type 0
AllBelow n [] = Unit {0}
AllBelow n (k ∷ ks) = (count k < n) × AllBelow n ks

-- ---- the promise

-- the last of these runs was cut with r operations left to do: in a revert that is inside the state's erase, or right after it,
-- if r is at least 1 (the magic) and at most the number of the state's units
unfoldable pub Short : ℕ → Geometry → List Supply → Flash → Type 0
Short r g [] f = ⊥
Short r g (k ∷ []) f = count k + r ≡ length (prepare_boot g f).ops
Short r g (k ∷ j ∷ ks) f = Short r g (j ∷ ks) (ran g k f)

unfoldable pub InErase : Geometry → List Supply → Flash → Type 0
InErase g ks f = (r : ℕ) × (1 ≤ r) × (r ≤ state_units g f) × Short r g ks f

-- the cut runs have reached the flash h, and the next one answers Boot with no operation
pub record Rests (g : Geometry) (ks : List Supply) (k : Supply) (f h : Flash) : Type 0 where
  pub reached : runs g ks f ≡ h
  pub answers : answer g k (runs g ks f) ≡ record { number = 0; state = Some Boot; count = 0 }
  pub flash : ran g k (runs g ks f) ≡ h

-- the first run that is not cut, of a revert that is begun at the flash f: exactly one of two. The last cut fell outside the state's
-- erase, and the run is done with the flash `whole`; or it left r operations of the erase and the magic, and the flash with the
-- other units erased rests
abbrev pub ByLastCut : Geometry → List Supply → Supply → Flash → Flash → (ℕ → Flash) → Type 0
ByLastCut g ks k f whole part =
    ((InErase g ks f → ⊥) × Ends g ks k f Swap whole)
    ⊎ ((r : ℕ) × (1 ≤ r) × (r ≤ state_units g f) × Short r g ks f × Rests g ks k f (part (state_units g f + 1 - r)))

-- from the flash f, freshly marked: cut anywhere, any number of times
pub record Power (g : Geometry) (f : Flash) : Type 0 where
  -- the first run that is not cut leaves the swap table
  pub swaps : (ks : List Supply) (k : Supply) → FirstWhole g ks k f → Ends g ks k f Swap (swap_table g f)
  -- from there the first run that is not cut leaves the revert's images, whatever was cut
  pub reverts_active : (ks : List Supply) (k : Supply) → FirstWhole g ks k (swap_table g f) → (ran g k (runs g ks (swap_table g f))).active ≡ f.active
  pub reverts_dfu : (ks : List Supply) (k : Supply) → FirstWhole g ks k (swap_table g f)
      → (ran g k (runs g ks (swap_table g f))).dfu ≡ (reverted g f).dfu
  -- with the Revert magic; or with the state's units erased that were, and the rest as they were: by the place of the last cut
  pub reverts : (ks : List Supply) (k : Supply) → FirstWhole g ks k (swap_table g f)
      → ByLastCut g ks k (swap_table g f) (reverted g f) (λ u. reverted_part g u f)
  -- which, after the whole of the erase, is a state area all erased
  pub erased_whole : reverted_part g (state_units g f) f ≡ reverted_erased g f
  -- with the dearer step's cost at each run, the first that is not cut is at latest the 2N-th, and in the revert the (2N + 2)-th
  pub swap_soon : (ks : List Supply) → AllAtLeast (dearer_cost g) ks → AllCut g ks f → length ks < 2 * page_count g f
  pub revert_soon : (ks : List Supply) → AllAtLeast (dearer_cost g) ks → AllCut g ks (swap_table g f) → length ks < 2 * page_count g f + 2
  -- and the (2N + 1)-th, where a run that has a step's cost can also end the revert: invalidate, erase, write the magic
  pub revert_sooner : (ks : List Supply) → 2 + state_units g f ≤ dearer_cost g → AllAtLeast (dearer_cost g) ks → AllCut g ks (swap_table g f)
      → length ks < 2 * page_count g f + 1
  -- a run of the swap that is cut gains a step exactly if it has the next step's cost
  pub swap_gains : (ks : List Supply) (k : Supply) → AllCut g ks f → Cut g k (runs g ks f) → next_cost g (runs g ks f) ≤ count k
      → progress g.state (runs g ks f).state < progress g.state (ran g k (runs g ks f)).state
  pub swap_stays : (ks : List Supply) (k : Supply) → AllCut g ks f → Cut g k (runs g ks f) → count k < next_cost g (runs g ks f)
      → progress g.state (ran g k (runs g ks f)).state ≡ progress g.state (runs g ks f).state
  -- and so does a run of the revert that is cut with steps of it left, where the state area still reads Swap behind it
  pub revert_gains : (ks : List Supply) (k : Supply) → AllCut g ks (swap_table g f) → Cut g k (runs g ks (swap_table g f))
      → progress g.state (runs g ks (swap_table g f)).state < 4 * page_count g f → next_cost g (runs g ks (swap_table g f)) ≤ count k
      → read_state g.state (ran g k (runs g ks (swap_table g f))).state ≡ Swap
      → progress g.state (runs g ks (swap_table g f)).state < progress g.state (ran g k (runs g ks (swap_table g f))).state
  pub revert_stays : (ks : List Supply) (k : Supply) → AllCut g ks (swap_table g f) → Cut g k (runs g ks (swap_table g f))
      → progress g.state (runs g ks (swap_table g f)).state < 4 * page_count g f → count k < next_cost g (runs g ks (swap_table g f))
      → progress g.state (ran g k (runs g ks (swap_table g f))).state ≡ progress g.state (runs g ks (swap_table g f)).state
  -- with one operation less than the first step's cost, always, every run is cut and no step is gained
  pub swap_never : (ks : List Supply) → AllBelow (step_cost g dfu) ks → AllCut g ks f × (progress g.state (runs g ks f).state ≡ 0)
  pub revert_never : (ks : List Supply) → AllBelow (step_cost g dfu) ks
      → AllCut g ks (swap_table g f) × (progress g.state (runs g ks (swap_table g f)).state ≡ 2 * page_count g f)

-- ---- no pages: N = 0 counts as already swapped

-- the flash with another state area
abbrev pub restated : List ℕ → Flash → Flash
restated st f = record { active = f.active; dfu = f.dfu; state = st }

-- a freshly marked flash is the swap table; so the revert begins at once, with its last operations, and touches no image
pub record NoPages (g : Geometry) (f : Flash) : Type 0 where
  pub swapped : swap_table g f ≡ f
  pub at_once : (k : Supply) → 2 + state_units g f ≤ count k → answer g k f ≡ record { number = 0; state = Some Swap; count = 2 + state_units g f }
  pub reverts_active : (ks : List Supply) (k : Supply) → FirstWhole g ks k f → (ran g k (runs g ks f)).active ≡ f.active
  pub reverts_dfu : (ks : List Supply) (k : Supply) → FirstWhole g ks k f → (ran g k (runs g ks f)).dfu ≡ f.dfu
  pub reverts : (ks : List Supply) (k : Supply) → FirstWhole g ks k f
      → ByLastCut g ks k f (restated (magic_area g.state Revert (length f.state)) f)
      (λ u. restated (blank (cell g.state) (u * g.state.es) (revert_marks g.state 0 (length f.state))) f)
