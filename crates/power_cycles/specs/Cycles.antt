-- Boots one after the other, and demand 3 of the request as 02 No. 1, 3 and 5 left it, as a contract: `boot_until_whole`, which
-- calls prepare_boot with one budget after the other, ensures `Cycles` of every input. The tables are those of the crate `rules`, and
-- `runs` and `answer` (crate `power`) say what prepare_boot does, run after run. Assumes nothing.
use Rattle.std.specs.Prelude.{Err, Some, ◌≡◌, ◌⊎◌, List, [], ◌∷◌, ℕ, ◌+◌, ◌-◌, ◌*◌, ◌≤◌, length, take}
use Rattle.state.specs.declared.State.TheVariants.{Boot, Swap}
use Rattle.geometry.specs.declared.Geometry.{Geometry}
use Rattle.mem_flash.specs.Flash.{Flash}
use Rattle.rules.specs.declared.Stop.TheVariants.{Cut}
use Rattle.rules.specs.Steps.{page_count}
use Rattle.rules.specs.Calls.{Answer, Report, reported}
use Rattle.rules.specs.Power.{swap_table, reverted, reverted_part, state_units, dearer_cost}
use Rattle.power.specs.Power.{Ready, answer, ran, runs, AllCut, AllAtLeast}

-- ---- the boots

-- the answer is not a cut
abbrev pub Uncut : Answer → Type 0
Uncut r = (reported r).number ≡ 7 → ⊥

-- what the last of these boots answers; with none, a cut after no operation
unfoldable pub last_answer : Geometry → List ℕ → Flash → Report
last_answer g [] f = reported (Err (Cut 0))
last_answer g (k ∷ []) f = answer g k f
last_answer g (k ∷ j ∷ ks) f = last_answer g (j ∷ ks) (ran g k f)

-- n boots from the flash f, with the first n budgets: all but the last are cut, and r and f' are the last one's answer and flash
pub record Made (g : Geometry) (ks : List ℕ) (f f' : Flash) (n : ℕ) (r : Answer) : Type 0 where
  pub budgets : n ≤ length ks
  pub cuts : AllCut g (take (n - 1) ks) f
  pub told : reported r ≡ last_answer g (take n ks) f
  pub leaves : f' ≡ runs g (take n ks) f

-- ---- demand 3

-- f is the swap table of a flash f₀ that was freshly marked
pub record SwapOf (g : Geometry) (f₀ f : Flash) : Type 0 where
  pub ready : Ready g f₀
  pub table : f ≡ swap_table g f₀

-- the revert's two images, of the flash f₀ before the swap. The state area has the Revert magic; or, where a cut fell into its erase
-- or right after it, its first u units are erased (all of them, perhaps) and the rest is as it was when the erase began
pub record Reverted (g : Geometry) (f₀ f' : Flash) (r : Answer) : Type 0 where
  pub active : f'.active ≡ f₀.active
  pub dfu : f'.dfu ≡ (reverted g f₀).dfu
  pub state : ((f'.state ≡ (reverted g f₀).state) × ((reported r).state ≡ Some Swap))
      ⊎ ((u : ℕ) × (1 ≤ u) × (u ≤ state_units g f₀) × (f'.state ≡ (reverted_part g u f₀).state) × ((reported r).state ≡ Some Boot))

-- of n boots the last, with the answer r, was at latest the m-th; and it was not cut, if there were budgets for m boots
pub record AtLatest (m : ℕ) (ks : List ℕ) (n : ℕ) (r : Answer) : Type 0 where
  pub most : n ≤ m
  pub comes : m ≤ length ks → Uncut r

-- ---- the contract: boots until one is not cut, or no budget is left; and demand 3, sentence by sentence

pub record Cycles (g : Geometry) (ks : List ℕ) (f f' : Flash) (n : ℕ) (r : Answer) : Type 0 where
  pub made : Made g ks f f' n r
  pub stops : Uncut r ⊎ (n ≡ length ks)
  -- cut anywhere, any number of times: the first boot that is not cut leaves exactly the swap table, and answers Swap
  pub swaps : Ready g f → Uncut r → (f' ≡ swap_table g f) × ((reported r).state ≡ Some Swap)
  -- from there the same holds of the revert's two images
  pub reverts : (f₀ : Flash) → SwapOf g f₀ f → Uncut r → Reverted g f₀ f' r
  -- if every boot has at least the dearer step's cost, that boot is at latest the 2N-th for the swap
  pub swap_soon : Ready g f → AllAtLeast (dearer_cost g) ks → AtLatest (2 * page_count g f) ks n r
  -- and the (2N + 2)-th for the revert
  pub revert_soon : (f₀ : Flash) → SwapOf g f₀ f → AllAtLeast (dearer_cost g) ks → AtLatest (2 * page_count g f₀ + 2) ks n r
