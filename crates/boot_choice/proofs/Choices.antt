-- Laws of what a boot does: each task's operations are the boot's, and the revert's end. Assumes nothing.
use mathlib.Core.Path.{◌≡◌, refl, ◌∙◌, sym}
use mathlib.Core.List.{List, [], ◌∷◌, ◌++◌}
use Prim.Native.Nat.{ℕ, ◌*◌, ◌/◌, ◌≤◌, ◌<◌, ◌^◌}
use native.Mathlib.Nat.{div-le_self}
use native.Mathlib.Omega.{arith}
use lib.ListN.{length}
use Rattle.state.specs.declared.State.{State}
use Rattle.state.specs.declared.State.TheVariants.{Revert}
use Rattle.state.specs.Magic.{magic}
use Rattle.geometry.specs.declared.Geometry.{Geometry}
use Rattle.geometry.specs.Geometry.{page, pages}
use Rattle.geometry.specs.Refusals.{most_length}
use Rattle.mem_flash.specs.declared.Budget.{Budget}
use Rattle.mem_flash.specs.Run.{Flow, cut}
use Rattle.std.specs.Prelude.{Ok}
use Rattle.mem_flash.specs.Flash.{Flash}
use Rattle.mem_flash.specs.Run.{flash, on, ended, run, Ran}
use Rattle.mem_flash.proofs.Runs.{then_on, then_cut, ran, run_of}
use Rattle.rules.specs.declared.Task.{Task}
use Rattle.rules.specs.declared.Task.TheVariants as tasks
use Rattle.rules.specs.StateArea.{progress, invalidate_op}
use Rattle.rules.specs.Steps.{page_count, swap_ops, revert_ops}
use Rattle.rules.specs.Boot.{renew_ops, finish_ops, boot_ops_in, task, task_ops}
use Rattle.rules.proofs.Tasks.{by_task}
use Rattle.boot_plan.proofs.Plans.{swap_from_lem, revert_from_lem}
use Rattle.state_area.specs.Area.{Invalidated, Renewed}

-- ---- the task

-- a multiple of the count of pages, as the plan asks it, fits
pub counts_fit : (a p : ℕ) → a ≤ most_length → 4 * (a / p) < 2 ^ 64
unfolding most_length
counts_fit a p h = omega (arith, div-le_self a p)

-- by the page's size as it was computed
module _ (s : State) (g : Geometry) (f : Flash) {p : ℕ} {t : Task} (e : p ≡ page g)
    (planned : t ≡ task s g.state (length f.active / p) f.state) where
  chosen : {u : Task} → t ≡ u → task s g.state (pages g (length f.active)) f.state ≡ u
  unfolding pages
  chosen o = rw e at (sym planned ∙ o)

  does : {k : ℕ} {u : Task} {f₁ : Flash} {r : Flow} → t ≡ u → Ran k (task_ops u g f) f f₁ r → Ran k (boot_ops_in s g f) f f₁ r
  unfolding page_count
  does o w = rw (by_task s g f, chosen o) w

  pub does_nothing : {k : ℕ} → t ≡ tasks.Nothing → Ran k (boot_ops_in s g f) f f (on k)
  unfolding task_ops run
  does_nothing o = does o (ran _ _ _ _ _ refl)

  pub confirms : {k : ℕ} {S₁ : List ℕ} {r : Flow} → t ≡ tasks.Confirm → Renewed k g.state 0xD0 f.state S₁ r
      → Ran k (boot_ops_in s g f) f (flash f.active f.dfu S₁) r
  unfolding task_ops magic
  confirms o w = does o (ran _ _ _ _ _ (w f.active f.dfu))

  module _ {k i : ℕ} {f₁ : Flash} {r : Flow} where
    pub swaps : t ≡ tasks.Swap i → Ran k (swap_ops g f) f f₁ r → Ran k (boot_ops_in s g f) f f₁ r
    unfolding task_ops
    swaps o w = does o w

    pub reverts : t ≡ tasks.Revert i → Ran k (revert_ops g f ++ finish_ops g f) f f₁ r → Ran k (boot_ops_in s g f) f f₁ r
    unfolding task_ops
    reverts o w = does o w

  -- where a swap and a revert go on
  pub swap_next : {i : ℕ} → t ≡ tasks.Swap i → i ≡ progress g.state f.state
  swap_next o = swap_from_lem s g.state (pages g (length f.active)) f.state (chosen o)

  pub revert_next : {i : ℕ} → t ≡ tasks.Revert i → (i ≡ progress g.state f.state) × (2 * pages g (length f.active) ≤ i)
  revert_next o = revert_from_lem s g.state (pages g (length f.active)) f.state (chosen o)

-- ---- the revert and its end

module _ (g : Geometry) {k : ℕ} {f f₁ : Flash} {r : Flow} (w : Ran k (revert_ops g f) f f₁ r) where
  pub revert_cut : r ≡ cut → Ran k (revert_ops g f ++ finish_ops g f) f f₁ cut
  revert_cut o = ran _ _ _ _ _ (then_cut k (revert_ops g f) _ _ _ r (run_of _ _ _ _ _ w) o)

  -- from what the invalidation answers
  module _ {l : Budget} (o : r ≡ Ok l) {S₂ : List ℕ} {q : Flow} (i : Invalidated l.0 g.state f₁.state S₂ q) where
    finish : {f₂ : Flash} {p : Flow}
        → run l.0 (invalidate_op g.state ∷ renew_ops g.state (length f.state) (magic Revert)) f₁ ≡ ended f₂ p
        → Ran k (revert_ops g f ++ finish_ops g f) f f₂ p
    unfolding finish_ops
    finish v = ran _ _ _ _ _ (then_on k (revert_ops g f) _ _ _ r (run_of _ _ _ _ _ w) l o ∙ v)

    pub invalid_cut : q ≡ cut → Ran k (revert_ops g f ++ finish_ops g f) f (flash f₁.active f₁.dfu S₂) cut
    invalid_cut p = finish (then_cut l.0 (invalidate_op g.state ∷ []) _ _ _ q (i f₁.active f₁.dfu) p)

    pub reverted : {m : Budget} {S₃ : List ℕ} {p : Flow} → q ≡ Ok m → length S₂ ≡ length f.state → Renewed m.0 g.state 0xC0 S₂ S₃ p
        → Ran k (revert_ops g f ++ finish_ops g f) f (flash f₁.active f₁.dfu S₃) p
    unfolding magic
    reverted {m} e z v =
        finish
        (then_on l.0 (invalidate_op g.state ∷ []) _ _ _ q (i f₁.active f₁.dfu) m e ∙ (rw z at (v f₁.active f₁.dfu)))
