-- Which operations a boot wants, by what it reads. Serves `power`, `settles` and `confirmed`. Assumes nothing.
use mathlib.Core.Path.{◌≡◌, ap, ◌∙◌}
use mathlib.Core.Bool.{Bool, true}
use mathlib.Core.List.{[], ◌++◌}
use Prim.Native.Nat.{ℕ, ◌*◌, ◌≤◌, ◌<◌}
use lib.ListN.{length}
use borrow.Author.Tests.{lt-ltb, le-ltb}
use Rattle.state.specs.declared.State.{State}
use Rattle.state.specs.declared.State.TheVariants.{Boot, Swap, Revert}
use Rattle.state.specs.Choice.{pick}
use Rattle.state.specs.Magic.{magic}
use Rattle.geometry.specs.declared.Geometry.{Geometry}
use Rattle.mem_flash.specs.Flash.{Flash}
use Rattle.rules.specs.StateArea.{read_state, progress}
use Rattle.rules.specs.Steps.{swap_from, revert_from, swap_steps, revert_steps, copies_ops, page_count, swap_ops, revert_ops}
use Rattle.rules.specs.Boot.{renew_ops, finish_ops, swap_or_revert_ops, confirming, boot_ops_in, boot_ops}
use Rattle.way.proofs.Way.{Reads}

module _ (g : Geometry) (f : Flash) where
  -- none in the states Boot and Revert
  pub wants_none : read_state g.state f.state ≡ Boot → boot_ops g f ≡ []
  unfolding boot_ops boot_ops_in
  wants_none e = ap (λ (s : State). boot_ops_in s g f) e

  pub wants_none_reverted : read_state g.state f.state ≡ Revert → boot_ops g f ≡ []
  unfolding boot_ops boot_ops_in
  wants_none_reverted e = ap (λ (s : State). boot_ops_in s g f) e

  -- the erase and the Boot magic after a confirmation that was cut
  pub wants_renewal : read_state g.state f.state ≡ Swap → confirming g.state (page_count g f) f.state ≡ true
      → boot_ops g f ≡ renew_ops g.state (length f.state) (magic Boot)
  unfolding boot_ops boot_ops_in pick
  wants_renewal e c =
      ap (λ (s : State). boot_ops_in s g f) e
      ∙ ap (λ (b : Bool). pick b (renew_ops g.state (length f.state) (magic Boot)) (swap_or_revert_ops g f)) c

module _ {g : Geometry} {N S n : ℕ} {f : Flash} (r : Reads g N S n f) where
  boot_in : boot_ops g f ≡ swap_or_revert_ops g f
  unfolding boot_ops boot_ops_in pick
  boot_in =
      ap (λ (s : State). boot_ops_in s g f) r.swap
      ∙ ap (λ (b : Bool). pick b (renew_ops g.state (length f.state) (magic Boot)) (swap_or_revert_ops g f))
      (ap (λ (n : ℕ). confirming g.state n f.state) r.paged ∙ r.settled)

  pub wants_swap : n < 2 * N → boot_ops g f ≡ copies_ops g (swap_from N 0) f
  unfolding swap_or_revert_ops pick swap_ops swap_steps
  wants_swap h =
      boot_in
      ∙ ap (λ (b : Bool). pick b (swap_ops g f) (revert_ops g f ++ finish_ops g f))
      (lt-ltb (progress g.state f.state) (2 * page_count g f) (rw (r.done, r.paged) h))
      ∙ ap (λ (m : ℕ). copies_ops g (swap_from m 0) f) r.paged

  pub wants_revert : 2 * N ≤ n → boot_ops g f ≡ copies_ops g (revert_from N 0 (2 * N)) f ++ finish_ops g f
  unfolding swap_or_revert_ops pick revert_ops revert_steps
  wants_revert h =
      boot_in
      ∙ ap (λ (b : Bool). pick b (swap_ops g f) (revert_ops g f ++ finish_ops g f))
      (le-ltb (progress g.state f.state) (2 * page_count g f) (rw (r.done, r.paged) h))
      ∙ ap (λ (m : ℕ). copies_ops g (revert_from m 0 (2 * m)) f ++ finish_ops g f) r.paged
