-- The swap, cut anywhere: what one run leaves, whole or cut. Serves `power`. Assumes nothing.
use mathlib.Core.Path.{◌≡◌, sym, ◌∙◌, subst}
use mathlib.Core.List.{List}
use Prim.Native.Nat.{ℕ, ◌+◌, ◌*◌, ◌≤◌, ◌<◌}
use native.Mathlib.Nat.{not-le_of_lt}
use native.Mathlib.Omega.{arith}
use lib.ListN.{length}
use Rattle.state.specs.declared.State.TheVariants.{Swap}
use Rattle.geometry.specs.declared.Geometry.{Geometry}
use Rattle.mem_flash.specs.Flash.{Flash, Op, apply_all, after}
use Rattle.mem_flash.proofs.After.{after_all}
use Rattle.rules.specs.StateArea.{read_state, progress}
use Rattle.rules.specs.Steps.{swap_from, copies_ops}
use Rattle.rules.specs.Boot.{boot_ops}
use Rattle.rules.specs.Power.{next_cost}
use Rattle.way.proofs.Steps.{Whole}
use Rattle.way.proofs.Way.{OnWay, on_stage, Went, through, stopped, run_on, Kept}
use Rattle.way.proofs.Tables.{swap_count}
use Rattle.way.proofs.Wanted.{wants_swap}

-- on the way of the swap to h, with some steps left
abbrev pub Swapping : Geometry → ℕ → ℕ → Flash → Flash → ℕ → Type 0
Swapping g N S h now rest = OnWay g N S h now 0 (swap_from N 0) rest × (0 < rest)

module _ {g : Geometry} {N S rest : ℕ} {h now : Flash} (on : Swapping g N S h now rest) where
  pub swap_reads : read_state g.state now.state ≡ Swap
  swap_reads = (on_stage on.0).reads.swap

  -- the steps done and the steps left are all of them
  pub swap_at : progress g.state now.state + rest ≡ 2 * N
  swap_at = let r = on_stage on.0 in omega (arith, r.sum, r.reads.done, swap_count N 0)

  -- one run
  module _ (whole : Whole g) (k : ℕ) where
    swap_run : Went g N S h 0 (swap_from N 0) rest now k (boot_ops g now)
    swap_run =
        let r = on_stage on.0 in
        let e : boot_ops g now ≡ copies_ops g (swap_from N 0) now =
        wants_swap r.reads (omega (arith, r.sum, swap_count N 0, on.1)) in
        subst (λ (os : List Op). Went g N S h 0 (swap_from N 0) rest now k os) (sym e) (run_on whole on.0 k)

    pub swap_kept : k < length (boot_ops g now) → Kept (Swapping g N S h) (after k (boot_ops g now) now) k (next_cost g now) rest
    swap_kept short = go swap_run
      where
        go : Went g N S h 0 (swap_from N 0) rest now k (boot_ops g now)
            → Kept (Swapping g N S h) (after k (boot_ops g now) now) k (next_cost g now) rest
        go (through l d z) = absurd (not-le_of_lt short l)
        go (stopped l c p b gain still o) = record { rest = l; inv = (o, p); gain = gain }

    pub swap_done : length (boot_ops g now) ≤ k → after k (boot_ops g now) now ≡ h
    swap_done long = after_all k (boot_ops g now) now long ∙ go swap_run
      where
        go : Went g N S h 0 (swap_from N 0) rest now k (boot_ops g now) → apply_all (boot_ops g now) now ≡ h
        go (through l d z) = d
        go (stopped l c p b gain still o) = absurd (not-le_of_lt c long)

    -- below the next step's cost a run is cut, and gains no step
    pub swap_stay : k < next_cost g now → (k < length (boot_ops g now)) × Swapping g N S h (after k (boot_ops g now) now) rest
    swap_stay few = go swap_run
      where
        go : Went g N S h 0 (swap_from N 0) rest now k (boot_ops g now)
            → (k < length (boot_ops g now)) × Swapping g N S h (after k (boot_ops g now) now) rest
        go (through l d z) = absurd (omega (arith, z few, on.1))
        go (stopped l c p b gain still o) =
            (c, (subst (λ (i : ℕ). OnWay g N S h (after k (boot_ops g now) now) 0 (swap_from N 0) i) (still few) o, on.1))
