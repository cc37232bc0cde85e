-- The same bounds of the revert: its steps, and the end, which a run may have to pay for besides. Serves `power`. Assumes nothing.
use mathlib.Core.Path.{◌≡◌, sym, ap, ◌∙◌, subst}
use mathlib.Core.List.{List}
use Prim.Native.Nat.{ℕ, suc, ◌+◌, ◌-◌, ◌*◌, ◌/◌, ◌≤◌, ◌<◌}
use native.Mathlib.Nat.{lt_of_not-le}
use native.Mathlib.Decide.{dec_le}
use native.Mathlib.Omega.{arith}
use lib.ListN.{length}
use Rattle.state.specs.declared.State.TheVariants.{Swap}
use Rattle.geometry.specs.declared.Geometry.{Geometry}
use Rattle.geometry.specs.Geometry.{page}
use Rattle.mem_flash.specs.Flash.{dfu, Flash, after}
use Rattle.rules.specs.StateArea.{read_state, progress}
use Rattle.rules.specs.Steps.{revert_from, page_count}
use Rattle.rules.specs.Boot.{boot_ops}
use Rattle.rules.specs.Power.{swap_table, state_units, step_cost, dearer_cost, next_cost}
use Rattle.rules.proofs.Pages.{mix}
use Rattle.way.proofs.Way.{OnWay, Kept}
use Rattle.way.proofs.Tables.{revert_count}
use Rattle.way.proofs.Reverted.{copying, revert_kept, last_most, revert_gains, revert_stays, revert_stay, revert_at, Course, Turning}
use Rattle.way.proofs.Costs.{even_cost}
use Rattle.power.specs.Power.{Marked, ran, Cut, runs, AllCut, AllBelow, AllAtLeast}
use Rattle.power.proofs.Runs.{ran_after, cut_short, dearer, KeptAll, runs_left, runs_stuck}
use Rattle.power.proofs.Start.{state_bytes, swapped_dfu, start_sized, mark_room}
use Rattle.power.proofs.Reverts.{steps_back, revert_end, course, from_table, admits_swapped, back_left}

module _ (g : Geometry) (f : Flash) (m : Marked g f) (R : List ℕ)
    (same : mix (page g) (page_count g f) f.dfu (swapped_dfu g f) ≡ R) where
  abbrev N : ℕ
  N = page_count g f

  abbrev S : ℕ
  S = state_bytes g f

  abbrev course_back : Course g N (mark_room g f) f.active R (swap_table g f)
  course_back = course g f m R same

  abbrev Back : Flash → ℕ → Type 0
  Back = Turning course_back

  pub revert_soon : (ks : List ℕ) → AllAtLeast (dearer_cost g) ks → AllCut g ks (swap_table g f) → length ks < 2 * N + 2
  revert_soon ks many cuts =
      let l = back_left g f m R same ks cuts in
      omega (arith, l.gain many, revert_count N 0 (2 * N))

  -- where a step's cost is enough for the end too, a run that has it is not cut with the end alone left
  abbrev Nearer : Flash → ℕ → Type 0
  Nearer now rest = (i : ℕ) × Back now i × (i ≤ suc rest)

  nearer_kept : 2 + S / g.state.es ≤ dearer_cost g → (now : Flash) (was : ℕ) → Nearer now was → (k : ℕ) → k < length (boot_ops g now)
      → Kept Nearer (after k (boot_ops g now) now) k (dearer_cost g) was
  nearer_kept enough now was on k short =
      let o = dearer g now (revert_kept course_back on.1 k short) in
      record {
        rest = o.rest - 1;
        inv = (o.rest, o.inv, omega arith);
        gain = λ x. go o.rest (o.gain x) x (dec_le on.0 1);
      }
    where
      go : (l : ℕ) → l < on.0 → dearer_cost g ≤ k → Dec (on.0 ≤ 1) → l - 1 < was
      go l less x (yes e) = absurd (omega (arith, last_most course_back on.1 e))
      go l less x (no e) = omega (arith, lt_of_not-le e, on.2)

  nearer_left : 2 + S / g.state.es ≤ dearer_cost g → (ks : List ℕ) → AllCut g ks (swap_table g f)
      → KeptAll g Nearer (runs g ks (swap_table g f)) ks (dearer_cost g) (steps_back g f)
  nearer_left enough ks cuts =
      runs_left g Nearer (dearer_cost g) (nearer_kept enough) ks (swap_table g f) (steps_back g f) (admits_swapped g f m R same)
      (suc (steps_back g f), copying (from_table g f m R same), omega arith) cuts

  -- the progress before and after one more run that is cut
  module _ (ks : List ℕ) (k : ℕ) (cuts : AllCut g ks (swap_table g f)) (c : Cut g k (runs g ks (swap_table g f)))
      (few : progress g.state (runs g ks (swap_table g f)).state < 4 * N) where
    abbrev now : Flash
    now = runs g ks (swap_table g f)

    l : KeptAll g Back now ks (dearer_cost g) (suc (steps_back g f))
    l = back_left g f m R same ks cuts

    short : k < length (boot_ops g now)
    short = cut_short g k now l.admits c

    pub back_gains : next_cost g now ≤ k → read_state g.state (ran g k now).state ≡ Swap
        → progress g.state now.state < progress g.state (ran g k now).state
    back_gains =
        subst (λ (x : Flash). next_cost g now ≤ k → read_state g.state x.state ≡ Swap
        → progress g.state now.state < progress g.state x.state) (sym (ran_after g k now l.admits))
        (revert_gains course_back l.inv k short few)

    pub back_stays : k < next_cost g now → progress g.state (ran g k now).state ≡ progress g.state now.state
    back_stays less =
        ap (λ (x : Flash). progress g.state x.state) (ran_after g k now l.admits)
        ∙ revert_stays course_back l.inv k short few less

  pub back_never : 1 ≤ N → (ks : List ℕ) → AllBelow (step_cost g dfu) ks
      → AllCut g ks (swap_table g f) × (progress g.state (runs g ks (swap_table g f)).state ≡ 2 * N)
  back_never more ks few =
      let o = runs_stuck g Here (step_cost g dfu)
      (λ now on k less. revert_stay course_back on (omega (arith, revert_count N 0 (2 * N))) k
      (rw (even_cost g now N (at now on)) less)) ks (swap_table g f) (admits_swapped g f m R same) (from_table g f m R same) few in
      (o.0, at (runs g ks (swap_table g f)) o.1)
    where
      Here : Flash → Type 0
      Here now = OnWay g N S (revert_end g f R) now (2 * N) (revert_from N 0 (2 * N)) (steps_back g f)

      at : (now : Flash) → Here now → progress g.state now.state ≡ 2 * N
      at now on = omega (arith, revert_at course_back on, revert_count N 0 (2 * N))

  pub revert_sooner : (ks : List ℕ) → 2 + state_units g f ≤ dearer_cost g → AllAtLeast (dearer_cost g) ks → AllCut g ks (swap_table g f)
      → length ks < 2 * N + 1
  unfolding state_units
  revert_sooner ks enough many cuts =
      let l = nearer_left (subst (λ (n : ℕ). 2 + n / g.state.es ≤ dearer_cost g) (start_sized g f m).state enough) ks cuts in
      omega (arith, l.gain many, revert_count N 0 (2 * N))
