-- The bounds of the swap in demand 3: which budgets gain a step, how many cut runs there may be, and that with less than a step's
-- cost there is no end of them. Serves `power`. Assumes nothing.
use mathlib.Core.Path.{◌≡◌, ap, ◌∙◌}
use mathlib.Core.List.{List}
use Prim.Native.Nat.{ℕ, ◌+◌, ◌*◌, ◌≤◌, ◌<◌}
use native.Mathlib.Omega.{arith}
use lib.ListN.{length}
use Rattle.geometry.specs.declared.Geometry.{Geometry}
use Rattle.mem_flash.specs.Flash.{dfu, Flash, after}
use Rattle.rules.specs.StateArea.{progress}
use Rattle.rules.specs.Steps.{swap_from, page_count}
use Rattle.rules.specs.Boot.{boot_ops}
use Rattle.rules.specs.Power.{step_cost, dearer_cost, next_cost}
use Rattle.way.proofs.Tables.{swap_count}
use Rattle.way.proofs.Swapped.{swap_kept, swap_stay, swap_at}
use Rattle.way.proofs.Costs.{even_cost}
use Rattle.power.specs.Power.{Marked, ran, Cut, runs, AllCut, AllBelow, AllAtLeast}
use Rattle.power.proofs.Runs.{ran_after, cut_short, KeptAll, runs_stuck}
use Rattle.power.proofs.Start.{start_sized}
use Rattle.power.proofs.Swaps.{There, from_start, swap_left}

module _ (g : Geometry) (f : Flash) (m : Marked g f) (more : 1 ≤ page_count g f) where
  abbrev N : ℕ
  N = page_count g f

  pub swap_soon : (ks : List ℕ) → AllAtLeast (dearer_cost g) ks → AllCut g ks f → length ks < 2 * N
  swap_soon ks many cuts =
      let l = swap_left g f m more ks cuts in
      omega (arith, l.gain many, l.inv.1, swap_count N 0)

  -- the progress before and after one more run that is cut
  module _ (ks : List ℕ) (k : ℕ) (cuts : AllCut g ks f) (c : Cut g k (runs g ks f)) where
    l : KeptAll g (There g f m) (runs g ks f) ks (dearer_cost g) (length (swap_from N 0))
    l = swap_left g f m more ks cuts

    before : progress g.state (runs g ks f).state + l.rest ≡ 2 * N
    before = swap_at l.inv

    behind : (rest : ℕ) → There g f m (after k (boot_ops g (runs g ks f)) (runs g ks f)) rest
        → progress g.state (ran g k (runs g ks f)).state + rest ≡ 2 * N
    behind rest on =
        ap (λ (x : Flash). progress g.state x.state + rest) (ran_after g k (runs g ks f) l.admits)
        ∙ swap_at on

    pub swap_gains : next_cost g (runs g ks f) ≤ k
        → progress g.state (runs g ks f).state < progress g.state (ran g k (runs g ks f)).state
    swap_gains h =
        let o = swap_kept l.inv (start_sized g f m).whole k
        (cut_short g k (runs g ks f) l.admits c) in
        omega (arith, before, behind o.rest o.inv, o.gain h)

    pub swap_stays : k < next_cost g (runs g ks f)
        → progress g.state (ran g k (runs g ks f)).state ≡ progress g.state (runs g ks f).state
    swap_stays h =
        let o = swap_stay l.inv (start_sized g f m).whole k h in
        omega (arith, before, behind l.rest o.1)

  pub swap_never : (ks : List ℕ) → AllBelow (step_cost g dfu) ks → AllCut g ks f × (progress g.state (runs g ks f).state ≡ 0)
  swap_never ks few =
      let o = runs_stuck g (λ (x : Flash). There g f m x (length (swap_from N 0))) (step_cost g dfu)
      (λ now on k less. swap_stay on (start_sized g f m).whole k
      (rw (even_cost g now 0 (at now on)) less)) ks f m.admitted (from_start g f m more) few in
      (o.0, at (runs g ks f) o.1)
    where
      at : (now : Flash) → There g f m now (length (swap_from N 0)) → progress g.state now.state ≡ 0
      at now on = omega (arith, swap_at on, swap_count N 0)
