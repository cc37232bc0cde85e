-- The swap of demand 3: cut any number of times, the first run that is not cut leaves the swap table. Serves `power`. Assumes nothing.
use mathlib.Core.List.{List}
use Prim.Native.Nat.{ℕ, ◌≤◌}
use native.Mathlib.Omega.{arith}
use lib.ListN.{length}
use Rattle.state.specs.declared.State.TheVariants.{Swap}
use Rattle.geometry.specs.declared.Geometry.{Geometry}
use Rattle.mem_flash.specs.Flash.{Flash}
use Rattle.rules.specs.Steps.{swap_from, page_count}
use Rattle.rules.specs.Power.{swap_table, dearer_cost}
use Rattle.way.proofs.Way.{here, close_refl}
use Rattle.way.proofs.Tables.{swap_count}
use Rattle.way.proofs.Swapped.{Swapping, swap_kept, swap_done, swap_reads}
use Rattle.power.specs.Power.{Marked, runs, AllCut, FirstWhole, Ends}
use Rattle.power.proofs.Runs.{whole_long, dearer, KeptAll, runs_left, ends_at}
use Rattle.power.proofs.Start.{state_bytes, start_sized, way_there}

module _ (g : Geometry) (f : Flash) (m : Marked g f) where
  abbrev N : ℕ
  N = page_count g f

  -- on the way of the swap, with so many steps left
  abbrev pub There : Flash → ℕ → Type 0
  There = Swapping g N (state_bytes g f) (swap_table g f)

  pub from_start : 1 ≤ N → There f (length (swap_from N 0))
  from_start more = (here f (way_there g f m) (close_refl g (swap_from N 0) f), omega (arith, swap_count N 0))

  pub swap_left : 1 ≤ N → (ks : List ℕ) → AllCut g ks f → KeptAll g There (runs g ks f) ks (dearer_cost g) (length (swap_from N 0))
  swap_left more ks cuts =
      runs_left g There (dearer_cost g)
      (λ now was on k short. dearer g now (swap_kept on (start_sized g f m).whole k short))
      ks f (length (swap_from N 0)) m.admitted (from_start more) cuts

  pub swaps : 1 ≤ N → (ks : List ℕ) (k : ℕ) → FirstWhole g ks k f → Ends g ks k f Swap (swap_table g f)
  swaps more ks k w =
      let l = swap_left more ks w.cuts in
      let long = whole_long g k (runs g ks f) l.admits w.whole in
      ends_at l.admits long
      (swap_reads l.inv)
      (swap_done l.inv (start_sized g f m).whole k long)
