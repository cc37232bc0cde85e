-- Demand 3 of the boots made (specs/Cycles): by the theorem `power` alone. Assumes nothing.
use mathlib.Core.Path.{◌≡◌, ap, ◌∙◌, subst}
use mathlib.Core.Logic.{◌⊎◌, inl, inr}
use Rattle.std.specs.Prelude.{Some}
use mathlib.Core.List.{List, [], ◌∷◌}
use Prim.Native.Nat.{ℕ, zero, suc, ◌+◌, ◌-◌, ◌*◌, ◌/◌, ◌≤◌, ◌<◌}
use native.Mathlib.Nat.{div-mul-le_self, mul-le-mul_right}
use native.Mathlib.Omega.{arith}
use lib.ListN.{length, take, length-append, length-replicate}
use lib.Seq.{length-take-le}
use Rattle.state.specs.declared.State.TheVariants.{Boot, Swap}
use Rattle.geometry.specs.declared.StateSizes.{StateSizes}
use Rattle.geometry.specs.declared.Geometry.{Geometry}
use Rattle.geometry.specs.Geometry.{pages, words}
use Rattle.geometry.specs.Refusals.{boot_words}
use Rattle.geometry.proofs.Rows.{admitted}
use Rattle.mem_flash.specs.Flash.{Flash}
use Rattle.rules.specs.Steps.{page_count}
use Rattle.rules.specs.Calls.{Answer, Report, reported}
use Rattle.rules.specs.Power.{swap_marks, swap_table, reverted, reverted_part, state_units, dearer_cost}
use Rattle.power.specs.Power.{Ready, AllCut, AllAtLeast, ByLastCut}
use Rattle.power.proofs.Proved.{power}
use Rattle.power_cycles.specs.Cycles.{Uncut, Made, SwapOf, Reverted, AtLatest, Cycles}
use Rattle.power_cycles.proofs.Made.{all_cut, First, found}

-- ---- how soon

taken : (m n : ℕ) (ks : List ℕ) → AllAtLeast m ks → AllAtLeast m (take n ks)
unfolding AllAtLeast
taken m zero ks a = tt
taken m (suc n) [] a = tt
taken m (suc n) (k ∷ ks) a = (a.0, taken m n ks a.1)

soon : {g : Geometry} {ks : List ℕ} {f f' : Flash} {n : ℕ} {r : Answer} (m : ℕ)
    → ((js : List ℕ) → AllAtLeast (dearer_cost g) js → AllCut g js f → length js < m)
    → Made g ks f f' n r → Uncut r ⊎ (n ≡ length ks) → AllAtLeast (dearer_cost g) ks → AtLatest m ks n r
soon {g} {ks} {f} {n = n} {r} m few made stops many =
    record {
      most =
          omega (
            arith,
            length-take-le (n - 1) ks (omega (arith, made.budgets)),
            few (take (n - 1) ks) (taken (dearer_cost g) (n - 1) ks many) made.cuts,
          );
      comes = λ enough c. stopped enough c (few (take n ks) (taken (dearer_cost g) n ks many) (all_cut made c)) stops;
    }
  where
    stopped : m ≤ length ks → (reported r).number ≡ 7 → length (take n ks) < m → Uncut r ⊎ (n ≡ length ks) → ⊥
    stopped enough c less (inl w) = w c
    stopped enough c less (inr e) = omega (arith, length-take-le n ks made.budgets)

-- ---- the revert

-- the swap table's state area is as long as before
marks_length : (z : StateSizes) (count n : ℕ) → (2 + 2 * count) * z.ws ≤ n → length (swap_marks z count n) ≡ n
unfolding swap_marks
marks_length z count n h = simp (length-append, length-replicate) (omega arith)

module _ (g : Geometry) (f : Flash) (ready : Ready g f) where
  same_units : state_units g (swap_table g f) ≡ state_units g f
  unfolding state_units swap_table page_count words boot_words
  same_units =
      let a = admitted g _ _ _ ready.marked.admitted in
      let N : ℕ = pages g (length f.active) in
      let w : ℕ = g.state.ws in
      let enough : (2 + 2 * N) * w ≤ length f.state / w * w = mul-le-mul_right w (omega (arith, a.state_words)) in
      ap (λ (n : ℕ). n / g.state.es)
      (marks_length g.state N (length f.state) (omega (arith, enough, div-mul-le_self (length f.state) w)))

  module _ {js : List ℕ} {f' : Flash} {r : Answer} (l : First g js (swap_table g f) f' r) where
    ended : ByLastCut g js l.last (swap_table g f) (reverted g f) (λ u. reverted_part g u f)
        → ((f'.state ≡ (reverted g f).state) × ((reported r).state ≡ Some Swap))
        ⊎ ((u : ℕ) × (1 ≤ u) × (u ≤ state_units g f) × (f'.state ≡ (reverted_part g u f).state) × ((reported r).state ≡ Some Boot))
    ended (inl e) =
        inl (ap (λ (x : Flash). x.state) (l.leaves ∙ e.1.flash), ap (λ (t : Report). t.state) l.told ∙ e.1.state)
    ended (inr e) =
        inr (
          state_units g (swap_table g f) + 1 - e.0,
          omega (arith, e.2),
          omega (arith, e.1, same_units),
          ap (λ (x : Flash). x.state) (l.leaves ∙ e.4.flash),
          ap (λ (t : Report). t.state) (l.told ∙ e.4.answers),
        )

    reverts_at : Reverted g f f' r
    reverts_at =
        let p = power g f ready in
        record {
          active = ap (λ (x : Flash). x.active) l.leaves ∙ p.reverts_active _ _ l.first;
          dfu = ap (λ (x : Flash). x.dfu) l.leaves ∙ p.reverts_dfu _ _ l.first;
          state = ended (p.reverts _ _ l.first);
        }

-- ---- all of it

pub cycles : {g : Geometry} {ks : List ℕ} {f f' : Flash} {n : ℕ} {r : Answer} → Made g ks f f' n r → Uncut r ⊎ (n ≡ length ks)
    → Cycles g ks f f' n r
cycles {g} {ks} {f} {f'} {n} {r} made stops =
    record {
      made = made;
      stops = stops;
      swaps = λ ready w.
          let l = found made w in
          let e = (power g f ready).swaps _ _ l.first in
          (l.leaves ∙ e.flash, ap (λ (t : Report). t.state) l.told ∙ e.state);
      reverts = λ f₀ s w. reverts_at g f₀ s.ready (found (from s) w);
      swap_soon = λ ready. soon (2 * page_count g f) (power g f ready).swap_soon made stops;
      revert_soon = λ f₀ s. soon (2 * page_count g f₀ + 2) (power g f₀ s.ready).revert_soon (from s) stops;
    }
  where
    from : {f₀ : Flash} → SwapOf g f₀ f → Made g ks (swap_table g f₀) f' n r
    from s = subst (λ (x : Flash). Made g ks x f' n r) s.table made
