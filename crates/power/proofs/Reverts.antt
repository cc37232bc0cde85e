-- The revert of demand 3: cut any number of times, the first run that is not cut leaves the revert's images, with the Revert magic,
-- or with units of the state area erased, by the place of the last cut. Serves `power`, `no_pages_lem` and `never_mixed`. Assumes nothing.
use mathlib.Core.Path.{◌≡◌, refl, sym, ap, ◌∙◌, subst, subst₂}
use mathlib.Core.Logic.{◌⊎◌, inl, inr}
use mathlib.Core.List.{List, [], ◌∷◌}
use Prim.Native.Nat.{ℕ, suc, ◌+◌, ◌-◌, ◌*◌, ◌/◌, ◌≤◌}
use native.Mathlib.Nat.{mul-mod_right}
use native.Mathlib.Omega.{arith}
use lib.ListN.{length}
use Rattle.state.specs.declared.State.TheVariants.{Swap, Revert}
use Rattle.state.specs.Cells.{erased}
use Rattle.geometry.specs.declared.Geometry.{Geometry}
use Rattle.geometry.specs.Geometry.{cell, page}
use Rattle.mem_flash.specs.Flash.{Flash, blank}
use Rattle.mem_flash.proofs.Areas.{flash_path}
use Rattle.rules.specs.StateArea.{read_state}
use Rattle.rules.specs.Steps.{revert_from, page_count}
use Rattle.rules.specs.Boot.{boot_ops, prepare_boot}
use Rattle.rules.specs.Power.{magic_area, swap_table, revert_marks, state_units, dearer_cost}
use Rattle.rules.proofs.Pages.{mix, mix_none}
use Rattle.rules.proofs.MarkedArea.{reverted_marks}
use Rattle.way.proofs.Finish.{closed}
use Rattle.way.proofs.Way.{Way, OnWay, here, on_stage, close_refl}
use Rattle.way.proofs.Tables.{Images, stage_table, revert_way}
use Rattle.way.proofs.Images.{new_dfu, mix_all_active}
use Rattle.way.proofs.Sized.{Sized}
use Rattle.way.proofs.Reverted.{Course, closing, erased_part, copying, Turning, LastCut, revert_kept, revert_place, revert_done, gone_boot, gone_idle}
use Rattle.power.specs.Power.{Marked, ran, Cut, runs, AllCut, FirstWhole, Short, InErase, Ends, Rests, ByLastCut}
use Rattle.power.proofs.Runs.{Admits, ran_after, admits_ran, cut_short, whole_long, dearer, KeptAll, runs_left, ends_at, rests_at}
use Rattle.power.proofs.Start.{mark_room, state_bytes, swapped_active, swapped_dfu, table_at, start_sized, start_images, end_table}

-- the ways a revert ends, with the images A and R and n bytes of state that hold st when its erase begins: by the place of the last cut
abbrev Turns : Geometry → List ℕ → ℕ → Flash → List ℕ → List ℕ → ℕ → List ℕ → Type 0
Turns g ks k f A R n st =
    (((r : ℕ) → 1 ≤ r → r ≤ n / g.state.es → Short r g ks f → ⊥) × Ends g ks k f Swap (closed A R (magic_area g.state Revert n)))
    ⊎ ((r : ℕ) × (1 ≤ r) × (r ≤ n / g.state.es) × Short r g ks f
    × Rests g ks k f (closed A R (blank (cell g.state) ((n / g.state.es + 1 - r) * g.state.es) st)))

turned : (g : Geometry) (ks : List ℕ) (k : ℕ) (f : Flash) (A R : List ℕ) (n : ℕ) (st : List ℕ) → length f.state ≡ n → Turns g ks k f A R n st
    → ByLastCut g ks k f (closed A R (magic_area g.state Revert n)) (λ u. closed A R (blank (cell g.state) (u * g.state.es) st))
unfolding InErase state_units
turned g ks k f A R n st e (inl t) = inl (λ i. t.0 i.0 i.1 (rw (sym e) i.2) i.3, t.1)
turned g ks k f A R n st e (inr t) =
    inr (
      t.0,
      t.1,
      rw e t.2,
      t.3,
      subst (λ (m : ℕ). Rests g ks k f (closed A R (blank (cell g.state) ((m / g.state.es + 1 - t.0) * g.state.es) st))) (sym e) t.4,
    )

-- what holds of both ends holds of the flash that is left
pub either : (g : Geometry) (ks : List ℕ) (k : ℕ) (f whole : Flash) (part : ℕ → Flash) (P : Flash → Type 0) → P whole → ((u : ℕ) → P (part u))
    → ByLastCut g ks k f whole part → P (ran g k (runs g ks f))
either g ks k f whole part P p q (inl t) = subst P (sym t.1.flash) p
either g ks k f whole part P p q (inr t) = subst P (sym t.4.flash) (q _)

-- the steps of the way back, and its end, with the DFU image R
abbrev pub steps_back : Geometry → Flash → ℕ
steps_back g f = length (revert_from (page_count g f) 0 (2 * page_count g f))

abbrev pub revert_end : Geometry → Flash → List ℕ → Flash
revert_end g f R = closing g f.active R (mark_room g f) (4 * page_count g f) (erased (cell g.state))

-- back from the swap table
module _ (g : Geometry) (f : Flash) (m : Marked g f) (R : List ℕ)
    (same : mix (page g) (page_count g f) f.dfu (swapped_dfu g f) ≡ R) where
  abbrev N : ℕ
  N = page_count g f

  abbrev S : ℕ
  S = state_bytes g f

  s : Sized g f (mark_room g f)
  s = start_sized g f m

  im : Images (page g) N f.active f.dfu (swapped_active f) (swapped_dfu g f)
  im = start_images g f m

  back : table_at g f N N (4 * N) ≡ revert_end g f R
  unfolding stage_table closing closed
  back = flash_path (mix_all_active s.paged (swapped_active f) im.active_same) same refl

  way_back : Way g N S (2 * N) (swap_table g f) (revert_from N 0 (2 * N)) (revert_end g f R)
  way_back =
      subst₂ (λ (x y : Flash). Way g N S (2 * N) x (revert_from N 0 (2 * N)) y) (end_table g f m 0 (mix_none (page g) f.dfu (swapped_dfu g f))) back
      (revert_way g N (mark_room g f) f.active f.dfu (swapped_active f) (swapped_dfu g f) s.ws im N 0 (2 * N) (4 * N) (mul-mod_right 2 N) (omega arith) (omega arith)
      (omega (arith, s.room)))

  pub course : Course g N (mark_room g f) f.active R (swap_table g f)
  course =
      record {
        whole = s.whole;
        cost = s.cost;
        ws = s.ws;
        unit = s.unit;
        units = subst (λ (n : ℕ). n / g.state.es * g.state.es ≡ n) s.state s.units;
        page_some = s.paged.some;
        room = s.room;
        active = s.paged.active;
        way = way_back;
      }

  pub from_table : OnWay g N S (revert_end g f R) (swap_table g f) (2 * N) (revert_from N 0 (2 * N)) (steps_back g f)
  from_table = here (swap_table g f) way_back (close_refl g (revert_from N 0 (2 * N)) (swap_table g f))

  pub swapped_size : length (swap_table g f).state ≡ length f.state
  swapped_size = (on_stage from_table).reads.sized ∙ sym s.state

  pub admits_swapped : Admits g (swap_table g f)
  unfolding swap_table new_dfu
  admits_swapped = rw (im.active_same, im.dfu_same, swapped_size) m.admitted

  abbrev Back : Flash → ℕ → Type 0
  Back = Turning course

  pub back_left : (ks : List ℕ) → AllCut g ks (swap_table g f)
      → KeptAll g Back (runs g ks (swap_table g f)) ks (dearer_cost g) (suc (steps_back g f))
  back_left ks cuts =
      runs_left g Back (dearer_cost g) (λ now was on k short. dearer g now (revert_kept course on k short))
      ks (swap_table g f) (suc (steps_back g f)) admits_swapped (copying from_table) cuts

  abbrev gone : ℕ → Flash
  gone = erased_part g f.active R (mark_room g f) (4 * N)

  parts : (j : ℕ) → gone j ≡ closed f.active R (blank (cell g.state) (j * g.state.es) (revert_marks g.state N S))
  unfolding erased_part
  parts j =
      ap (λ (l : List ℕ). closed f.active R (blank (cell g.state) (j * g.state.es) l))
      (reverted_marks g.state N (mark_room g f) (omega (arith, s.room)))

  -- a run that is cut did not start with units erased
  not_erased : (k : ℕ) (x : Flash) → Admits g x → Cut g k x → (j : ℕ) → 1 ≤ j → j ≤ S / g.state.es → x ≡ gone j → ⊥
  not_erased k x a c j one most e = omega (arith, cut_short g k x a c, ap length (ap (boot_ops g) e ∙ gone_idle course j one most))

  -- they are just after a last cut with as many operations left
  place_one : (k : ℕ) (now : Flash) (m : ℕ) → Admits g now → Back now m → Cut g k now
      → LastCut g (S / g.state.es) gone (λ (r : ℕ). k + r ≡ length (boot_ops g now)) (ran g k now)
  place_one k now m a on c =
      subst (λ (x : Flash). LastCut g (S / g.state.es) gone (λ (r : ℕ). k + r ≡ length (boot_ops g now)) x)
      (sym (ran_after g k now a))
      (revert_place course on k (cut_short g k now a c))

  place : (ks : List ℕ) (now : Flash) (m : ℕ) → Admits g now → Back now m → read_state g.state now.state ≡ Swap
      → AllCut g ks now → LastCut g (S / g.state.es) gone (λ (r : ℕ). Short r g ks now) (runs g ks now)
  unfolding runs AllCut Short prepare_boot
  place [] now m a on swap cuts = inr (λ r one most e. e, swap)
  place (k ∷ []) now m a on swap cuts = place_one k now m a on cuts.0
  place (k ∷ j ∷ ks) now m a on swap cuts =
      let o = revert_kept course on k (cut_short g k now a cuts.0) in
      place (j ∷ ks) (ran g k now) o.rest (admits_ran g k now a)
      (subst (λ (x : Flash). Back x o.rest) (sym (ran_after g k now a)) o.inv)
      (next (place_one k now m a on cuts.0)) cuts.1
    where
      next : LastCut g (S / g.state.es) gone (λ (r : ℕ). k + r ≡ length (boot_ops g now)) (ran g k now)
          → read_state g.state (ran g k now).state ≡ Swap
      next (inl e) =
          absurd
          (not_erased j (ran g k now) (admits_ran g k now a) cuts.1.0 (S / g.state.es + 1 - e.0) (omega (arith, e.2))
          (omega (arith, e.1)) e.4)
      next (inr e) = e.1

  pub turns_back : (ks : List ℕ) (k : ℕ) → FirstWhole g ks k (swap_table g f)
      → ByLastCut g ks k (swap_table g f) (closed f.active R (magic_area g.state Revert (length f.state)))
      (λ u. closed f.active R (blank (cell g.state) (u * g.state.es) (revert_marks g.state N (length f.state))))
  turns_back ks k w =
      turned g ks k (swap_table g f) f.active R (length f.state) _ swapped_size
      (subst (λ (n : ℕ). Turns g ks k (swap_table g f) f.active R n (revert_marks g.state N n)) (sym s.state)
      (go (place ks (swap_table g f) (suc (steps_back g f)) admits_swapped (copying from_table) swap w.cuts)))
    where
      swap : read_state g.state (swap_table g f).state ≡ Swap
      swap = (on_stage from_table).reads.swap

      l : KeptAll g Back (runs g ks (swap_table g f)) ks (dearer_cost g) (suc (steps_back g f))
      l = back_left ks w.cuts

      long : length (boot_ops g (runs g ks (swap_table g f))) ≤ k
      long = whole_long g k (runs g ks (swap_table g f)) l.admits w.whole

      go : LastCut g (S / g.state.es) gone (λ (r : ℕ). Short r g ks (swap_table g f)) (runs g ks (swap_table g f))
          → Turns g ks k (swap_table g f) f.active R S (revert_marks g.state N S)
      go (inl p) =
          let j : ℕ = S / g.state.es + 1 - p.0 in
          let one : 1 ≤ j = omega (arith, p.2) in
          let most : j ≤ S / g.state.es = omega (arith, p.1) in
          inr (
            p.0,
            p.1,
            p.2,
            p.3,
            subst (Rests g ks k (swap_table g f)) (parts j)
                (rests_at l.admits long p.4 (gone_idle course j one most)
                (gone_boot course j one most)),
          )
      go (inr p) =
          inl (
            p.0,
            ends_at l.admits long p.1
                (revert_done course l.inv p.1 k long),
          )
