-- No pages (specs/Power): `no_pages_lem`. A freshly marked flash is the swap table, and the revert begins with its last operations.
-- Assumes nothing.
use mathlib.Core.Path.{◌≡◌, refl, sym, ap, ap₂, ◌∙◌, subst₂}
use Rattle.std.specs.Prelude.{Some}
use mathlib.Core.List.{List, [], ◌∷◌, ◌++◌}
use Prim.Native.Nat.{ℕ, zero, suc, ◌+◌, ◌*◌}
use native.Mathlib.Nat.{zero-mul}
use native.Mathlib.Omega.{arith}
use lib.ListN.{length, take, drop, take-append-drop}
use Rattle.state.specs.declared.State.{State}
use Rattle.state.specs.declared.State.TheVariants.{Revert}
use Rattle.geometry.specs.declared.Geometry.{Geometry}
use Rattle.geometry.specs.Geometry.{cell, page}
use Rattle.mem_flash.specs.Flash.{Flash, Op, blank}
use Rattle.rules.specs.Steps.{swap_from, page_count}
use Rattle.rules.specs.Boot.{finish_ops, boot_ops}
use Rattle.rules.specs.Power.{magic_area, swap_table, revert_marks, state_units}
use Rattle.rules.proofs.Pages.{mix, mix_none}
use Rattle.way.proofs.Finish.{closed, finish_count}
use Rattle.way.proofs.Way.{Way}
use Rattle.way.proofs.Images.{new_dfu}
use Rattle.way.proofs.Wanted.{wants_revert}
use Rattle.way.proofs.Reverted.{copies_past}
use Rattle.power.specs.Power.{Marked, FirstWhole, ByLastCut, NoPages}
use Rattle.power.proofs.Runs.{answer_done}
use Rattle.power.proofs.Start.{state_bytes, start_sized, start_reads, way_there}
use Rattle.power.proofs.Reverts.{either, turns_back}

module _ (g : Geometry) (f : Flash) (m : Marked g f) (none : page_count g f ≡ 0) where
  -- active is empty
  empty : length f.active ≡ 0
  empty = (start_sized g f m).paged.active ∙ ap (λ (n : ℕ). n * page g) none ∙ zero-mul (page g)

  same_dfu : new_dfu (page g) f.active f.dfu ≡ f.dfu
  unfolding new_dfu
  same_dfu =
      let e : page g + length f.active ≡ page g = omega (arith, empty) in
      ap₂ (λ (l : List ℕ) (i : ℕ). take (page g) f.dfu ++ (l ++ drop i f.dfu)) (nil f.active empty) e
      ∙ take-append-drop (page g) f.dfu
    where
      nil : (xs : List ℕ) → length xs ≡ 0 → xs ≡ []
      nil [] h = refl
      nil (x ∷ xs) h = absurd (omega arith)

  stays : mix (page g) (page_count g f) f.dfu (new_dfu (page g) f.active f.dfu) ≡ f.dfu
  stays =
      ap (λ (n : ℕ). mix (page g) n f.dfu (new_dfu (page g) f.active f.dfu)) none
      ∙ mix_none (page g) f.dfu (new_dfu (page g) f.active f.dfu) ∙ same_dfu

  -- the way of the swap has no step, so its end is its start
  already : swap_table g f ≡ f
  unfolding swap_from
  already = sym (no_step (page_count g f) (page_count g f) (state_bytes g f) none (way_there g f m))
    where
      no_step : (n N S : ℕ) → n ≡ 0 → Way g N S 0 f (swap_from n 0) (swap_table g f) → f ≡ swap_table g f
      no_step zero N S e w = w.1
      no_step (suc n) N S e w = absurd (omega arith)

  count : length (boot_ops g f) ≡ 2 + state_units g f
  unfolding state_units
  count =
      ap length
      (wants_revert (start_reads g f m) (omega (arith, none))
      ∙ ap (λ (os : List Op). os ++ finish_ops g f) (copies_past g f (page_count g f) 0 (2 * page_count g f) (omega (arith, none))))
      ∙ finish_count g f

  -- the two ends, with the marks of n pages
  abbrev whole : Flash
  whole = closed f.active f.dfu (magic_area g.state Revert (length f.state))

  abbrev part : ℕ → ℕ → Flash
  part n u = closed f.active f.dfu (blank (cell g.state) (u * g.state.es) (revert_marks g.state n (length f.state)))

  turns_none : (ks : List ℕ) (k : ℕ) → FirstWhole g ks k f → ByLastCut g ks k f whole (part 0)
  turns_none ks k =
      subst₂ (λ (x : Flash) (n : ℕ). FirstWhole g ks k x → ByLastCut g ks k x whole (part n)) already none
      (turns_back g f m f.dfu stays ks k)

  pub no_pages_lem : NoPages g f
  unfolding closed state_units
  no_pages_lem =
      record {
        swapped = already;
        at_once = λ k h.
            answer_done g k f m.admitted (rw count h)
            ∙ ap₂ (λ (x : State) (c : ℕ). record { number = 0; state = Some x; count = c }) (start_reads g f m).swap count;
        reverts_active = λ ks k w. either g ks k f whole (part 0) (λ (x : Flash). x.active ≡ f.active) refl (λ u. refl) (turns_none ks k w);
        reverts_dfu = λ ks k w. either g ks k f whole (part 0) (λ (x : Flash). x.dfu ≡ f.dfu) refl (λ u. refl) (turns_none ks k w);
        reverts = turns_none;
      }
