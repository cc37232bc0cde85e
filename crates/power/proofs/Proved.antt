-- Demand 3 (specs/Power): `power`, and that an admitted state area has enough words. Assumes nothing.
use mathlib.Core.Path.{◌≡◌, refl, sym, ap, ◌∙◌, subst}
use mathlib.Core.List.{List}
use Prim.Native.Nat.{ℕ, ◌-◌}
use native.Mathlib.Omega.{arith}
use lib.ListN.{length}
use Rattle.geometry.specs.declared.Geometry.{Geometry}
use Rattle.geometry.specs.Geometry.{cell, page, words}
use Rattle.geometry.specs.Refusals.{boot_words}
use Rattle.geometry.proofs.Rows.{admitted}
use Rattle.mem_flash.specs.Flash.{Flash, blank}
use Rattle.mem_flash.proofs.Stretches.{blank_all}
use Rattle.rules.specs.Steps.{page_count}
use Rattle.rules.specs.Power.{swap_table, page_at, with_page, revert_images, reverted, revert_marks, reverted_part, reverted_erased, state_units}
use Rattle.rules.proofs.Pages.{mix}
use Rattle.rules.proofs.MarkedArea.{reverted_size}
use Rattle.way.proofs.Finish.{closed}
use Rattle.way.proofs.Images.{new_dfu, mix_reverted}
use Rattle.way.proofs.Sized.{Sized, sized}
use Rattle.power.specs.Power.{Ready, FirstWhole, ByLastCut, Power, EnoughWords}
use Rattle.power.proofs.Swaps.{swaps}
use Rattle.power.proofs.Reverts.{either, turns_back}
use Rattle.power.proofs.SwapBounds.{swap_soon, swap_gains, swap_stays, swap_never}
use Rattle.power.proofs.RevertBounds.{revert_soon, revert_sooner, back_gains, back_stays, back_never}

-- every admitted state area has a word for each mark, and one more
pub enough_words : (g : Geometry) (f : Flash) → EnoughWords g f
unfolding page_count boot_words
enough_words g f r = (admitted g (length f.active) (length f.dfu) (length f.state) r).state_words

-- DFU after the revert: as before the swap but for page N
abbrev reverted_dfu : Geometry → Flash → List ℕ
reverted_dfu g f = with_page (page g) (page_count g f) (page_at (page g) (page_count g f - 1) f.active) f.dfu

module _ (g : Geometry) (f : Flash) (r : Ready g f) where
  s : Sized g f (words g.state.ws (length f.state) - 2)
  s = sized g f r.marked.admitted

  end : mix (page g) (page_count g f) f.dfu (new_dfu (page g) f.active f.dfu) ≡ reverted_dfu g f
  end = mix_reverted s.paged r.some_page

  turns : (ks : List ℕ) (k : ℕ) → FirstWhole g ks k (swap_table g f)
      → ByLastCut g ks k (swap_table g f) (reverted g f) (λ u. reverted_part g u f)
  unfolding reverted reverted_part revert_images closed
  turns = turns_back g f r.marked (reverted_dfu g f) end

  -- the marks fill the state area
  marks_size : length (revert_marks g.state (page_count g f) (length f.state)) ≡ length f.state
  marks_size =
      subst (λ (n : ℕ). length (revert_marks g.state (page_count g f) n) ≡ n) (sym s.state)
      (reverted_size g.state (page_count g f) (words g.state.ws (length f.state) - 2) (omega (arith, s.room)))

  pub power : Power g f
  unfolding reverted reverted_part reverted_erased revert_images state_units closed
  power =
      record {
        swaps = swaps g f r.marked r.some_page;
        reverts_active = λ ks k w. either g ks k _ _ (λ (u : ℕ). reverted_part g u f) (λ (x : Flash). x.active ≡ f.active) refl (λ u. refl) (turns ks k w);
        reverts_dfu = λ ks k w. either g ks k _ _ (λ (u : ℕ). reverted_part g u f) (λ (x : Flash). x.dfu ≡ (reverted g f).dfu) refl (λ u. refl) (turns ks k w);
        reverts = turns;
        erased_whole =
            ap (closed f.active (reverted_dfu g f))
            (ap (λ (n : ℕ). blank (cell g.state) n (revert_marks g.state (page_count g f) (length f.state))) s.units
            ∙ blank_all (cell g.state) (length f.state) (revert_marks g.state (page_count g f) (length f.state)) marks_size);
        swap_soon = swap_soon g f r.marked r.some_page;
        revert_soon = revert_soon g f r.marked (reverted_dfu g f) end;
        revert_sooner = revert_sooner g f r.marked (reverted_dfu g f) end;
        swap_gains = swap_gains g f r.marked r.some_page;
        swap_stays = swap_stays g f r.marked r.some_page;
        revert_gains = back_gains g f r.marked (reverted_dfu g f) end;
        revert_stays = back_stays g f r.marked (reverted_dfu g f) end;
        swap_never = swap_never g f r.marked r.some_page;
        revert_never = back_never g f r.marked (reverted_dfu g f) end r.some_page;
      }
