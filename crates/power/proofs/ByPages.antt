-- The swap table and the revert's images page by page (specs/Pages): `never_mixed`. Assumes nothing.
use mathlib.Core.Path.{◌≡◌, refl, sym, subst}
use mathlib.Core.List.{List, ◌++◌}
use Prim.Native.Nat.{ℕ, ◌+◌, ◌-◌}
use native.Mathlib.Numerals.{add-one}
use native.Mathlib.Omega.{arith}
use lib.ListN.{length, take, drop}
use lib.Seq.{take_at, length-take-le}
use Rattle.geometry.specs.declared.Geometry.{Geometry}
use Rattle.geometry.specs.Geometry.{page, words}
use Rattle.mem_flash.specs.Flash.{Flash}
use Rattle.rules.specs.Steps.{page_count}
use Rattle.rules.specs.Power.{page_at, swap_table, revert_images, reverted, reverted_part}
use Rattle.rules.proofs.Pages.{pages_le, length_page, page_put, before_put, behind_put, length_put}
use Rattle.way.proofs.Images.{new_dfu, images, dfu_behind}
use Rattle.way.proofs.Sized.{Sized, sized}
use Rattle.power.specs.Power.{Ready}
use Rattle.power.specs.Pages.{SwappedPages, RevertedPages, NeverMixed}
use Rattle.power.proofs.Reverts.{either}
use Rattle.power.proofs.Proved.{power}

module _ (g : Geometry) (f : Flash) (r : Ready g f) where
  s : Sized g f (words g.state.ws (length f.state) - 2)
  s = sized g f r.marked.admitted

  pub swapped_pages : SwappedPages g f (swap_table g f)
  unfolding swap_table new_dfu
  swapped_pages =
      let im =
      images s.paged r.marked.active_bytes
      r.marked.dfu_bytes in
      record {
        active = im.active_page;
        dfu = λ k h. rw add-one (im.dfu_page k h);
        dfu_first =
            take_at (take (page g) f.dfu) (f.active ++ drop (page g + length f.active) f.dfu) (page g)
            (length-take-le (page g) f.dfu (omega (arith, s.paged.dfu)));
        dfu_rest = dfu_behind s.paged;
        active_length = im.active_same;
        dfu_length = im.dfu_same;
      }

  reverted_pages : (st : List ℕ) → RevertedPages g f (revert_images g st f)
  unfolding revert_images
  reverted_pages st =
      record {
        active = refl;
        dfu_page = page_put (page g) (page_count g f) old f.dfu whole s.paged.dfu;
        dfu_before = before_put (page g) (page_count g f) old f.dfu whole s.paged.dfu;
        dfu_rest = behind_put (page g) (page_count g f) old f.dfu whole s.paged.dfu;
        dfu_length = length_put (page g) (page_count g f) old f.dfu whole s.paged.dfu;
      }
    where
      old : List ℕ
      old = page_at (page g) (page_count g f - 1) f.active

      whole : length old ≡ page g
      whole =
          length_page (page g) (page_count g f - 1) f.active
          (omega (
            arith,
            pages_le (page g) {k = page_count g f - 1} {n = page_count g f}
                (omega (arith, r.some_page)),
            s.paged.active,
          ))

  pub never_mixed : NeverMixed g f
  unfolding reverted reverted_part
  never_mixed =
      record {
        swapped = λ ks k w. subst (SwappedPages g f) (sym ((power g f r).swaps ks k w).flash) swapped_pages;
        reverted = λ ks k w.
            either g ks k _ _ (λ (u : ℕ). reverted_part g u f) (RevertedPages g f) (reverted_pages _) (λ u. reverted_pages _) ((power g f r).reverts ks k w);
      }
