-- Where the runs of demand 3 start: a freshly marked flash is the first table of the way, and the swap table the last one of the
-- swap. Serves `power` and `no_pages_lem`. Assumes nothing.
use mathlib.Core.Path.{◌≡◌, sym, ap, ◌∙◌, subst, subst₂}
use mathlib.Core.List.{List}
use Prim.Native.Nat.{ℕ, suc, ◌+◌, ◌-◌, ◌*◌}
use native.Mathlib.Omega.{arith}
use lib.ListN.{length, take}
use Rattle.state.specs.declared.State.TheVariants.{Swap}
use Rattle.geometry.specs.declared.Geometry.{Geometry}
use Rattle.geometry.specs.Geometry.{page, words}
use Rattle.mem_flash.specs.Flash.{Flash}
use Rattle.mem_flash.proofs.Areas.{flash_path}
use Rattle.rules.specs.Steps.{swap_from, page_count}
use Rattle.rules.specs.Power.{magic_area, Fresh, swap_marks, swap_table}
use Rattle.rules.proofs.Pages.{mix, mix_none}
use Rattle.rules.proofs.MarkedArea.{fresh_marks, swapped_marks}
use Rattle.way.proofs.Way.{Reads, Way}
use Rattle.way.proofs.Tables.{Images, stage_table, table_reads, swap_way}
use Rattle.way.proofs.Images.{new_dfu, images, mix_all_active, mix_all_dfu, mix_first}
use Rattle.way.proofs.Sized.{Sized, sized}
use Rattle.power.specs.Power.{Marked}

-- the marks that the state area has room for, its bytes, and active after the swap
abbrev pub mark_room : Geometry → Flash → ℕ
mark_room g f = words g.state.ws (length f.state) - 2

abbrev pub state_bytes : Geometry → Flash → ℕ
state_bytes g f = (2 + mark_room g f) * g.state.ws

abbrev pub swapped_active : Flash → List ℕ
swapped_active f = take (length f.active) f.dfu

abbrev pub swapped_dfu : Geometry → Flash → List ℕ
swapped_dfu g f = new_dfu (page g) f.active f.dfu

-- the table with c old pages of active, d of DFU and n marks done
abbrev pub table_at : Geometry → Flash → ℕ → ℕ → ℕ → Flash
table_at g f = stage_table g f.active f.dfu (swapped_active f) (swapped_dfu g f) (mark_room g f)

module _ (g : Geometry) (f : Flash) (m : Marked g f) where
  abbrev N : ℕ
  N = page_count g f

  pub start_sized : Sized g f (mark_room g f)
  start_sized = sized g f m.admitted

  pub start_images : Images (page g) N f.active f.dfu (swapped_active f) (swapped_dfu g f)
  start_images = images start_sized.paged m.active_bytes m.dfu_bytes

  -- the first table is the flash itself, and the swap's last one the swap table
  start_table : table_at g f N (suc N) 0 ≡ f
  unfolding stage_table Fresh
  start_table =
      flash_path (mix_all_active start_sized.paged (swapped_active f) start_images.active_same)
      (mix_all_dfu start_sized.paged)
      (sym (fresh_marks g.state (mark_room g f)) ∙ ap (magic_area g.state Swap) (sym start_sized.state) ∙ sym m.fresh)

  pub start_reads : Reads g N (state_bytes g f) 0 f
  start_reads =
      subst (Reads g N (state_bytes g f) 0) start_table
      (table_reads g N (mark_room g f) f.active f.dfu (swapped_active f) (swapped_dfu g f) start_sized.ws start_images N (suc N) 0
      (omega arith) (omega (arith, start_sized.room)))

  pub end_table : (d : ℕ) → mix (page g) d f.dfu (swapped_dfu g f) ≡ swapped_dfu g f → table_at g f 0 d (2 * N) ≡ swap_table g f
  unfolding stage_table swap_table new_dfu
  end_table d e =
      flash_path (mix_none (page g) f.active (swapped_active f)) e
      (swapped_marks g.state N (mark_room g f) (omega (arith, start_sized.room))
      ∙ ap (swap_marks g.state N) (sym start_sized.state))

  pub way_there : Way g N (state_bytes g f) 0 f (swap_from N 0) (swap_table g f)
  way_there =
      subst₂ (λ (x y : Flash). Way g N (state_bytes g f) 0 x (swap_from N 0) y) start_table
      (end_table 1 (mix_first start_sized.paged))
      (swap_way g N (mark_room g f) f.active f.dfu (swapped_active f) (swapped_dfu g f) start_sized.ws start_images N 0 (2 * N)
      (omega arith) (omega arith) (omega arith) (omega (arith, start_sized.room)))
