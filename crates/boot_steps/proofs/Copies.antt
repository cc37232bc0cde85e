-- Laws of one step: its mark; the page filled and then the mark, on whichever image; and that this is the step of the plan. Assumes
-- nothing.
use mathlib.Core.Path.{◌≡◌, ◌∙◌, sym}
use mathlib.Core.List.{List, [], ◌∷◌}
use Prim.Native.Nat.{ℕ, ◌*◌}
use lib.ListN.{replicate}
use Rattle.state.specs.declared.Cell.{Cell}
use Rattle.state.specs.Cells.{marked}
use Rattle.geometry.specs.declared.Geometry.{Geometry}
use Rattle.geometry.specs.declared.StateSizes.{StateSizes}
use Rattle.geometry.specs.Geometry.{cell, page}
use Rattle.mem_flash.specs.declared.Budget.{Budget}
use Rattle.mem_flash.specs.Run.{Flow, cut}
use Rattle.std.specs.Prelude.{Ok}
use Rattle.mem_flash.specs.Flash.{Area, active, dfu, state, Flash, Op, change}
use Rattle.mem_flash.specs.Run.{flash, ended, run, Ran, placed, InArea, write_ops}
use Rattle.mem_flash.specs.Areas.{Image}
use Rattle.mem_flash.proofs.Runs.{then_on, then_cut, ran}
use Rattle.rules.specs.StateArea.{mark_op}
use Rattle.rules.specs.Steps.{Copy, source_of, unit_of, fill_ops, copy_ops}
use Rattle.state_area.specs.Area.{InState}
use Rattle.boot_plan.specs.declared.Direction.TheVariants.{ToActive, ToDfu}
use Rattle.boot_plan.specs.declared.PageCopy.{PageCopy}
use Rattle.boot_plan.specs.Says.{Says, toward}
use Rattle.boot_steps.specs.Step.{Marked, Stepped}

-- the code writes a mark over its word
pub marks : (k : ℕ) (z : StateSizes) (w at : ℕ) (st st' : List ℕ) (r : Flow) {c : Cell} {b : ℕ} → c ≡ cell z → b ≡ marked c → at ≡ w * z.ws
    → InArea k (write_ops c at (replicate z.ws b)) st st' r → Marked k z w st st' r
unfolding mark_op placed change
marks k z w at st st' r h m e v i o a d = rw (← o, ← e) ((rw (m, h) at v) state (flash a d st))

-- ---- the page, then the mark

-- what the mark does is the same whichever image was written
marked_beside : (a : Area) → Image a → (k : ℕ) (ops : List Op) (xs st st' : List ℕ) (r : Flow) → InState k ops st st' r
    → (f : Flash) → run k ops (placed a xs (placed state st f)) ≡ ended (placed a xs (placed state st' f)) r
unfolding placed change
marked_beside active i k ops xs st st' r w f = w xs f.dfu
marked_beside dfu i k ops xs st st' r w f = w f.active xs
marked_beside state i k ops xs st st' r w f = absurd i

module _ (k : ℕ) (g : Geometry) (unit : ℕ) (c : PageCopy) (src xs xs₁ st : List ℕ) (r : Flow)
    (w : InArea k (fill_ops (cell g.state) unit (page g) g.b (c.to.0 * page g) (c.from.0 * page g) src) xs xs₁ r) where
  pub step_cut : r ≡ cut → Stepped k g unit c src xs xs₁ st st cut
  step_cut o a i f m e = then_cut k _ (mark_op g.state m ∷ []) _ _ r (w a (placed state st f)) o

  pub step_on : (l : Budget) (st' : List ℕ) (q : Flow) → r ≡ Ok l → Marked l.0 g.state c.mark.0 st st' q
      → Stepped k g unit c src xs xs₁ st st' q
  step_on l st' q o v a i f m e =
      then_on k _ (mark_op g.state m ∷ []) _ _ r (w a (placed state st f)) l o
      ∙ marked_beside a i l.0 (mark_op g.state m ∷ []) xs₁ st st' q (v m e) f

-- ---- the step of the plan

module _ (g : Geometry) (k : ℕ) (A D S S' : List ℕ) (r : Flow) {c : PageCopy} {s : Copy} (y : Says c s) where
  pub ran_to_dfu : (D' : List ℕ) → c.direction ≡ ToDfu → Stepped k g g.ed c A D D' S S' r
      → Ran k (copy_ops g s (flash A D S)) (flash A D S) (flash A D' S') r
  unfolding copy_ops toward source_of unit_of placed change
  ran_to_dfu D' d w =
      let e : s.to ≡ dfu = sym y.to ∙ (rw d) in
      rw (e, ← y.source, ← y.target) (ran _ _ _ _ _ (w dfu tt (flash A D S) s.mark y.mark))

  pub ran_to_active : (A' : List ℕ) → c.direction ≡ ToActive → Stepped k g g.ea c D A A' S S' r
      → Ran k (copy_ops g s (flash A D S)) (flash A D S) (flash A' D S') r
  unfolding copy_ops toward source_of unit_of placed change
  ran_to_active A' d w =
      let e : s.to ≡ active = sym y.to ∙ (rw d) in
      rw (e, ← y.source, ← y.target) (ran _ _ _ _ _ (w active tt (flash A D S) s.mark y.mark))
