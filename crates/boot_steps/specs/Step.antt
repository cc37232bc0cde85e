-- What is asked and promised of one step, whichever image it copies to. Assumes nothing.
use Rattle.std.specs.Prelude.{◌≡◌, List, [], ◌∷◌, ◌++◌, ℕ, ◌+◌, ◌*◌, ◌≤◌}
use Rattle.geometry.specs.declared.Geometry.{Geometry}
use Rattle.geometry.specs.declared.StateSizes.{StateSizes}
use Rattle.geometry.specs.Geometry.{cell, page}
use Rattle.mem_flash.specs.Run.{Flow}
use Rattle.mem_flash.specs.Flash.{Area, state, Flash}
use Rattle.mem_flash.specs.Run.{ended, run, placed}
use Rattle.mem_flash.specs.Areas.{Image}
use Rattle.rules.specs.StateArea.{mark_op}
use Rattle.rules.specs.Steps.{fill_ops}
use Rattle.state_area.specs.Area.{InState}
use Rattle.page_copy.specs.Room.{Room}
use Rattle.boot_plan.specs.declared.PageCopy.{PageCopy}

-- the step's pages lie within images of m and n bytes, and its mark within a state area of s bytes
pub record StepRoom (g : Geometry) (c : PageCopy) (m n s : ℕ) : Type 0 where
  pub pages : Room g c.from.0 m c.to.0 n
  pub mark : c.mark.0 * g.state.ws + g.state.ws ≤ s

-- the mark whose word is w is written
abbrev pub Marked : ℕ → StateSizes → ℕ → List ℕ → List ℕ → Flow → Type 0
Marked k z w st st' r = (i : ℕ) → w ≡ 2 + i → InState k (mark_op z i ∷ []) st st' r

-- a page from src fills a page of an image that held xs, and then the mark is written
abbrev pub Stepped : ℕ → Geometry → ℕ → PageCopy → List ℕ → List ℕ → List ℕ → List ℕ → List ℕ → Flow → Type 0
Stepped k g unit c src xs xs' st st' r =
    (a : Area) → Image a → (f : Flash) (i : ℕ) → c.mark.0 ≡ 2 + i
    → run k (fill_ops (cell g.state) unit (page g) g.b (c.to.0 * page g) (c.from.0 * page g) src a ++ (mark_op g.state i ∷ [])) (placed a xs (placed state st f))
    ≡ ended (placed a xs' (placed state st' f)) r
