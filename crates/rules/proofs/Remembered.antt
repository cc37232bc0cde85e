-- The progress remembered: behind a step that was marked it is the first open mark from the next one on, whatever the marks beyond
-- hold; and the steps before the progress do nothing, so a table of steps may begin there. Where the marks do not count the progress
-- is past every step, and no step runs. Assumes nothing.
use mathlib.Core.Path.{◌≡◌, refl, ap, ◌∙◌, sym}
use mathlib.Core.List.{List, [], ◌∷◌}
use Prim.Native.Nat.{ℕ, zero, suc, ◌+◌, ◌-◌, ◌*◌, ◌/◌, ◌≤◌, ◌<◌}
use native.Mathlib.Decide.{dec_lt}
use native.Mathlib.Omega.{arith}
use lib.Seq.{slice}
use Rattle.state.specs.declared.Cell.{Cell}
use Rattle.geometry.specs.declared.Geometry.{Geometry}
use Rattle.geometry.specs.Geometry.{cell, page}
use Rattle.mem_flash.specs.Flash.{Area, active, dfu, state, Flash, Op, erase, unit_ops, erase_ops, change, apply, apply_all}
use Rattle.mem_flash.specs.Areas.{Image}
use Rattle.mem_flash.proofs.After.{apply_append}
use Rattle.rules.specs.StateArea.{most_marks, first_open, progress, mark_op}
use Rattle.rules.specs.Steps.{Copy, source_of, unit_of, chunk_ops, fill_ops, copy_ops, copies_ops, all_steps, step_at}
use Rattle.rules.proofs.MarkWritten.{with_mark, progress_on}
use Rattle.rules.proofs.Tables.{copies_skip}
use Rattle.rules.proofs.Numbered.{next_step, no_step, step_mark}

-- ---- what a step leaves of the state area: its mark, and nothing else is written there

module _ (c : Cell) (a : Area) (i : Image a) where
  kept : (h : List ℕ → List ℕ) (f : Flash) → (change a h f).state ≡ f.state
  unfolding change
  kept h f = go a i
    where
      go : (b : Area) → Image b → (change b h f).state ≡ f.state
      go active j = refl
      go dfu j = refl
      go state j = absurd j

  units_kept : (n unit at : ℕ) (f : Flash) → (apply_all (unit_ops c n unit a at) f).state ≡ f.state
  unfolding unit_ops apply_all apply
  units_kept zero unit at f = refl
  units_kept (suc n) unit at f = units_kept n unit (at + unit) (apply (erase c a at unit) f) ∙ kept _ f

  chunks_kept : (n at from b : ℕ) (src : List ℕ) (f : Flash) → (apply_all (chunk_ops c n a at from b src) f).state ≡ f.state
  unfolding chunk_ops apply_all apply
  chunks_kept zero at from b src f = refl
  chunks_kept (suc n) at from b src f = chunks_kept n (at + b) (from + b) b src _ ∙ kept _ f

  fill_kept : (unit p b at from : ℕ) (src : List ℕ) (f : Flash) → (apply_all (fill_ops c unit p b at from src a) f).state ≡ f.state
  unfolding fill_ops erase_ops
  fill_kept unit p b at from src f =
      ap (λ (x : Flash). x.state) (apply_append (unit_ops c (p / unit) unit a at) (chunk_ops c (p / b) a at from b src) f)
      ∙ chunks_kept (p / b) at from b src _
      ∙ units_kept (p / unit) unit at f

pub step_state : (g : Geometry) (c : Copy) (f : Flash) → Image c.to → (apply_all (copy_ops g c f) f).state ≡ with_mark g.state c.mark f.state
unfolding copy_ops apply_all apply mark_op change with_mark
step_state g c f i =
    ap (λ (x : Flash). x.state)
    (apply_append (fill_ops (cell g.state) (unit_of g c.to) (page g) g.b (c.target * page g) (c.source * page g) (source_of c.to f) c.to)
    (mark_op g.state c.mark ∷ []) f)
    ∙ ap (with_mark g.state c.mark)
    (fill_kept (cell g.state) c.to i (unit_of g c.to) (page g) g.b (c.target * page g) (c.source * page g) (source_of c.to f) f)

-- ---- the progress read afresh

pub progress_behind : (g : Geometry) (c : Copy) (f f₁ : Flash) → Image c.to → progress g.state f.state ≡ c.mark
    → c.mark < most_marks g.state f.state → f₁ ≡ apply_all (copy_ops g c f) f
    → progress g.state f₁.state ≡ first_open g.state f₁.state (most_marks g.state f₁.state - (c.mark + 1)) (c.mark + 1)
progress_behind g c f f₁ i e h d =
    let s : f₁.state ≡ with_mark g.state c.mark f.state = ap (λ (x : Flash). x.state) d ∙ step_state g c f i in
    rw s (progress_on g.state c.mark f.state h e)

-- ---- the steps before the progress do nothing

module _ (g : Geometry) (n end : ℕ) (f : Flash) (few : end ≤ 4 * n) where
  abbrev from : ℕ → List Op
  from i = copies_ops g (slice i end (all_steps n)) f

  one_passed : (i : ℕ) → i < progress g.state f.state → from i ≡ from (suc i)
  one_passed i l = go (dec_lt i end)
    where
      go : Dec (i < end) → from i ≡ from (suc i)
      go (yes h) =
          ap (λ (cs : List Copy). copies_ops g cs f) (next_step n i end h few)
          ∙ copies_skip g (step_at n i) (slice (suc i) end (all_steps n)) f (omega (arith, step_mark n i (omega arith)))
      go (no h) = ap (λ (cs : List Copy). copies_ops g cs f) (no_step n i end (omega (arith, h)) ∙ sym (no_step n (suc i) end (omega (arith, h))))

  all_passed : (d i : ℕ) → i + d ≡ progress g.state f.state → from i ≡ from (progress g.state f.state)
  all_passed zero i e = let y : i ≡ progress g.state f.state = omega arith in ap from y
  all_passed (suc d) i e = one_passed i (omega arith) ∙ all_passed d (suc i) (omega arith)

  pub steps_passed : (i : ℕ) → i ≤ progress g.state f.state
      → copies_ops g (slice i end (all_steps n)) f ≡ copies_ops g (slice (progress g.state f.state) end (all_steps n)) f
  steps_passed i h = all_passed (progress g.state f.state - i) i (omega arith)
