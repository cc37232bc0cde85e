-- What a step costs: as many operations as step_cost says, which is the next step's cost where the step is next. Serves the bounds of
-- `power`, and `every_count`. Assumes nothing.
use mathlib.Core.Path.{◌≡◌, sym, ap, ◌∙◌}
use mathlib.Core.Bool.{Bool, true, false}
use Prim.Native.Nat.{ℕ, suc, ◌*◌, ◌%◌, ◌≤◌}
use native.Mathlib.Nat.{mul-mod_right, le-max_left, le-max_right}
use native.Mathlib.Omega.{arith}
use lib.Dec.{eqb}
use lib.ListN.{length, length-append}
use borrow.Author.Tests.{eq-eqb, ne_eqb}
use Rattle.state.specs.declared.Cell.{Cell}
use Rattle.state.specs.Choice.{pick}
use Rattle.geometry.specs.declared.Geometry.{Geometry}
use Rattle.geometry.specs.Geometry.{cell, page}
use Rattle.mem_flash.specs.Flash.{active, dfu, Flash}
use Rattle.mem_flash.specs.Areas.{Image}
use Rattle.mem_flash.proofs.Erases.{erase_count}
use Rattle.rules.specs.StateArea.{progress}
use Rattle.rules.specs.Steps.{Copy, unit_of, fill_ops, copy_ops}
use Rattle.rules.specs.Power.{step_cost, dearer_cost, step_to, next_cost}
use Rattle.way.proofs.Fill.{chunks_count}

pub step_count : (g : Geometry) (c : Copy) (f : Flash) → length (copy_ops g c f) ≡ step_cost g c.to
unfolding copy_ops fill_ops step_cost
step_count g c f =
    let cells : Cell = cell g.state in
    simp (length-append, erase_count cells (unit_of g c.to) c.to (c.target * page g) (page g), chunks_count cells) (omega arith)

-- which image a step writes, by its number, and what the next one costs
pub even_dfu : (i : ℕ) → i % 2 ≡ 0 → step_to i ≡ dfu
unfolding step_to pick
even_dfu i e = rw (eq-eqb (i % 2) 0 e)

pub odd_active : (i : ℕ) → i % 2 ≡ 0 → active ≡ step_to (suc i)
unfolding step_to pick
odd_active i e = rw (ne_eqb (suc i % 2) 0 (λ o. omega arith))

pub to_image : (i : ℕ) → Image (step_to i)
unfolding step_to pick
to_image i = go (eqb (i % 2) 0)
  where
    go : (b : Bool) → Image (pick b dfu active)
    go true = tt
    go false = tt

pub next_count : (g : Geometry) (m : ℕ) (c : Copy) (f : Flash) → c.to ≡ step_to m → progress g.state f.state ≡ m
    → length (copy_ops g c f) ≡ next_cost g f
unfolding next_cost
next_count g m c f to done = step_count g c f ∙ ap (step_cost g) (to ∙ ap step_to (sym done))

-- a flash whose progress is even costs a step to DFU next
pub even_cost : (g : Geometry) (x : Flash) (n : ℕ) → progress g.state x.state ≡ 2 * n → next_cost g x ≡ step_cost g dfu
unfolding next_cost
even_cost g x n e = ap (step_cost g) (even_dfu (progress g.state x.state) (ap (λ (i : ℕ). i % 2) e ∙ mul-mod_right 2 n))

-- no step costs more than the dearer
pub next_dearer : (g : Geometry) (f : Flash) → next_cost g f ≤ dearer_cost g
unfolding next_cost step_to dearer_cost pick
next_dearer g f = go (eqb (progress g.state f.state % 2) 0)
  where
    go : (b : Bool) → step_cost g (pick b dfu active) ≤ dearer_cost g
    go true = le-max_left (step_cost g dfu) (step_cost g active)
    go false = le-max_right (step_cost g dfu) (step_cost g active)
