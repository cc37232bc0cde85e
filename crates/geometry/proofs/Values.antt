-- The erase value and the cells that it tells of: `cell` by its two ways out, and that a value which is not refused is what an erase
-- leaves. Assumes nothing.
use mathlib.Core.Path.{◌≡◌, refl, sym}
use mathlib.Core.Bool.{Bool, true, false}
use Prim.Native.Nat.{ℕ}
use native.Mathlib.Omega.{arith}
use lib.Dec.{eqb}
use borrow.Author.Tests.{eq-eqb, ne_eqb, eqb-true}
use Rattle.state.specs.declared.Cell.TheVariants.{High, Low}
use Rattle.state.specs.Choice.{pick}
use Rattle.state.specs.Cells.{erased}
use Rattle.geometry.specs.declared.StateSizes.{StateSizes}
use Rattle.geometry.specs.Geometry.{cell}
use Rattle.geometry.specs.Refusals.{any, bad_value}

module _ (z : StateSizes) where
  pub cell_low : z.ev ≡ 0 → Low ≡ cell z
  unfolding cell erased pick
  cell_low e = rw (eq-eqb _ _ e)

  pub cell_high : (z.ev ≡ 0 → ⊥) → High ≡ cell z
  unfolding cell erased pick
  cell_high e = rw (ne_eqb _ _ e)

  -- what an erase leaves is the erase value
  pub value_erased : bad_value z.ev ≡ false → erased (cell z) ≡ z.ev
  unfolding cell bad_value any pick
  value_erased e = go _ refl
    where
      go : (b : Bool) → eqb z.ev (erased Low) ≡ b → erased (pick b Low High) ≡ z.ev
      go true p = sym (eqb-true _ _ p)
      go false p = other _ refl
        where
          other : (b : Bool) → eqb z.ev (erased High) ≡ b → erased High ≡ z.ev
          other true q = sym (eqb-true _ _ q)
          other false q = let z : ◌≡◌ {A = Bool} true false = (rw (q, p) at e) in let y : ◌≡◌ {A = ℕ} 0 1 = cc in absurd (omega arith)
