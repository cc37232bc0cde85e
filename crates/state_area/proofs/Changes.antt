-- How the operations on the state area follow from those of the flash on any area. Assumes nothing.
use mathlib.Core.Path.{◌≡◌, ◌∙◌}
use mathlib.Core.List.{List}
use Prim.Native.Nat.{ℕ, ◌-◌, ◌*◌}
use native.Mathlib.Nat.{sub-zero, zero-mul, one-mul}
use lib.ListN.{length, replicate}
use Rattle.state.specs.declared.Cell.{Cell}
use Rattle.state.specs.Cells.{marked}
use Rattle.geometry.specs.declared.StateSizes.{StateSizes}
use Rattle.geometry.specs.Geometry.{cell}
use Rattle.mem_flash.specs.declared.Budget.{Budget}
use Rattle.mem_flash.specs.Run.{Flow, cut}
use Rattle.std.specs.Prelude.{Ok}
use Rattle.mem_flash.specs.Flash.{Area, state, Op, change, erase_ops}
use Rattle.mem_flash.specs.Run.{flash, placed, InArea, write_ops}
use Rattle.mem_flash.proofs.Runs.{area_on, area_cut}
use Rattle.rules.specs.StateArea.{invalidate_op, magic_op}
use Rattle.rules.specs.Boot.{renew_ops}
use Rattle.state_area.specs.Area.{InState, Invalidated, Renewed}

-- operations on any area, done on the state area
in_state : (k : ℕ) (os : Area → List Op) (st st' : List ℕ) (r : Flow) → InArea k os st st' r → InState k (os state) st st' r
unfolding placed change
in_state k os st st' r w a d = w state (flash a d st)

-- the cells are those of the area, c, and the bytes v written are their marks
pub invalidated : (k : ℕ) (z : StateSizes) (st st' : List ℕ) (r : Flow) {c : Cell} {at v : ℕ} → c ≡ cell z → at ≡ 1 * z.ws → v ≡ marked c
    → InArea k (write_ops c at (replicate z.ws v)) st st' r → Invalidated k z st st' r
unfolding invalidate_op
invalidated k z st st' r h e m w =
    let o = e ∙ one-mul z.ws in
    in_state k _ st st' r (rw (o, m, h) at w)

module _ (k : ℕ) (z : StateSizes) (m : ℕ) (st st₁ : List ℕ) (r : Flow) (c : Cell) (h : c ≡ cell z)
    (w : InArea k (λ a. erase_ops c z.es a 0 (length st - 0)) st st₁ r) where
  erases : InArea k (λ a. erase_ops (cell z) z.es a 0 (length st)) st st₁ r
  erases = rw (sub-zero (length st), h) at w

  pub renew_cut : r ≡ cut → Renewed k z m st st₁ cut
  unfolding renew_ops magic_op
  renew_cut o = in_state k _ st st₁ cut (area_cut k _ st st₁ r erases (write_ops (cell z) 0 (replicate z.ws m)) o)

  pub renew_on : (l : Budget) (st₂ : List ℕ) (q : Flow) {at : ℕ} → r ≡ Ok l → at ≡ 0 * z.ws → InArea l.0 (write_ops c at (replicate z.ws m)) st₁ st₂ q
      → Renewed k z m st st₂ q
  unfolding renew_ops magic_op
  renew_on l st₂ q o e v =
      let s = e ∙ zero-mul z.ws in
      in_state k _ st st₂ q (area_on k _ st st₁ r erases (write_ops (cell z) 0 (replicate z.ws m)) l st₂ q o (rw (s, h) at v))
