-- One step of a swap or of a revert, from a flash whose target page may hold anything: done whole it leaves what it always
-- leaves, and cut anywhere it has touched that page alone. Serves `power`. Assumes nothing.
use mathlib.Core.Path.{◌≡◌, refl, sym, ap, ◌∙◌, subst, ap₂}
use mathlib.Core.List.{List, [], ◌∷◌, ◌++◌}
use Prim.Native.Nat.{ℕ, ◌+◌, ◌*◌, ◌/◌, ◌≤◌, ◌<◌}
use native.Mathlib.Nat.{lt_of_not-le}
use native.Mathlib.Decide.{dec_le}
use native.Mathlib.Omega.{arith}
use lib.ListN.{length, replicate, length-append}
use Rattle.state.specs.Cells.{marked}
use Rattle.geometry.specs.declared.Geometry.{Geometry}
use Rattle.geometry.specs.Geometry.{cell, page}
use Rattle.geometry.specs.Admitted.{Admitted}
use Rattle.geometry.proofs.Tests.{even_times}
use Rattle.mem_flash.specs.Flash.{Area, active, dfu, state, Flash, Op, written_at, change, apply, apply_all, after}
use Rattle.mem_flash.specs.Run.{placed}
use Rattle.mem_flash.specs.Areas.{Bytes, area_of, Image}
use Rattle.mem_flash.proofs.Stretches.{beside_refl}
use Rattle.mem_flash.proofs.After.{apply_append, after_within, after_between}
use Rattle.mem_flash.proofs.Areas.{placed_same}
use Rattle.mem_flash.proofs.Erases.{Held}
use Rattle.rules.specs.StateArea.{mark_op}
use Rattle.rules.specs.Steps.{Copy, source_of, unit_of, fill_ops, copy_ops}
use Rattle.rules.specs.Power.{page_at, with_page}
use Rattle.way.proofs.Fill.{fill_count, fill_whole, fill_held, fill_cut_held, Fillable}

-- ---- a step

-- a page is whole chunks, and whole erase units of either image
pub record Whole (g : Geometry) : Type 0 where
  pub chunks : page g / g.b * g.b ≡ page g
  pub units : (a : Area) → Image a → page g / unit_of g a * unit_of g a ≡ page g

pub whole_page : {g : Geometry} {la ld ls : ℕ} → Admitted g la ld ls → Whole g
unfolding unit_of
whole_page {g} ad = record { chunks = even_times (page g) g.b ad.page_b; units = units }
  where
    units : (a : Area) → Image a → page g / unit_of g a * unit_of g a ≡ page g
    units active i = even_times (page g) g.ea ad.page_ea
    units dfu i = even_times (page g) g.ed ad.page_ed
    units state i = absurd i

-- what the step c may count on at the flash f
pub record Fits (g : Geometry) (c : Copy) (f : Flash) : Type 0 where
  pub image : Image c.to
  pub bytes : Bytes (source_of c.to f)
  pub inside_source : c.source * page g + page g ≤ length (source_of c.to f)
  pub inside_target : c.target * page g + page g ≤ length (area_of c.to f)

-- now is f, but for what the target page of c holds
abbrev pub Near : Geometry → Copy → Flash → Flash → Type 0
Near g c f now = Held (c.target * page g) (page g) c.to (area_of c.to f) f now

-- f after the whole of the step c
unfoldable pub stepped : Geometry → Copy → Flash → Flash
stepped g c f =
    change
    state
    (written_at (cell g.state) ((2 + c.mark) * g.state.ws) (replicate g.state.ws (marked (cell g.state))))
    (placed c.to (with_page (page g) c.target (page_at (page g) c.source (source_of c.to f)) (area_of c.to f)) f)

pub near_refl : (g : Geometry) (c : Copy) (f : Flash) → Near g c f f
near_refl g c f =
    record {
      held = area_of c.to f;
      same = sym (placed_same c.to f);
      beside = beside_refl;
    }

-- the source of a step is another area than its target
pub source_placed : (a : Area) (xs : List ℕ) (f : Flash) → Image a → source_of a (placed a xs f) ≡ source_of a f
unfolding placed change source_of
source_placed active xs f i = refl
source_placed dfu xs f i = refl
source_placed state xs f i = absurd i

-- the operations of a step whose source holds these bytes
abbrev filling : Geometry → Copy → List ℕ → List Op
filling g c source = fill_ops (cell g.state) (unit_of g c.to) (page g) g.b (c.target * page g) (c.source * page g) source c.to

module _ {g : Geometry} {c : Copy} {f now : Flash} (whole : Whole g) (fits : Fits g c f) (near : Near g c f now) where
  abbrev mark_ops : List Op
  mark_ops = mark_op g.state c.mark ∷ []

  -- a copy from a flash that is near f has the operations of one from f
  copy_near : copy_ops g c now ≡ filling g c (source_of c.to f) ++ mark_ops
  unfolding copy_ops
  copy_near =
      ap (λ (s : List ℕ). filling g c s ++ mark_ops)
      (ap (source_of c.to) near.same ∙ source_placed c.to near.held f fits.image)

  -- the page that it fills, and the operations that fill it
  abbrev fills : List Op
  fills = filling g c (source_of c.to f)

  abbrev start : Flash
  start = placed c.to near.held f

  fillable : Fillable (unit_of g c.to) (page g) g.b (c.target * page g) (area_of c.to f) near.held
  fillable =
      record {
        units = whole.units c.to fits.image;
        chunks = whole.chunks;
        inside = fits.inside_target;
        beside = near.beside;
      }

  fills_whole : apply_all fills start
      ≡ placed c.to (with_page (page g) c.target (page_at (page g) c.source (source_of c.to f)) (area_of c.to f)) f
  unfolding with_page page_at
  fills_whole = fill_whole (cell g.state) fillable (c.source * page g) (source_of c.to f) c.to f fits.bytes fits.inside_source

  fills_near : Near g c f (apply_all fills start)
  fills_near = fill_held (cell g.state) fillable (c.source * page g) (source_of c.to f) c.to f

  fills_cut : (k : ℕ) → k < length fills → Near g c f (after k fills start)
  fills_cut k h =
      fill_cut_held (cell g.state) fillable (c.source * page g) (source_of c.to f) c.to f k
      (omega (arith, h, fill_count (cell g.state) (unit_of g c.to) (page g) g.b (c.target * page g) (c.source * page g) (source_of c.to f) c.to))

  -- done from a flash that is near f, the step leaves what it leaves from f
  pub step_whole : apply_all (copy_ops g c now) now ≡ stepped g c f
  unfolding apply_all apply mark_op stepped
  step_whole =
      ap₂ apply_all copy_near near.same ∙ apply_append fills mark_ops start ∙ ap (apply_all mark_ops) fills_whole

  -- cut, inside the page or at the mark, it leaves a flash that is near f
  pub step_cut_near : (k : ℕ) → k < length (copy_ops g c now) → Near g c f (after k (copy_ops g c now) now)
  step_cut_near k h =
      subst (λ (x : Flash). Near g c f x) (sym (ap₂ (after k) copy_near near.same)) (go (dec_le (length fills) k))
    where
      go : Dec (length fills ≤ k) → Near g c f (after k (fills ++ mark_ops) start)
      go (no l) =
          subst (λ (x : Flash). Near g c f x) (sym (after_within k fills mark_ops start (lt_of_not-le l)))
          (fills_cut k (lt_of_not-le l))
      go (yes l) =
          let e : k ≡ length fills = omega (arith, h, ap length copy_near, length-append fills mark_ops) in
          subst (λ (x : Flash). Near g c f x)
          (sym (ap (λ (i : ℕ). after i (fills ++ mark_ops) start) e ∙ after_between fills mark_ops start)) fills_near
