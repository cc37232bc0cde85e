-- The operations of a step leave the entries that its reader expects: as many bytes are written as a chunk has, whatever they are. And
-- they are told apart as the reader needs it. Serves the judge. Assumes nothing.
use mathlib.Core.Path.{◌≡◌, refl, sym, ap, ap₂, ◌∙◌, subst}
use mathlib.Core.Bool.{false}
use mathlib.Core.List.{List, [], ◌∷◌, map, ◌++◌, map-append}
use Prim.Native.Nat.{ℕ, zero, suc, ◌+◌, ◌-◌, ◌*◌, ◌/◌, ◌≤◌, ◌<◌}
use native.Mathlib.Decide.{dec_lt}
use native.Mathlib.Nat.{suc-mul, zero-mul, mul-zero, add-zero, zero-add, le-mul_of_pos_right}
use native.Mathlib.Omega.{arith}
use lib.ListN.{length, take, drop, length-take, length-drop, length-replicate}
use Rattle.state.specs.declared.Cell.{Cell}
use Rattle.state.specs.Cells.{marked}
use Rattle.geometry.specs.declared.Geometry.{Geometry}
use Rattle.geometry.specs.Geometry.{cell, page}
use Rattle.mem_flash.specs.Flash.{Area, active, dfu, state, Flash, unit_ops, erase_ops}
use Rattle.mem_flash.specs.Areas.{Image}
use Rattle.rules.specs.StateArea.{mark_op}
use Rattle.rules.specs.Steps.{Copy, to_dfu, to_active, swap_from, source_of, unit_of, chunk_ops, fill_ops, copy_ops}
use Rattle.way.proofs.Steps.{Whole, Fits, Near, source_placed}
use Rattle.log_steps.specs.Entries.{Entry}
use Rattle.log_steps.specs.Steps.{Step}
use Rattle.log_steps.specs.Entries.{entry, area_number, entry_of}
use Rattle.log_steps.specs.Steps.{step_for, step_of, nth, size}
use Rattle.log_steps.specs.Reader.{same}
use Rattle.log_steps.proofs.Entries.{nth_erase, nth_write, nth_mark, other_kind, other_start}
use Rattle.power_log.proofs.Budgets.{up_to, step_log}
use Rattle.power_log.proofs.Readable.{Told, AllTold}

times_some : {n m : ℕ} → 0 < n → 0 < m → 0 < n * m
times_some {n} {m} h l = omega (arith, le-mul_of_pos_right n l)

pub up_append : (s : Step) (i n m : ℕ) → up_to s i (n + m) ≡ up_to s i n ++ up_to s (i + n) m
unfolding up_to
up_append s i zero m = ap₂ (up_to s) (sym (add-zero i)) (zero-add m)
up_append s i (suc n) m =
    let e : suc n + m ≡ suc (n + m) = omega arith in
    ap (up_to s i) e
    ∙ ap (λ (l : List Entry). nth s i ∷ l)
    (up_append s (suc i) n m ∙ ap (λ (j : ℕ). up_to s (suc i) n ++ up_to s j m) (omega arith))

module _ (s : Step) (c : Cell) (a : Area) (same_area : area_number a ≡ s.area) where
  -- n erase units from unit i on
  units_log : (i n at : ℕ) → at ≡ s.start + i * s.unit → i + n ≤ s.units → map entry_of (unit_ops c n s.unit a at) ≡ up_to s i n
  unfolding unit_ops entry_of up_to
  units_log i zero at e h = refl
  units_log i (suc n) at e h =
      ap₂ (λ (x : Entry) (l : List Entry). x ∷ l)
      (ap₂ (λ (k p : ℕ). entry 0 k p s.unit) same_area e ∙ nth_erase s i (omega (arith, h)))
      (units_log (suc i) n (at + s.unit) (omega (arith, e, suc-mul i s.unit)) (omega (arith, h)))

  -- n chunks from chunk j on, of a source that has their bytes
  chunks_log : (j n at from : ℕ) (source : List ℕ) → at ≡ s.start + j * s.chunk → j + n ≤ s.chunks → from + n * s.chunk ≤ length source
      → map entry_of (chunk_ops c n a at from s.chunk source) ≡ up_to s (s.units + j) n
  unfolding chunk_ops entry_of up_to
  chunks_log j zero at from source e h l = refl
  chunks_log j (suc n) at from source e h l =
      let b : ℕ = s.chunk in
      let more : suc n * b ≡ n * b + b = suc-mul n b in
      let long : length (take b (drop from source)) ≡ b = simp (length-take, length-drop) (omega (arith, l, more)) in
      let place : s.units + j - s.units ≡ j = omega arith in
      ap₂ (λ (x : Entry) (r : List Entry). x ∷ r)
      (ap₂ (λ (k p : ℕ). entry 1 k p (length (take b (drop from source)))) same_area (e ∙ ap (λ (i : ℕ). s.start + i * b) (sym place))
      ∙ ap (entry 1 s.area (s.start + (s.units + j - s.units) * b)) long
      ∙ nth_write s (s.units + j) (omega arith) (omega (arith, h)))
      (chunks_log (suc j) n (at + b) (from + b) source (omega (arith, e, suc-mul j b)) (omega (arith, h)) (omega (arith, l, more))
      ∙ ap (λ (i : ℕ). up_to s i n) (omega arith))

module _ {g : Geometry} {c : Copy} {f now : Flash} (whole : Whole g) (fits : Fits g c f) (near : Near g c f now) where
  abbrev s : Step
  s = step_of g c

  -- the source has as many bytes as it had
  source_long : c.source * page g + page g ≤ length (source_of c.to now)
  source_long =
      subst (λ (l : List ℕ). c.source * page g + page g ≤ length l)
      (sym (ap (source_of c.to) near.same ∙ source_placed c.to near.held f fits.image)) fits.inside_source

  mark_log : map entry_of (mark_op g.state c.mark ∷ []) ≡ up_to s (0 + (s.units + s.chunks)) 1
  unfolding mark_op entry_of area_number up_to step_of step_for
  mark_log =
      ap (λ (n : ℕ). entry 1 2 ((2 + c.mark) * g.state.ws) n ∷ []) (length-replicate g.state.ws (marked (cell g.state)))
      ∙ ap (λ (x : Entry). x ∷ []) (nth_mark s (0 + (s.units + s.chunks)) (omega arith) (omega arith))

  fill_log : map entry_of (fill_ops (cell g.state) s.unit (page g) g.b (c.target * page g) (c.source * page g) (source_of c.to now) c.to)
      ≡ up_to s 0 (s.units + s.chunks)
  unfolding fill_ops erase_ops step_of step_for
  fill_log =
      map-append entry_of (unit_ops (cell g.state) s.units s.unit c.to (c.target * page g)) _
      ∙ ap₂ ◌++◌
      (units_log s (cell g.state) c.to refl 0 s.units (c.target * page g) (omega (arith, zero-mul s.unit)) (omega arith))
      (chunks_log s (cell g.state) c.to refl 0 s.chunks (c.target * page g) (c.source * page g) (source_of c.to now)
      (omega (arith, zero-mul s.chunk)) (omega arith) (omega (arith, whole.chunks, source_long))
      ∙ ap (λ (i : ℕ). up_to s i s.chunks) (omega arith))
      ∙ sym (up_append s 0 s.units s.chunks)

  pub step_log_lem : map entry_of (copy_ops g c now) ≡ step_log (step_of g c)
  unfolding copy_ops step_log size step_of step_for
  step_log_lem =
      map-append entry_of (fill_ops (cell g.state) s.unit (page g) g.b (c.target * page g) (c.source * page g) (source_of c.to now) c.to) _
      ∙ ap₂ ◌++◌ fill_log mark_log
      ∙ sym (up_append s 0 (s.units + s.chunks) 1)

-- ---- what the reader tells a step by

told : (s : Step) → 0 < s.units → 0 < s.unit → s.area < 2 → Told s
unfolding size
told s u v i =
    record {
      more = omega arith;
      apart = λ j l h. sym (go j l (dec_lt j s.units) (dec_lt (j - s.units) s.chunks));
      image = i;
    }
  where
    first : entry 0 s.area (s.start + 0 * s.unit) s.unit ≡ nth s 0
    first = nth_erase s 0 u

    unlike : (j : ℕ) (x : Entry) → x ≡ nth s j → false ≡ same (entry 0 s.area (s.start + 0 * s.unit) s.unit) x → false ≡ same (nth s 0) (nth s j)
    unlike j x e h = h ∙ ap₂ same first e

    go : (j : ℕ) → 0 < j → Dec (j < s.units) → Dec (j - s.units < s.chunks) → false ≡ same (nth s 0) (nth s j)
    go j l (yes h) d =
        unlike j _ (nth_erase s j h)
        (other_start _ _ refl refl (λ e. omega (arith, e, zero-mul s.unit, times_some l v)))
    go j l (no h) (yes d) = unlike j _ (nth_write s j (omega (arith, h)) d) (other_kind _ _ (λ e. omega (arith, e)))
    go j l (no h) (no d) = unlike j _ (nth_mark s j (omega (arith, h)) (omega (arith, d))) (other_kind _ _ (λ e. omega (arith, e)))

factors : (n b : ℕ) → 0 < n * b → (0 < n) × (0 < b)
factors zero b h = absurd (omega (arith, h, zero-mul b))
factors (suc n) zero h = absurd (omega (arith, h, mul-zero (suc n)))
factors (suc n) (suc b) h = (omega arith, omega arith)

image_number : (a : Area) → Image a → area_number a < 2
unfolding area_number
image_number active i = omega arith
image_number dfu i = omega arith
image_number state i = absurd i

module _ (g : Geometry) (whole : Whole g) (some : 0 < page g) where
  step_told : (c : Copy) → Image c.to → Told (step_of g c)
  unfolding step_of step_for
  step_told c i =
      let e = whole.units c.to i in
      let f = factors (page g / unit_of g c.to) (unit_of g c.to) (omega (arith, e, some)) in
      told (step_of g c) f.0 f.1 (image_number c.to i)

  pub swap_told : (n i : ℕ) → AllTold g (swap_from n i)
  unfolding AllTold swap_from to_dfu to_active
  swap_told zero i = tt
  swap_told (suc k) i = (step_told (to_dfu i k (k + 1)) tt, (step_told (to_active (i + 1) k k) tt, swap_told k (i + 2)))
