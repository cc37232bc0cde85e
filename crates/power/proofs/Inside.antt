-- Every operation of a boot that is not refused lies inside its area, on the area's units (specs/Inside): `boots_inside`, from any
-- bytes in the areas. Assumes nothing.
use mathlib.Core.Path.{◌≡◌, refl, sym, ◌∙◌, subst}
use mathlib.Core.Bool.{Bool, true, false}
use mathlib.Core.List.{List, [], ◌∷◌, ◌++◌}
use Prim.Native.Nat.{ℕ, zero, suc, ◌+◌, ◌*◌, ◌/◌, ◌%◌, ◌≤◌, ◌<◌}
use native.Mathlib.Nat.{zero-mul, one-mul, suc-mul, mul-le-mul_right, dvd-zero, dvd_trans, dvd-mul_left_of_dvd, dvd_of_mod-eq-zero, mod-eq-zero_of_dvd, div-mul_cancel, mod_self, div-mul-le_self, dvd-add}
use native.Mathlib.Omega.{arith}
use lib.ListN.{length, take, drop, replicate, length-drop, length-replicate}
use lib.Seq.{length-take-le}
use lib.Dec.{leb, ltb}
use Rattle.state.specs.declared.State.{State}
use Rattle.state.specs.declared.State.TheVariants.{Boot, Swap, Revert, DfuDetach}
use Rattle.state.specs.Choice.{pick}
use Rattle.state.specs.Cells.{marked}
use Rattle.state.specs.Magic.{magic}
use Rattle.geometry.specs.declared.Geometry.{Geometry}
use Rattle.geometry.specs.Geometry.{cell, page, pages, words}
use Rattle.geometry.specs.Refusals.{boot_words}
use Rattle.geometry.specs.Admitted.{Admitted}
use Rattle.geometry.proofs.Rows.{admitted}
use Rattle.geometry.proofs.Tests.{even_times}
use Rattle.mem_flash.specs.Flash.{Area, active, dfu, state, Flash, Op, write, apply_all, erase, unit_ops, erase_ops}
use Rattle.mem_flash.specs.Areas.{area_of, Image, SameLengths}
use Rattle.mem_flash.proofs.Areas.{all_lengths}
use Rattle.rules.specs.StateArea.{progress, mark_op, invalidate_op, magic_op}
use Rattle.rules.specs.Steps.{Copy, to_dfu, to_active, swap_from, revert_from, swap_steps, revert_steps, source_of, unit_of, chunk_ops, fill_ops, copy_ops, once_ops, copies_ops, page_count, swap_ops, revert_ops}
use Rattle.rules.specs.Boot.{renew_ops, finish_ops, swap_or_revert_ops, confirming, boot_ops_in, boot_ops, prepare_boot}
use Rattle.rules.proofs.Pages.{pages_le}
use Rattle.power.specs.Inside.{write_unit, Aligned, Within, AllWithin, none, one, BootsInside}

-- ---- multiples of a unit

even_sum : (u a b : ℕ) → a % u ≡ 0 → b % u ≡ 0 → (a + b) % u ≡ 0
even_sum u a b x y = mod-eq-zero_of_dvd u (dvd-add u (dvd_of_mod-eq-zero u x) (dvd_of_mod-eq-zero u y))

-- so many bytes, a multiple of the unit, from a multiple on
aligned : (u from n size : ℕ) → from % u ≡ 0 → n % u ≡ 0 → from + n ≤ size → Aligned u from n size
aligned u from n size x y h = record { starts = x; ends = even_sum u from n x y; inside = h }

even_many : (u b k : ℕ) → b % u ≡ 0 → k * b % u ≡ 0
even_many u b k x = mod-eq-zero_of_dvd u (dvd-mul_left_of_dvd u (dvd_of_mod-eq-zero u x) k)

-- ---- lists of operations

within_append : {g : Geometry} {f : Flash} {os ps : List Op} → AllWithin g f os → AllWithin g f ps → AllWithin g f (os ++ ps)
within_append none y = y
within_append (one w x) y = one w (within_append x y)

within_pick : {g : Geometry} {f : Flash} (b : Bool) {os ps : List Op} → AllWithin g f os → AllWithin g f ps
    → AllWithin g f (pick b os ps)
unfolding pick
within_pick true x y = x
within_pick false x y = y

-- ---- an erase

-- from a unit's edge on, an erase is within the area, unit by unit
module _ (g : Geometry) (f : Flash) (a : Area) where
  abbrev unit : ℕ
  unit = unit_of g a

  units_within : (n from : ℕ) → from % unit ≡ 0 → from + n * unit ≤ length (area_of a f) → AllWithin g f (unit_ops (cell g.state) n unit a from)
  unfolding unit_ops
  units_within zero from x h = none
  units_within (suc n) from x h =
      let h' : from + (n * unit + unit) ≤ length (area_of a f) = rw suc-mul at h in
      one {o = erase (cell g.state) a from unit} (refl, aligned unit from unit (length (area_of a f)) x (mod_self unit) (omega arith))
      (units_within n (from + unit) (even_sum unit from unit x (mod_self unit)) (omega arith))

  erase_within : (from n : ℕ) → from % unit ≡ 0 → from + n ≤ length (area_of a f) → AllWithin g f (erase_ops (cell g.state) unit a from n)
  unfolding erase_ops
  erase_within from n x h = units_within (n / unit) from x (omega (arith, div-mul-le_self n unit))

-- ---- a step

chunks_within : (g : Geometry) (f : Flash) (n : ℕ) (a : Area) (at from b : ℕ) (source : List ℕ) → at % write_unit g a ≡ 0
    → b % write_unit g a ≡ 0
    → at + n * b ≤ length (area_of a f) → from + n * b ≤ length source → AllWithin g f (chunk_ops (cell g.state) n a at from b source)
unfolding chunk_ops
chunks_within g f zero a at from b source x y h k = none
chunks_within g f (suc n) a at from b source x y h k =
    let h' : at + (n * b + b) ≤ length (area_of a f) = rw suc-mul at h in
    let k' : from + (n * b + b) ≤ length source = rw suc-mul at k in
    let l : length (take b (drop from source)) ≡ b = length-take-le b (drop from source) (simp length-drop (omega arith)) in
    one
    (subst (λ (i : ℕ). Aligned (write_unit g a) at i (length (area_of a f))) (sym l)
    (aligned (write_unit g a) at b (length (area_of a f)) x y (omega arith)))
    (chunks_within g f n a (at + b) (from + b) b source (even_sum (write_unit g a) at b x y) y (omega arith) (omega arith))

-- what a step needs of the lengths of a flash
record Lies (g : Geometry) (f : Flash) (c : Copy) : Type 0 where
  image : Image c.to
  source : c.source * page g + page g ≤ length (source_of c.to f)
  target : c.target * page g + page g ≤ length (area_of c.to f)
  mark : (2 + c.mark) * g.state.ws + g.state.ws ≤ length f.state

abbrev AllLie : Geometry → Flash → List Copy → Type 0
AllLie g f [] = Unit {0}
AllLie g f (c ∷ cs) = Lies g f c × AllLie g f cs

source_length : (a : Area) (h f : Flash) → SameLengths h f → length (source_of a h) ≡ length (source_of a f)
unfolding source_of
source_length active h f l = l.dfu
source_length dfu h f l = l.active
source_length state h f l = l.state

module _ (g : Geometry) (f : Flash) (ad : Admitted g (length f.active) (length f.dfu) (length f.state)) where
  -- a page is whole erase units and write units of an image, and a chunk whole write units
  units : (a : Area) → Image a → (page g % unit_of g a ≡ 0) × (page g % write_unit g a ≡ 0) × (g.b % write_unit g a ≡ 0)
  unfolding unit_of write_unit
  units active i = (ad.page_ea, ad.page_wa, ad.chunk_wa)
  units dfu i = (ad.page_ed, ad.page_wd, ad.chunk_wd)
  units state i = absurd i

  word_within : (i : ℕ) (v : ℕ) → i * g.state.ws + g.state.ws ≤ length f.state
      → Within g f (write (cell g.state) state (i * g.state.ws) (replicate g.state.ws v))
  unfolding write_unit area_of
  word_within i v h =
      subst (λ (n : ℕ). Aligned g.state.ws (i * g.state.ws) n (length f.state)) (sym (length-replicate g.state.ws v))
      (aligned g.state.ws (i * g.state.ws) g.state.ws (length f.state) (even_many g.state.ws g.state.ws i (mod_self g.state.ws))
      (mod_self g.state.ws) h)

  copy_within : (c : Copy) (h : Flash) → SameLengths h f → Lies g f c → AllWithin g f (copy_ops g c h)
  unfolding copy_ops fill_ops mark_op
  copy_within c h l at =
      let u = units c.to at.image in
      let whole : page g / g.b * g.b ≡ page g = even_times (page g) g.b ad.page_b in
      within_append
      (within_append
      (erase_within g f c.to (c.target * page g) (page g) (even_many _ (page g) c.target u.0) at.target)
      (chunks_within g f (page g / g.b) c.to (c.target * page g) (c.source * page g) g.b (source_of c.to h)
      (even_many _ (page g) c.target u.1) u.2 (omega (arith, whole, at.target))
      (omega (arith, whole, at.source, source_length c.to h f l))))
      (one (word_within (2 + c.mark) (marked (cell g.state)) at.mark) none)

  copies_within : (cs : List Copy) (h : Flash) → SameLengths h f → AllLie g f cs → AllWithin g f (copies_ops g cs h)
  unfolding copies_ops once_ops
  copies_within [] h l at = none
  copies_within (c ∷ cs) h l at =
      let e = all_lengths (once_ops g c h) h in
      within_append (within_pick (leb (progress g.state h.state) c.mark) (copy_within c h l at.0) none)
      (copies_within cs (apply_all (once_ops g c h) h)
      (record { active = e.active ∙ l.active; dfu = e.dfu ∙ l.dfu; state = e.state ∙ l.state }) at.1)

  -- ---- the steps of the swap and of the revert

  abbrev N : ℕ
  N = page_count g f

  active_length : N * page g ≡ length f.active
  unfolding page_count pages
  active_length = even_times (length f.active) (page g) ad.active_pages

  state_length : words g.state.ws (length f.state) * g.state.ws ≡ length f.state
  unfolding words
  state_length =
      div-mul_cancel g.state.ws
      (dvd_trans g.state.ws (dvd_of_mod-eq-zero g.state.ws ad.unit_words) (dvd_of_mod-eq-zero g.state.es ad.state_units_lem))

  -- word i is there for every i below 4N + 3
  word_there : (i : ℕ) → i < boot_words N → i * g.state.ws + g.state.ws ≤ length f.state
  unfolding page_count
  word_there i h =
      let w : i < words g.state.ws (length f.state) = omega (arith, ad.state_words) in
      omega (arith, pages_le g.state.ws w, state_length)

  module _ (k : ℕ) (h : k < N) (i : ℕ) (m : i < 4 * N) where
    inside_active : k * page g + page g ≤ length f.active
    inside_active = omega (arith, pages_le (page g) h, active_length)

    inside_dfu : (k + 1) * page g + page g ≤ length f.dfu
    inside_dfu = omega (arith, inside_active, ad.dfu_longer)

    mark_there : (2 + i) * g.state.ws + g.state.ws ≤ length f.state
    unfolding boot_words
    mark_there = word_there (2 + i) (omega arith)

    -- a step to DFU page k or k + 1 from active page k, and a step to active page k from DFU page k or k + 1
    dfu_lies : (t : ℕ) → t ≤ k + 1 → Lies g f (to_dfu i k t)
    unfolding to_dfu source_of area_of
    dfu_lies t less =
        record {
          image = tt;
          source = inside_active;
          target = omega (arith, mul-le-mul_right (page g) less, inside_dfu);
          mark = mark_there;
        }

    active_lies : (s : ℕ) → s ≤ k + 1 → Lies g f (to_active i s k)
    unfolding to_active source_of area_of
    active_lies s less =
        record {
          image = tt;
          source = omega (arith, mul-le-mul_right (page g) less, inside_dfu);
          target = inside_active;
          mark = mark_there;
        }

  swap_lies : (k i : ℕ) → k ≤ N → i + 2 * k ≤ 4 * N → AllLie g f (swap_from k i)
  unfolding swap_from
  swap_lies zero i h m = tt
  swap_lies (suc k) i h m = (
    dfu_lies k h i (omega arith) (k + 1) (omega arith),
    (active_lies k h (i + 1) (omega arith) k (omega arith), swap_lies k (i + 2) (omega arith) (omega arith)),
  )

  revert_lies : (j k i : ℕ) → k + j ≤ N → i + 2 * j ≤ 4 * N → AllLie g f (revert_from j k i)
  unfolding revert_from
  revert_lies zero k i h m = tt
  revert_lies (suc j) k i h m = (
    dfu_lies k (omega arith) i (omega arith) k (omega arith),
    (
      active_lies k (omega arith) (i + 1) (omega arith) (k + 1) (omega arith),
      revert_lies j (k + 1) (i + 2) (omega arith)
          (omega arith),
    ),
  )

  renew_within : (m : ℕ) → AllWithin g f (renew_ops g.state (length f.state) m)
  unfolding renew_ops magic_op boot_words unit_of area_of
  renew_within m =
      let sign : Within g f (magic_op g.state m) =
      subst (λ (i : ℕ). Within g f (write (cell g.state) state i (replicate g.state.ws m))) (zero-mul g.state.ws)
      (word_within 0 m (word_there 0 (omega arith))) in
      within_append
      (erase_within g f state 0 (length f.state) (mod-eq-zero_of_dvd g.state.es (dvd-zero g.state.es)) (omega arith))
      (one sign none)

  finish_within : AllWithin g f (finish_ops g f)
  unfolding finish_ops invalidate_op boot_words
  finish_within =
      let void : Within g f (invalidate_op g.state) =
      subst (λ (i : ℕ). Within g f (write (cell g.state) state i (replicate g.state.ws (marked (cell g.state))))) (one-mul g.state.ws)
      (word_within 1 (marked (cell g.state)) (word_there 1 (omega arith))) in
      one void (renew_within (magic Revert))

  same : SameLengths f f
  same = record { active = refl; dfu = refl; state = refl }

  in_within : (s : State) → AllWithin g f (boot_ops_in s g f)
  unfolding boot_ops_in swap_or_revert_ops swap_ops swap_steps revert_ops revert_steps
  in_within Boot = none
  in_within Swap =
      within_pick (confirming g.state N f.state) (renew_within (magic Boot))
      (within_pick (ltb (progress g.state f.state) (2 * page_count g f))
      (copies_within (swap_from N 0) f same (swap_lies N 0 (omega arith) (omega arith)))
      (within_append (copies_within (revert_from N 0 (2 * N)) f same
      (revert_lies N 0 (2 * N) (omega arith) (omega arith))) finish_within))
  in_within Revert = none
  in_within DfuDetach = none

pub boots_inside : (g : Geometry) (f : Flash) → BootsInside g f
unfolding prepare_boot boot_ops
boots_inside g f r = in_within g f (admitted g _ _ _ r) _
