-- What the laws of the way take from a geometry that a boot admits. Serves `power`, `never_mixed` and `confirmed`. Assumes nothing.
use mathlib.Core.Path.{◌≡◌, sym, ap, ◌∙◌}
use Prim.Native.Nat.{ℕ, zero, suc, ◌+◌, ◌-◌, ◌*◌, ◌/◌, ◌≤◌, ◌<◌, zero-le, suc-le-suc}
use native.Mathlib.Nat.{zero-mul, mul-le-mul_right, dvd_of_mod-eq-zero, dvd_trans, div-mul_cancel}
use native.Mathlib.Omega.{arith}
use lib.ListN.{length}
use Rattle.geometry.specs.declared.Geometry.{Geometry}
use Rattle.geometry.specs.Geometry.{page, pages, words}
use Rattle.geometry.specs.Refusals.{boot_words, boot_refusal}
use Rattle.geometry.proofs.Rows.{admitted}
use Rattle.geometry.proofs.Tests.{even_times}
use Rattle.geometry.proofs.PageSize.{page_some}
use Rattle.mem_flash.specs.Flash.{Area, Flash}
use Rattle.rules.specs.StateArea.{progress}
use Rattle.rules.specs.Steps.{unit_of, page_count}
use Rattle.rules.specs.Power.{step_cost, step_to, next_cost}
use Rattle.way.proofs.Steps.{Whole, whole_page}
use Rattle.way.proofs.Costs.{to_image}
use Rattle.way.proofs.Images.{Paged}

some_factor : (n b p : ℕ) → n * b ≡ p → 0 < p → 0 < n
some_factor zero b p e h = absurd (omega (arith, zero-mul b))
some_factor (suc n) b p e h = suc-le-suc zero-le

-- N pages; every step costs three operations or more; a state area of 2 + t words with more than 4N marks, in whole erase
-- units of a word or more
pub record Sized (g : Geometry) (f : Flash) (t : ℕ) : Type 0 where
  pub ws : 0 < g.state.ws
  pub paged : Paged (page g) (page_count g f) f.active f.dfu
  pub cost : (x : Flash) → 3 ≤ next_cost g x
  pub whole : Whole g
  pub state : length f.state ≡ (2 + t) * g.state.ws
  pub units : length f.state / g.state.es * g.state.es ≡ length f.state
  pub unit : g.state.ws ≤ g.state.es
  pub room : 4 * page_count g f < t

pub sized : (g : Geometry) (f : Flash) → boot_refusal g (length f.active) (length f.dfu) (length f.state) ≡ 0
    → Sized g f (words g.state.ws (length f.state) - 2)
unfolding page_count pages words step_cost next_cost boot_words
sized g f r =
    let a = admitted g (length f.active) (length f.dfu) (length f.state) r in
    let p : 0 < page g = page_some a.numbers in
    let whole : Whole g = whole_page a in
    let active : length f.active / page g * page g ≡ length f.active =
    even_times (length f.active) (page g) a.active_pages in
    let full : length f.state / g.state.ws * g.state.ws ≡ length f.state =
    div-mul_cancel g.state.ws (dvd_trans g.state.ws (dvd_of_mod-eq-zero g.state.ws a.unit_words)
    (dvd_of_mod-eq-zero g.state.es a.state_units_lem)) in
    let two : length f.state / g.state.ws ≡ 2 + (length f.state / g.state.ws - 2) = omega arith in
    let chunks : 0 < page g / g.b = some_factor (page g / g.b) g.b (page g) whole.chunks p in
    let e : g.state.es / g.state.ws * g.state.ws ≡ g.state.es = even_times g.state.es g.state.ws a.unit_words in
    let n : 1 ≤ g.state.es / g.state.ws = some_factor (g.state.es / g.state.ws) g.state.ws g.state.es e a.numbers.es.some in
    record {
      ws = a.numbers.ws.some;
      paged = record { some = p; active = sym active; dfu = omega (arith, a.dfu_longer, active) };
      cost = λ x.
          let to : Area = step_to (progress g.state x.state) in
          let u : 0 < page g / unit_of g to =
          some_factor (page g / unit_of g to) (unit_of g to) (page g) (whole.units to (to_image (progress g.state x.state))) p in
          omega arith;
      whole = whole;
      state = sym full ∙ ap (λ (n : ℕ). n * g.state.ws) two;
      units = even_times (length f.state) g.state.es a.state_units_lem;
      unit = omega (arith, e, mul-le-mul_right g.state.ws n);
      room = omega (arith, a.state_words);
    }
