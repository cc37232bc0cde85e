-- Every step of an admitted boot has room: from the facts of `Admitted`, the bounds that the code's arithmetic and parts of
-- slices want. Assumes nothing.
use mathlib.Core.Path.{◌≡◌, ◌∙◌, sym}
use Prim.Native.Nat.{ℕ, ◌+◌, ◌*◌, ◌/◌, ◌≤◌, ◌<◌, ◌^◌}
use native.Mathlib.Nat.{mul-le-mul_right, div-mul-le_self, div-le_self}
use native.Mathlib.Omega.{arith}
use Rattle.geometry.specs.declared.Geometry.{Geometry}
use Rattle.geometry.specs.Geometry.{page, pages, words}
use Rattle.geometry.specs.Refusals.{most_length, boot_words}
use Rattle.geometry.specs.Admitted.{Admitted}
use Rattle.geometry.proofs.Tests.{even_times}
use Rattle.mem_flash.specs.Flash.{active, dfu}
use Rattle.rules.specs.Steps.{step_at}
use Rattle.rules.proofs.Numbered.{step_mark, Between, step_between}
use Rattle.boot_plan.specs.declared.Direction.TheVariants.{ToActive, ToDfu}
use Rattle.boot_plan.specs.declared.PageCopy.{PageCopy}
use Rattle.boot_plan.specs.Says.{Says, toward}
use Rattle.boot_steps.specs.Step.{StepRoom}

module _ {g : Geometry} {a d s : ℕ} (w : Admitted g a d s) where
  -- four steps to a page, counted with the words in front of the marks, fit
  pub pages_few : 4 * pages g a + 2 < 2 ^ 64
  unfolding most_length pages
  pages_few = omega (arith, w.active_most, div-le_self a (page g))

  -- by the page's size as it was computed
  pub steps_few : {p : ℕ} → p ≡ page g → 4 * (a / p) < 2 ^ 64
  unfolding pages
  steps_few e = rw e (omega (arith, pages_few))

  module _ {n : ℕ} (e : n ≡ pages g a) where
    -- the mark of a step lies within the state area, and so does the one behind the last
    pub mark_in : (i : ℕ) → i ≤ 4 * n → (3 + i) * g.state.ws ≤ s
    unfolding boot_words words
    mark_in i h =
        let m : (3 + i) * g.state.ws ≤ s / g.state.ws * g.state.ws = mul-le-mul_right g.state.ws (omega (arith, w.state_words, e)) in
        omega (arith, div-mul-le_self s g.state.ws)

    -- k pages of active, which are no more than it has
    pages_in : (k : ℕ) → k ≤ n → k * page g ≤ a
    unfolding pages
    pages_in k h =
        let m : k * page g ≤ a / page g * page g = mul-le-mul_right (page g) (omega (arith, e)) in
        omega (arith, div-mul-le_self a (page g))

    module _ {c : PageCopy} {i : ℕ} (h : i < 4 * n) (y : Says c (step_at n i)) where
      step_room : {m l : ℕ} → c.from.0 * page g + page g ≤ m → c.to.0 * page g + page g ≤ l → StepRoom g c m l s
      step_room p q =
          let o : c.mark.0 ≡ 2 + i = omega (arith, y.mark, step_mark n i h) in
          record {
            pages = record { chunk = w.numbers.b.some; chunks = even_times _ _ w.page_b; source = p; target = q };
            mark = rw o (omega (arith, mark_in i (omega arith)));
          }

      -- active has pages 0 to n - 1, and DFU one more
      pub room_to_dfu : c.direction ≡ ToDfu → StepRoom g c a d s
      unfolding toward
      room_to_dfu z =
          let t : (step_at n i).to ≡ dfu = sym y.to ∙ (rw z) in
          let b : Between n (step_at n i) dfu = rw t at (step_between n i h) in
          step_room
          (rw y.source (omega (arith, pages_in ((step_at n i).source + 1) (omega (arith, b.0)))))
          (rw y.target (omega (arith, pages_in (step_at n i).target b.1, w.dfu_longer)))

      pub room_to_active : c.direction ≡ ToActive → StepRoom g c d a s
      unfolding toward
      room_to_active z =
          let t : (step_at n i).to ≡ active = sym y.to ∙ (rw z) in
          let b : Between n (step_at n i) active = rw t at (step_between n i h) in
          step_room
          (rw y.source (omega (arith, pages_in (step_at n i).source b.0, w.dfu_longer)))
          (rw y.target (omega (arith, pages_in ((step_at n i).target + 1) (omega (arith, b.1)))))
