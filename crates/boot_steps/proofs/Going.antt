-- Laws of steps one after another, from the progress on: a step that goes on or is cut, and where the next one is. Assumes nothing.
use mathlib.Core.Path.{◌≡◌, refl, ap, ◌∙◌, sym}
use mathlib.Core.List.{List, ◌++◌}
use Prim.Native.Nat.{ℕ, suc, ◌+◌, ◌-◌, ◌*◌, ◌/◌, ◌≤◌, ◌<◌}
use native.Mathlib.Omega.{arith}
use lib.ListN.{length}
use lib.Seq.{slice}
use Rattle.geometry.specs.declared.Geometry.{Geometry}
use Rattle.geometry.specs.Geometry.{page, pages}
use Rattle.geometry.specs.Refusals.{boot_words}
use Rattle.geometry.specs.Admitted.{Admitted}
use Rattle.mem_flash.specs.declared.Budget.{Budget}
use Rattle.mem_flash.specs.Run.{Flow, cut}
use Rattle.std.specs.Prelude.{Ok}
use Rattle.mem_flash.specs.Flash.{Flash, Op, apply_all}
use Rattle.mem_flash.specs.Run.{run, Ran}
use Rattle.mem_flash.proofs.Runs.{then_on, then_cut, ran, run_of, on_all}
use Rattle.rules.specs.StateArea.{most_marks, first_open, progress}
use Rattle.rules.specs.Steps.{Copy, all_steps, step_at, copy_ops, copies_ops, page_count, swap_ops, revert_ops}
use Rattle.rules.proofs.MarkWritten.{open_after}
use Rattle.rules.proofs.Tables.{copies_none, copies_do}
use Rattle.rules.proofs.Numbered.{first_half, second_half, next_step, no_step, step_mark, step_image}
use Rattle.rules.proofs.Remembered.{progress_behind, steps_passed}

-- what is left to do from the progress on, done to what is there, ends as the whole does
pub record Going (g : Geometry) (n end : ℕ) (ops : List Op) (k₀ : Budget) (f₀ : Flash) (next : ℕ) (k : Budget) (f : Flash) : Type 0 where
  pub admitted : Admitted g (length f.active) (length f.dfu) (length f.state)
  pub count : n ≡ pages g (length f.active)
  pub few : end ≤ 4 * n
  pub active : length f.active ≡ length f₀.active
  pub dfu : length f.dfu ≡ length f₀.dfu
  pub state : length f.state ≡ length f₀.state
  pub read : next ≡ progress g.state f.state
  pub same : run k₀.0 ops f₀ ≡ run k.0 (copies_ops g (slice next end (all_steps n)) f) f

-- by the page's size as it was computed
pub going_start : (g : Geometry) {p : ℕ} (from end : ℕ) (k : Budget) (f : Flash) → p ≡ page g
    → Admitted g (length f.active) (length f.dfu) (length f.state) → from ≡ progress g.state f.state
    → end ≤ 4 * pages g (length f.active)
    → Going g (length f.active / p) end (copies_ops g (slice from end (all_steps (pages g (length f.active)))) f) k f from k f
unfolding pages
going_start g {p} from end k f e w r h =
    let c : length f.active / p ≡ length f.active / page g = ap (λ (q : ℕ). length f.active / q) e in
    record {
      admitted = w;
      count = c;
      few = rw c h;
      active = refl;
      dfu = refl;
      state = refl;
      read = r;
      same = sym (ap (λ (m : ℕ). run k.0 (copies_ops g (slice from end (all_steps m)) f) f) c);
    }

module _ {g : Geometry} {n end : ℕ} {ops : List Op} {k₀ : Budget} {f₀ : Flash} {next : ℕ} {k : Budget} {f : Flash}
    (w : Going g n end ops k₀ f₀ next k f) where
  pub going_end : end ≤ next → Ran k₀.0 ops f₀ f (Ok k)
  unfolding run
  going_end h = ran _ _ _ _ _ (w.same ∙ rw (no_step n next end h, copies_none))

  module _ (lt : next < end) where
    pub below : next < 4 * n
    below = omega (arith, w.few)

    marked : (step_at n next).mark ≡ next
    marked = step_mark n next below

    -- the step is the progress, so it runs
    runs : copies_ops g (slice next end (all_steps n)) f
        ≡ copy_ops g (step_at n next) f ++ copies_ops g (slice (suc next) end (all_steps n)) (apply_all (copy_ops g (step_at n next) f) f)
    runs =
        ap (λ (cs : List Copy). copies_ops g cs f) (next_step n next end lt w.few)
        ∙ copies_do g (step_at n next) (slice (suc next) end (all_steps n)) f (omega (arith, marked, w.read))

    module _ {f₁ : Flash} {r : Flow} (h : Ran k.0 (copy_ops g (step_at n next) f) f f₁ r) where
      pub going_cut : r ≡ cut → Ran k₀.0 ops f₀ f₁ cut
      going_cut o =
          ran _ _ _ _ _
          (w.same ∙ rw runs (then_cut k.0 (copy_ops g (step_at n next) f) _ f f₁ r (run_of _ _ _ _ _ h) o))

      -- behind it the next one is where the search finds it
      module _ {l : Budget} (o : r ≡ Ok l) {m : ℕ}
          (found : m ≡ first_open g.state f₁.state (most_marks g.state f₁.state - (next + 1)) (next + 1)) where
        left : f₁ ≡ apply_all (copy_ops g (step_at n next) f) f
        left = on_all k.0 (copy_ops g (step_at n next) f) f f₁ r l (run_of _ _ _ _ _ h) o

        pub further : next < m
        further = omega (arith, open_after g.state f₁.state (most_marks g.state f₁.state - (next + 1)) (next + 1))

        again : m ≡ progress g.state f₁.state
        unfolding most_marks boot_words
        again =
            found
            ∙ sym (rw marked at (progress_behind g (step_at n next) f f₁ (step_image n next below) (omega (arith, marked, w.read))
            (omega (arith, marked, below, w.admitted.state_words, w.count)) left))

        carried : run k₀.0 ops f₀ ≡ run l.0 (copies_ops g (slice m end (all_steps n)) f₁) f₁
        carried =
            w.same
            ∙ ap (λ (os : List Op). run k.0 os f) runs
            ∙ then_on k.0 (copy_ops g (step_at n next) f) _ f f₁ r (run_of _ _ _ _ _ h) l o
            ∙ ap (λ (x : Flash). run l.0 (copies_ops g (slice (suc next) end (all_steps n)) x) f₁) (sym left)
            ∙ ap (λ (os : List Op). run l.0 os f₁)
            (steps_passed g n end f₁ w.few (suc next) (omega (arith, again, further))
            ∙ ap (λ (j : ℕ). copies_ops g (slice j end (all_steps n)) f₁) (sym again))

        pub going_turn : length f₁.active ≡ length f.active → length f₁.dfu ≡ length f.dfu → length f₁.state ≡ length f.state
            → Going g n end ops k₀ f₀ m l f₁
        going_turn x y z =
            record {
              admitted = rw (x, y, z) w.admitted;
              count = rw x w.count;
              few = w.few;
              active = x ∙ w.active;
              dfu = y ∙ w.dfu;
              state = z ∙ w.state;
              read = again;
              same = carried;
            }

-- ---- the two tables, from the progress on

module _ (g : Geometry) {k from p : ℕ} {f f₁ : Flash} {r : Flow} (e : p ≡ page g) (read : from ≡ progress g.state f.state) where
  pub swap_whole : Ran k (copies_ops g (slice from (2 * (length f.active / p)) (all_steps (pages g (length f.active)))) f) f f₁ r
      → Ran k (swap_ops g f) f f₁ r
  unfolding swap_ops page_count pages
  swap_whole w =
      let N : ℕ = length f.active / page g in
      let s = ap (λ (cs : List Copy). copies_ops g cs f) (sym (first_half N)) ∙ steps_passed g N (2 * N) f (omega arith) 0 (omega arith) in
      rw (s, ← read) (rw e at w)

  pub revert_whole : 2 * pages g (length f.active) ≤ from
      → Ran k (copies_ops g (slice from (4 * (length f.active / p)) (all_steps (pages g (length f.active)))) f) f f₁ r
      → Ran k (revert_ops g f) f f₁ r
  unfolding revert_ops page_count pages
  revert_whole h w =
      let N : ℕ = length f.active / page g in
      let s = ap (λ (cs : List Copy). copies_ops g cs f) (sym (second_half N)) ∙ steps_passed g N (4 * N) f (omega arith) (2 * N) (omega (arith, read)) in
      rw (s, ← read) (rw e at w)
