-- The two step readers: what each makes of how its step is read, what it hands over, and how far they come together. Serves `to_dfu`,
-- `to_active` and `read_swap`. Assumes nothing.
use mathlib.Core.Path.{◌≡◌, refl, sym, ap, ap₂, ◌∙◌}
use mathlib.Core.Bool.{Bool, true, false}
use mathlib.Core.List.{List, [], ◌∷◌}
use Prim.Native.Nat.{ℕ, zero, suc, ◌+◌, ◌-◌, ◌<◌}
use native.Mathlib.Omega.{arith}
use lib.ListN.{length}
use Rattle.std.specs.Prelude.{Option, None, Some, Result, Ok, Err, IsErr, MatchOption}
use Rattle.geometry.specs.declared.Geometry.{Geometry}
use Rattle.geometry.specs.Geometry.{page}
use Rattle.rules.specs.Steps.{Copy, to_dfu, to_active, swap_from, unit_of}
use Rattle.log_steps.specs.declared.Misfit.{Misfit}
use Rattle.log_steps.specs.declared.Reader.{Reader}
use Rattle.log_steps.specs.Entries.{Entry, area_number, entries}
use Rattle.log_steps.specs.Steps.{Step, step_for, step_of}
use Rattle.log_steps.specs.Reader.{ends, wrong, marked, read_step, behind, reads}
use Rattle.log_steps.specs.Code.{to_read, Reaches}

-- ---- the steps

-- with no page left, a log that goes on is wrong
module _ (g : Geometry) (log : List (List ℕ)) (left i : ℕ) (z : left ≡ 0) where
  pub none_ends : length log ≡ 0 → reads g (swap_from left i) (entries log) ≡ true
  unfolding swap_from reads entries
  none_ends h = ap (λ (n : ℕ). reads g (swap_from n i) (entries log)) z ∙ go log h
    where
      go : (l : List (List ℕ)) → length l ≡ 0 → reads g [] (entries l) ≡ true
      go [] h = refl
      go (row ∷ l) h = absurd (omega (arith, h))

  pub none_wrong : (length log ≡ 0 → ⊥) → reads g (swap_from left i) (entries log) ≡ false
  unfolding swap_from reads entries
  none_wrong h = ap (λ (n : ℕ). reads g (swap_from n i) (entries log)) z ∙ go log h
    where
      go : (l : List (List ℕ)) → (length l ≡ 0 → ⊥) → reads g [] (entries l) ≡ false
      go [] h = absurd (h refl)
      go (row ∷ l) h = refl

-- with some, the last of them goes to DFU, then to active, and the pages below it are left
pub swap_reads : (g : Geometry) (left i : ℕ) (es : List Entry) → (left ≡ 0 → ⊥)
    → reads g (swap_from left i) es ≡ reads g (to_dfu i (left - 1) left ∷ to_active (i + 1) (left - 1) (left - 1) ∷ swap_from (left - 1) (i + 1 + 1)) es
unfolding swap_from
swap_reads g zero i es h = absurd (h refl)
swap_reads g (suc k) i es h =
    let a : k + 1 ≡ suc k = omega arith in
    let b : i + 2 ≡ i + 1 + 1 = omega arith in
    let c : k ≡ suc k - 1 = omega arith in
    ap₂ (λ (n m : ℕ). reads g (to_dfu i k n ∷ to_active (i + 1) k k ∷ swap_from k m) es) a b
    ∙ ap (λ (j : ℕ). reads g (to_dfu i j (suc k) ∷ to_active (i + 1) j j ∷ swap_from j (i + 1 + 1)) es) c

-- what a step of the code is in the table
pub dfu_step : (g : Geometry) (left i : ℕ) {p : ℕ} {s : Step} → p ≡ page g → s ≡ step_for g p 1 g.ed left (2 + i) → s ≡ step_of g (to_dfu i (left - 1) left)
unfolding step_of to_dfu area_number unit_of
dfu_step g left i e d = d ∙ ap (λ (n : ℕ). step_for g n 1 g.ed left (2 + i)) e

pub active_step : (g : Geometry) (left i : ℕ) {p : ℕ} {s : Step} → p ≡ page g → s ≡ step_for g p 0 g.ea left (2 + i) → s ≡ step_of g (to_active i left left)
unfolding step_of to_active area_number unit_of
active_step g left i e d = d ∙ ap (λ (n : ℕ). step_for g n 0 g.ea left (2 + i)) e

-- ---- a step read

module _ (g : Geometry) (c : Copy) (cs : List Copy) (es : List Entry) {s : Step} (q : s ≡ step_of g c) where
  pub step_ends : read_step s 0 es ≡ ends → reads g (c ∷ cs) es ≡ true
  unfolding reads behind
  step_ends d = ap (behind (λ rest. reads g cs rest)) (ap (λ (x : Step). read_step x 0 es) (sym q) ∙ d)

  pub step_wrong : read_step s 0 es ≡ wrong → reads g (c ∷ cs) es ≡ false
  unfolding reads behind
  step_wrong d = ap (behind (λ rest. reads g cs rest)) (ap (λ (x : Step). read_step x 0 es) (sym q) ∙ d)

  -- what the other reader makes of the rest is what this one makes of the whole
  pub step_marked : {rest : List Entry} → read_step s 0 es ≡ marked rest → reads g cs rest ≡ reads g (c ∷ cs) es
  unfolding reads behind
  step_marked d = sym (ap (behind (λ rest. reads g cs rest)) (ap (λ (x : Step). read_step x 0 es) (sym q) ∙ d))

-- ---- how far the readers come

-- an answer that the code leaves with by a `?`
pub reaches_wrong : (log : List (List ℕ)) (deep : ℕ) (whole : Bool) (a : Result (Option Reader) Misfit) → IsErr a → whole ≡ false
    → Reaches log deep whole a
reaches_wrong log deep whole (Ok o) h e = cc
reaches_wrong log deep whole (Err x) h e = e

-- where one comes in a rest of the log, behind a step that was read, the other comes in the whole
pub reach_on : (log rest : List (List ℕ)) (deep d : ℕ) (whole part : Bool) (a : Result (Option Reader) Misfit)
    → length rest < length log → part ≡ whole → Reaches rest d part a → Reaches log deep whole a
reach_on log rest deep d whole part (Ok None) l q h = sym q ∙ h
reach_on log rest deep d whole part (Ok (Some r)) l q h =
    record { reads = h.reads ∙ q; later = λ z. omega (arith, h.back, l); back = omega (arith, h.back, l) }
reach_on log rest deep d whole part (Err x) l q h = sym q ∙ h

-- the loop over them: what is left is the whole
abbrev pub Still : Bool → Option Reader → Type 0
Still whole o = MatchOption o (whole ≡ true) (λ r. to_read r ≡ whole)

-- and there is less of it each time
abbrev pub to_go : Option Reader → ℕ
to_go None = 0
to_go (Some r) = length r.log.now + 1

-- what the two readers' goals are shown by
pub ruleset turns = (none_ends, none_wrong, swap_reads, dfu_step, active_step, step_ends, step_wrong, step_marked, reaches_wrong, reach_on)
