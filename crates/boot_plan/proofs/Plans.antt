-- Laws of the two decisions: each way out of a boot's task, of the question after a confirmation that was cut, and of a step's four
-- kinds. Assumes nothing.
use mathlib.Core.Path.{◌≡◌, refl, sym}
use mathlib.Core.Bool.{Bool, true, false}
use mathlib.Core.List.{List}
use Prim.Native.Nat.{ℕ, ◌+◌, ◌-◌, ◌*◌, ◌/◌, ◌%◌, ◌≤◌, ◌<◌}
use native.Mathlib.Nat.{div-add-mod'}
use native.Mathlib.Omega.{arith}
use lib.Dec.{ltb}
use borrow.Author.Tests.{lt-ltb, le-ltb, ltb-false}
use Rattle.state.specs.declared.State.{State}
use Rattle.state.specs.declared.State.TheVariants.{Boot, Swap, Revert, DfuDetach}
use Rattle.state.specs.Choice.{pick}
use Rattle.geometry.specs.declared.StateSizes.{StateSizes}
use Rattle.rules.specs.declared.Task.TheVariants as tasks
use Rattle.rules.specs.StateArea.{valid, marks_done, progress}
use Rattle.rules.specs.Boot.{confirming, task}
use Rattle.rules.specs.Steps.{to_dfu, to_active, step_at}
use Rattle.rules.proofs.Numbered.{swap_dfu, swap_active, revert_dfu, revert_active}
use Rattle.boot_plan.specs.declared.Direction.{Direction}
use Rattle.boot_plan.specs.declared.Direction.TheVariants.{ToActive, ToDfu}
use Rattle.boot_plan.specs.declared.PageCopy.{PageCopy}
use Rattle.boot_plan.specs.Says.{Says, toward}

-- ---- a confirmation that was cut: the three ways out of the question

module _ (z : StateSizes) (n : ℕ) (st : List ℕ) where
  pub counts_still : valid z st ≡ true → false ≡ confirming z n st
  unfolding confirming pick
  counts_still v = sym (rw v)

  module _ (v : valid z st ≡ false) (m : ℕ) (d : m ≡ marks_done z st) where
    pub swap_unfinished : m < 2 * n → false ≡ confirming z n st
    unfolding confirming pick
    swap_unfinished h = sym (rw (v, ← d, lt-ltb _ _ h))

    pub revert_asked : 2 * n ≤ m → ltb m (4 * n) ≡ confirming z n st
    unfolding confirming pick
    revert_asked h = sym (rw (v, ← d, le-ltb _ _ h))

-- ---- a boot's task

-- only Swap acts
pub idle : (s : State) (z : StateSizes) (n : ℕ) (st : List ℕ) → (s ≡ Swap → ⊥) → tasks.Nothing ≡ task s z n st
unfolding task
idle Boot z n st o = refl
idle Swap z n st o = absurd (o refl)
idle Revert z n st o = refl
idle DfuDetach z n st o = refl

module _ {s : State} (z : StateSizes) (n : ℕ) (st : List ℕ) (found : s ≡ Swap) {b : Bool} (asked : b ≡ confirming z n st) where
  pub confirms : b ≡ true → tasks.Confirm ≡ task s z n st
  unfolding task pick
  confirms y = sym (rw (found, ← asked, y))

  module _ (y : b ≡ false) {p : ℕ} (read : p ≡ progress z st) where
    pub swaps : p < 2 * n → tasks.Swap p ≡ task s z n st
    unfolding task pick
    swaps h = sym (rw (found, ← asked, y, ← read, lt-ltb _ _ h))

    pub reverts : 2 * n ≤ p → tasks.Revert p ≡ task s z n st
    unfolding task pick
    reverts h = sym (rw (found, ← asked, y, ← read, le-ltb _ _ h))

-- and what a task that was chosen tells: where it goes on
module _ (s : State) (z : StateSizes) (n : ℕ) (st : List ℕ) {i : ℕ} where
  pub swap_from_lem : task s z n st ≡ tasks.Swap i → i ≡ progress z st
  unfolding task pick
  swap_from_lem = of s
    where
      of : (u : State) → task u z n st ≡ tasks.Swap i → i ≡ progress z st
      of Boot e = cc
      of Swap e = go (confirming z n st) (ltb (progress z st) (2 * n)) e
        where
          go : (a b : Bool) → pick a tasks.Confirm (pick b (tasks.Swap (progress z st)) (tasks.Revert (progress z st))) ≡ tasks.Swap i
              → i ≡ progress z st
          go true b o = cc
          go false true o = cc
          go false false o = cc
      of Revert e = cc
      of DfuDetach e = cc

  pub revert_from_lem : task s z n st ≡ tasks.Revert i → (i ≡ progress z st) × (2 * n ≤ i)
  unfolding task pick
  revert_from_lem = of s
    where
      of : (u : State) → task u z n st ≡ tasks.Revert i → (i ≡ progress z st) × (2 * n ≤ i)
      of Boot e = let y : ◌≡◌ {A = ℕ} 0 1 = cc in absurd (omega arith)
      of Swap e = go (confirming z n st) (ltb (progress z st) (2 * n)) refl e
        where
          go : (a b : Bool) → ltb (progress z st) (2 * n) ≡ b
              → pick a tasks.Confirm (pick b (tasks.Swap (progress z st)) (tasks.Revert (progress z st))) ≡ tasks.Revert i
              → (i ≡ progress z st) × (2 * n ≤ i)
          go true b l o = let y : ◌≡◌ {A = ℕ} 0 1 = cc in absurd (omega arith)
          go false true l o = let y : ◌≡◌ {A = ℕ} 0 1 = cc in absurd (omega arith)
          go false false l o = let y : i ≡ progress z st = cc in (y, omega (arith, ltb-false (progress z st) (2 * n) l))
      of Revert e = let y : ◌≡◌ {A = ℕ} 0 1 = cc in absurd (omega arith)
      of DfuDetach e = let y : ◌≡◌ {A = ℕ} 0 1 = cc in absurd (omega arith)

-- ---- a step

-- a copy of the code, by its numbers
abbrev pub copied : Direction → ℕ → ℕ → ℕ → PageCopy
copied d from to mark = record { direction = d; from = record { 0 = from }; to = record { 0 = to }; mark = record { 0 = mark } }

module _ (n i : ℕ) where
  says_dfu : (k l : ℕ) → step_at n i ≡ to_dfu i k l → Says (copied ToDfu k l (2 + i)) (step_at n i)
  unfolding to_dfu toward
  says_dfu k l e = rw e (record { to = refl; source = refl; target = refl; mark = refl })

  says_active : (k l : ℕ) → step_at n i ≡ to_active i k l → Says (copied ToActive k l (2 + i)) (step_at n i)
  unfolding to_active toward
  says_active k l e = rw e (record { to = refl; source = refl; target = refl; mark = refl })

  -- the four kinds, by the step's turn and by whether it is the turn's first
  module _ (h : i < 2 * n) where
    pub swap_to_dfu : i % 2 ≡ 0 → Says (copied ToDfu (n - 1 - i / 2) (n - 1 - i / 2 + 1) (2 + i)) (step_at n i)
    swap_to_dfu o =
        let e : i / 2 * 2 ≡ i = omega (arith, div-add-mod' i 2) in
        says_dfu _ _ (rw e at (swap_dfu n (i / 2) (omega arith)))

    pub swap_to_active : (i % 2 ≡ 0 → ⊥) → Says (copied ToActive (n - 1 - i / 2) (n - 1 - i / 2) (2 + i)) (step_at n i)
    swap_to_active o =
        let e : i / 2 * 2 + 1 ≡ i = omega (arith, div-add-mod' i 2, o) in
        says_active _ _ (rw e at (swap_active n (i / 2) (omega arith)))

  module _ (h : 2 * n ≤ i) (l : i < 4 * n) where
    pub revert_to_dfu : i % 2 ≡ 0 → Says (copied ToDfu (i / 2 - n) (i / 2 - n) (2 + i)) (step_at n i)
    revert_to_dfu o =
        let e : 2 * n + (i / 2 - n) * 2 ≡ i = omega (arith, div-add-mod' i 2) in
        says_dfu _ _ (rw e at (revert_dfu n (i / 2 - n) (omega (arith, div-add-mod' i 2))))

    pub revert_to_active : (i % 2 ≡ 0 → ⊥) → Says (copied ToActive (i / 2 - n + 1) (i / 2 - n) (2 + i)) (step_at n i)
    revert_to_active o =
        let e : 2 * n + (i / 2 - n) * 2 + 1 ≡ i = omega (arith, div-add-mod' i 2, o) in
        says_active _ _ (rw e at (revert_active n (i / 2 - n) (omega (arith, div-add-mod' i 2))))
