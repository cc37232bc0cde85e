-- Logs without a flash: what runs with these budgets leave in a log, and which steps they leave to do, by the table of steps alone. A run
-- that is cut inside a step leaves that step whole to the next one. Serves the judge, both ways. Assumes nothing.
use mathlib.Core.Path.{◌≡◌, refl, ap}
use mathlib.Core.List.{List, [], ◌∷◌, ◌++◌}
use Prim.Native.Nat.{ℕ, zero, suc, ◌+◌, ◌-◌, ◌<◌}
use native.Mathlib.Omega.{arith}
use lib.Dec.{leb}
use lib.ListN.{length, take}
use borrow.Author.Tests.{le-leb, lt-leb}
use Rattle.state.specs.Choice.{pick}
use Rattle.geometry.specs.declared.Geometry.{Geometry}
use Rattle.rules.specs.Steps.{Copy}
use Rattle.log_steps.specs.Entries.{Entry}
use Rattle.log_steps.specs.Steps.{Step}
use Rattle.log_steps.specs.Steps.{step_of, nth, size}

-- n entries of a step from entry i on
unfoldable pub up_to : Step → ℕ → ℕ → List Entry
up_to s i zero = []
up_to s i (suc n) = nth s i ∷ up_to s (suc i) n

-- the entries of a whole step, and of a table of them
unfoldable pub step_log : Step → List Entry
step_log s = up_to s 0 (size s)

unfoldable pub table_log : Geometry → List Copy → List Entry
table_log g [] = []
table_log g (c ∷ cs) = step_log (step_of g c) ++ table_log g cs

-- the steps that a run with a budget of k leaves
unfoldable pub left_by : Geometry → ℕ → List Copy → List Copy
left_by g k [] = []
left_by g k (c ∷ cs) = pick (leb (size (step_of g c)) k) (left_by g (k - size (step_of g c)) cs) (c ∷ cs)

-- the runs' log, that each has a step left to do, and the steps that are left
unfoldable pub budget_log : Geometry → List ℕ → List Copy → List Entry
budget_log g [] cs = []
budget_log g (k ∷ ks) cs = take k (table_log g cs) ++ budget_log g ks (left_by g k cs)

unfoldable pub StepsLeft : Geometry → List ℕ → List Copy → Type 0
StepsLeft g [] cs = Unit {0}
StepsLeft g (k ∷ ks) cs = (0 < length cs) × StepsLeft g ks (left_by g k cs)

unfoldable pub left_after : Geometry → List ℕ → List Copy → List Copy
left_after g [] cs = cs
left_after g (k ∷ ks) cs = left_after g ks (left_by g k cs)

-- ---- laws

pub left_more : (g : Geometry) (c : Copy) (cs : List Copy) (k j : ℕ) → size (step_of g c) + j ≡ k → left_by g k (c ∷ cs) ≡ left_by g j cs
unfolding left_by pick
left_more g c cs k j e =
    let d : k - size (step_of g c) ≡ j = omega arith in
    rw (le-leb (size (step_of g c)) k (omega arith), d)

pub left_same : (g : Geometry) (c : Copy) (cs : List Copy) (k : ℕ) → k < size (step_of g c) → left_by g k (c ∷ cs) ≡ c ∷ cs
unfolding left_by pick
left_same g c cs k h = rw (lt-leb (size (step_of g c)) k h)

pub size_some : (s : Step) → 0 < size s
unfolding size
size_some s = omega arith

-- a run with no budget
pub left_none : (g : Geometry) (cs : List Copy) → left_by g 0 cs ≡ cs
unfolding left_by
left_none g [] = refl
left_none g (c ∷ cs) = left_same g c cs 0 (size_some (step_of g c))

pub up_length : (s : Step) (i n : ℕ) → length (up_to s i n) ≡ n
unfolding up_to
up_length s i zero = refl
up_length s i (suc n) = ap suc (up_length s (suc i) n)

pub step_length : (s : Step) → length (step_log s) ≡ size s
unfolding step_log
step_length s = up_length s 0 (size s)
