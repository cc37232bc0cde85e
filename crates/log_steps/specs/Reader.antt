-- What the readers do, as functions of the entries. Inner words: `power_log` shows what a log that is read to its end tells of the
-- runs that made it. Assumes nothing.
use Rattle.std.specs.Prelude.{◌≡◌, Bool, true, false, Option, None, Some, List, [], ◌∷◌, ℕ, ◌+◌, ◌*◌, ◌^◌, ◌≤◌, eqb}
use Rattle.state.specs.Choice.{pick}
use Rattle.geometry.specs.declared.Geometry.{Geometry}
use Rattle.geometry.specs.Geometry.{page}
use Rattle.geometry.specs.Admitted.{Numbers}
use Rattle.rules.specs.Steps.{Copy}
use Rattle.log_steps.specs.Entries.{Entry}
use Rattle.log_steps.specs.Steps.{Step, step_of, nth, size}

-- two entries are one
unfoldable pub same : Entry → Entry → Bool
same x y =
    pick (eqb x.kind y.kind)
    (pick (eqb x.area y.area) (pick (eqb x.start y.start) (eqb x.length y.length) false) false)
    false

-- how the reading of a step ends: the log is over, it is wrong, or the step is marked and these entries follow
pub data Reading : Type 0 where
  ends : Reading
  wrong : Reading
  marked : List Entry → Reading

-- how much of a step is read behind an entry, with so much of the present try read before it: the entry goes on with the try, or begins
-- the step again, or can do neither
unfoldable pub tried : Step → ℕ → Entry → Option ℕ
tried s done e = pick (same e (nth s done)) (Some (done + 1)) (pick (same e (nth s 0)) (Some 1) None)

-- what an entry makes of the reading: wrong, or with so much of the step read it goes on
unfoldable pub goes : Option ℕ → (ℕ → Reading) → Reading
goes None on = wrong
goes (Some n) on = on n

-- a step, with so much of the present try read
unfoldable pub read_step : Step → ℕ → List Entry → Reading
read_step s done [] = ends
read_step s done (e ∷ es) = goes (tried s done e) (λ n. pick (eqb n (size s)) (marked es) (read_step s n es))

-- what follows a step
unfoldable pub behind : (List Entry → Bool) → Reading → Bool
behind on ends = true
behind on wrong = false
behind on (marked es) = on es

-- the steps one after the other, and nothing behind the last
unfoldable pub reads : Geometry → List Copy → List Entry → Bool
reads g [] [] = true
reads g [] (e ∷ es) = false
reads g (c ∷ cs) es = behind (λ rest. reads g cs rest) (read_step (step_of g c) 0 es)

-- ---- what the code is given

-- the pages that are left, of p bytes, and their marks from i on fit
pub record Fits (g : Geometry) (p left i : ℕ) : Type 0 where
  pub page : p ≡ page g
  pub numbers : Numbers g
  pub images : left * p + p ≤ 2 ^ 32
  pub marks : (2 + (i + 2 * left)) * g.state.ws ≤ 2 ^ 32
