-- Runs from a freshly marked flash, and the same runs without a flash (Budgets): each run leaves the entries, and the steps to do, that its
-- budget says. So the images' bytes do not matter. Serves the judge and `tells`. Assumes nothing.
use mathlib.Core.Path.{◌≡◌, refl, sym, ap, ap₂, ◌∙◌, subst, subst₂}
use mathlib.Core.List.{List, [], ◌∷◌, map, ◌++◌, map-append}
use Prim.Native.Nat.{ℕ, zero, suc, ◌+◌, ◌-◌, ◌*◌, ◌≤◌, ◌<◌}
use native.Mathlib.Nat.{lt_of_not-le}
use native.Mathlib.Decide.{dec_le}
use native.Mathlib.Omega.{arith}
use lib.ListN.{length, take, length-map}
use Rattle.geometry.specs.declared.Geometry.{Geometry}
use Rattle.mem_flash.specs.Flash.{Flash, Op, after}
use Rattle.mem_flash.proofs.After.{after_none, after_within, after_past}
use Rattle.rules.specs.StateArea.{progress}
use Rattle.rules.specs.Steps.{Copy, swap_from, copy_ops, copies_ops}
use Rattle.rules.specs.Boot.{boot_ops, prepare_boot}
use Rattle.rules.proofs.Tables.{copies_skip, copies_do}
use Rattle.way.proofs.Steps.{Whole, Near, step_whole, step_cut_near}
use Rattle.way.proofs.Way.{Reads, Way, Close, close_refl, close_reads}
use Rattle.way.proofs.Tables.{swap_count}
use Rattle.way.proofs.Wanted.{wants_swap}
use Rattle.power.specs.Power.{ran, runs}
use Rattle.power.proofs.Runs.{Admits, ran_after, admits_ran}
use Rattle.log_steps.specs.Entries.{Entry}
use Rattle.log_steps.specs.Entries.{entry_of}
use Rattle.log_steps.specs.Steps.{step_of, size}
use Rattle.power_log.specs.Log.{done, joined, Swapping, InSwap}
use Rattle.power_log.proofs.Budgets.{step_log, table_log, left_by, budget_log, StepsLeft, left_after, left_more, left_same, step_length}
use Rattle.power_log.proofs.StepLogs.{step_log_lem}

map_take : (f : Op → Entry) (k : ℕ) (os : List Op) → map f (take k os) ≡ take k (map f os)
map_take f zero os = refl
map_take f (suc k) [] = refl
map_take f (suc k) (o ∷ os) = ap (λ (l : List Entry). f o ∷ l) (map_take f k os)

-- ---- where in a table of steps a flash stands

-- of the steps `all`, the first of number m, those from number n on are left
pub data Passed : ℕ → List Copy → ℕ → List Copy → Type 0 where
  start : {m : ℕ} {cs : List Copy} → Passed m cs m cs
  past : {m n : ℕ} {c : Copy} {all cs : List Copy} → c.mark ≡ m → Passed (suc m) all n cs → Passed m (c ∷ all) n cs

passed_on : {m n : ℕ} {c : Copy} {all cs : List Copy} → Passed m all n (c ∷ cs) → c.mark ≡ n → Passed m all (suc n) cs
passed_on start e = past e start
passed_on (past d p) e = past d (passed_on p e)

passed_le : {m n : ℕ} {all cs : List Copy} → Passed m all n cs → m ≤ n
passed_le start = omega arith
passed_le (past d p) = let l = passed_le p in omega arith

passed_count : {m n : ℕ} {all cs : List Copy} → Passed m all n cs → n + length cs ≡ m + length all
passed_count start = refl
passed_count (past d p) = let l = passed_count p in omega arith

-- the steps that are passed do nothing
passed_skip : (g : Geometry) (now : Flash) {m n : ℕ} {all cs : List Copy} → Passed m all n cs → progress g.state now.state ≡ n
    → copies_ops g all now ≡ copies_ops g cs now
passed_skip g now start e = refl
passed_skip g now (past {c = c} {all = all} d p) e = let l = passed_le p in copies_skip g c all now (omega (arith, d, e)) ∙ passed_skip g now p e

-- now stands before the steps cs of `all`, on the way to h
pub record Stand (g : Geometry) (N S : ℕ) (h : Flash) (all cs : List Copy) (now : Flash) : Type 0 where
  pub at : ℕ
  pub table : Flash
  pub way : Way g N S at table cs h
  pub close : Close g cs table now
  pub passed : Passed 0 all at cs

-- with no step left it is h
pub stand_end : {g : Geometry} {N S : ℕ} {h : Flash} {all : List Copy} {now : Flash} → Stand g N S h all [] now → now ≡ h
stand_end s = s.close ∙ s.way.1

-- ---- one run

module _ {g : Geometry} (whole : Whole g) (N S : ℕ) (h : Flash) where
  module _ (c : Copy) (cs : List Copy) (m : ℕ) (f now : Flash) (w : Way g N S m f (c ∷ cs) h) (near : Near g c f now) where
    first_run : copies_ops g (c ∷ cs) now ≡ copy_ops g c now ++ copies_ops g cs w.0
    first_run =
        copies_do g c cs now (omega (arith, (close_reads g N S m f (c ∷ cs) h now w near).done, w.1.number))
        ∙ ap (λ (x : Flash). copy_ops g c now ++ copies_ops g cs x) (step_whole whole w.1.fits near ∙ w.1.leads)

    first_log : map entry_of (copy_ops g c now) ≡ step_log (step_of g c)
    first_log = step_log_lem whole w.1.fits near

    first_count : length (copy_ops g c now) ≡ size (step_of g c)
    first_count = sym (length-map (copy_ops g c now) entry_of) ∙ ap length first_log ∙ step_length (step_of g c)

  -- the entries of a run without a budget are those of the table
  table_log_lem : (cs : List Copy) (m : ℕ) (f now : Flash) → Way g N S m f cs h → Close g cs f now → map entry_of (copies_ops g cs now) ≡ table_log g cs
  unfolding copies_ops table_log
  table_log_lem [] m f now w close = refl
  table_log_lem (c ∷ cs) m f now w near =
      ap (λ (os : List Op). map entry_of os) (first_run c cs m f now w near)
      ∙ map-append entry_of (copy_ops g c now) (copies_ops g cs w.0)
      ∙ ap₂ ◌++◌ (first_log c cs m f now w near) (table_log_lem cs (suc m) w.0 w.0 w.2 (close_refl g cs w.0))

  -- a run leaves the steps that its budget leaves
  run_leaves : {all : List Copy} (cs : List Copy) (m : ℕ) (f now : Flash) → Way g N S m f cs h → Close g cs f now → Passed 0 all m cs → (k : ℕ)
      → Stand g N S h all (left_by g k cs) (after k (copies_ops g cs now) now)
  unfolding copies_ops left_by
  run_leaves [] m f now w close p k = record { at = m; table = f; way = w; close = after_none k now ∙ close; passed = p }
  run_leaves {all} (c ∷ cs) m f now w near p k =
      subst (λ (os : List Op). Stand g N S h all (left_by g k (c ∷ cs)) (after k os now)) (sym (first_run c cs m f now w near))
      (go (dec_le (size (step_of g c)) k)
      (λ j. run_leaves cs (suc m) next next w.2 (close_refl g cs next) (passed_on p w.1.number) j))
    where
      next : Flash
      next = w.0

      first : List Op
      first = copy_ops g c now

      count : length first ≡ size (step_of g c)
      count = first_count c cs m f now w near

      go : Dec (size (step_of g c) ≤ k) → ((j : ℕ) → Stand g N S h all (left_by g j cs) (after j (copies_ops g cs next) next))
          → Stand g N S h all (left_by g k (c ∷ cs)) (after k (first ++ copies_ops g cs next) now)
      go (yes l) rest =
          let j : ℕ = k - size (step_of g c) in
          let e : length first + j ≡ k = omega (arith, count) in
          subst₂ (Stand g N S h all) (sym (left_more g c cs k j (omega arith)))
          (sym (ap (λ (i : ℕ). after i (first ++ copies_ops g cs next) now) (sym e) ∙ after_past j first (copies_ops g cs next) now
          ∙ ap (after j (copies_ops g cs next)) (step_whole whole w.1.fits near ∙ w.1.leads)))
          (rest j)
      go (no l) rest =
          let short : k < length first = omega (arith, count, lt_of_not-le l) in
          subst (λ (l : List Copy). Stand g N S h all l (after k (first ++ copies_ops g cs next) now)) (sym (left_same g c cs k (lt_of_not-le l)))
          (record {
            at = m;
            table = f;
            way = w;
            close =
                subst (λ (x : Flash). Near g c f x) (sym (after_within k first (copies_ops g cs next) now short))
                (step_cut_near whole w.1.fits near k short);
            passed = p;
          })

-- ---- any runs

-- runs with a step left to each do what their budgets say
pub record RunsBy (g : Geometry) (N S : ℕ) (h : Flash) (cs : List Copy) (ks : List ℕ) (now : Flash) : Type 0 where
  pub in_swap : InSwap g ks now
  pub log : map entry_of (joined g ks now) ≡ budget_log g ks cs
  pub leaves : Stand g N S h (swap_from N 0) (left_after g ks cs) (runs g ks now)

module _ {g : Geometry} (whole : Whole g) (N S : ℕ) (h : Flash) where
  module _ {cs : List Copy} {now : Flash} (s : Stand g N S h (swap_from N 0) cs now) where
    stand_reads : Reads g N S s.at now
    stand_reads = close_reads g N S s.at s.table cs h now s.way s.close

    -- the steps done and the steps left are all of them
    pub stand_count : progress g.state now.state + length cs ≡ 2 * N
    stand_count = omega (arith, stand_reads.done, passed_count s.passed, swap_count N 0)

    -- so the swap is not finished just if a step is left
    stand_swaps : Swapping g now → 0 < length cs
    unfolding Swapping
    stand_swaps l = omega (arith, l, stand_count, stand_reads.paged)

    swaps_stand : 0 < length cs → Swapping g now
    unfolding Swapping
    swaps_stand l = omega (arith, l, stand_count, stand_reads.paged)

    module _ (more : 0 < length cs) where
      stand_ops : boot_ops g now ≡ copies_ops g cs now
      stand_ops =
          let r = stand_reads in
          wants_swap r (omega (arith, passed_count s.passed, swap_count N 0))
          ∙ passed_skip g now s.passed r.done

      stand_log : (k : ℕ) → map entry_of (done g k now) ≡ take k (table_log g cs)
      unfolding done prepare_boot
      stand_log k =
          map_take entry_of k (boot_ops g now)
          ∙ ap (λ (os : List Op). take k (map entry_of os)) stand_ops
          ∙ ap (take k) (table_log_lem whole N S h cs s.at s.table now s.way s.close)

      stand_run : Admits g now → (k : ℕ) → Stand g N S h (swap_from N 0) (left_by g k cs) (ran g k now)
      stand_run a k =
          subst (Stand g N S h (swap_from N 0) (left_by g k cs))
          (ap (λ (os : List Op). after k os now) (sym stand_ops) ∙ sym (ran_after g k now a))
          (run_leaves whole N S h cs s.at s.table now s.way s.close s.passed k)

  pub runs_by : (ks : List ℕ) (cs : List Copy) (now : Flash) → Admits g now → Stand g N S h (swap_from N 0) cs now → StepsLeft g ks cs → RunsBy g N S h cs ks now
  unfolding InSwap joined budget_log left_after runs StepsLeft
  runs_by [] cs now a s l = record { in_swap = tt; log = refl; leaves = s }
  runs_by (k ∷ ks) cs now a s l =
      let r = runs_by ks (left_by g k cs) (ran g k now) (admits_ran g k now a) (stand_run s l.0 a k) l.1 in
      record {
        in_swap = (swaps_stand s l.0, r.in_swap);
        log = map-append entry_of (done g k now) (joined g ks (ran g k now)) ∙ ap₂ ◌++◌ (stand_log s l.0 k) r.log;
        leaves = r.leaves;
      }

  -- and runs that start before the swap is finished have one
  pub swap_left : (ks : List ℕ) (cs : List Copy) (now : Flash) → Admits g now → Stand g N S h (swap_from N 0) cs now → InSwap g ks now → StepsLeft g ks cs
  unfolding InSwap StepsLeft
  swap_left [] cs now a s l = tt
  swap_left (k ∷ ks) cs now a s l =
      let more = stand_swaps s l.0 in
      (more, swap_left ks (left_by g k cs) (ran g k now) (admits_ran g k now a) (stand_run s more a k) l.1)
