-- What a log tells: its marks are the progress, so with two for each page the flash is the swap table; what the first runs of a device
-- log is a yes, whatever the images hold; and single logs. Assumes nothing.
use mathlib.Core.Path.{◌≡◌, refl, sym, ap, ap₂, ◌∙◌, subst}
use mathlib.Core.Bool.{Bool, true, false}
use mathlib.Core.List.{List, [], ◌∷◌, map, ◌++◌}
use Prim.Native.Nat.{ℕ, zero, suc, ◌+◌, ◌-◌, ◌*◌, ◌≤◌, ◌<◌}
use native.Mathlib.Nat.{lt_of_not-le, zero-add}
use native.Mathlib.Decide.{dec_le, dec_lt}
use native.Mathlib.Omega.{arith}
use lib.Dec.{eqb}
use lib.ListN.{length, take, length-map}
use lib.Seq.{take-nil, take_at, take-append-le, take-append-add}
use borrow.Author.Tests.{eq-eqb, ne_eqb}
use Rattle.state.specs.Choice.{pick}
use Rattle.geometry.specs.declared.Geometry.{Geometry}
use Rattle.geometry.specs.Geometry.{pages}
use Rattle.mem_flash.specs.Flash.{Area, active, dfu, state, Flash, Op, erase, write}
use Rattle.rules.specs.Steps.{Copy, swap_from, page_count}
use Rattle.rules.specs.Power.{swap_table}
use Rattle.way.proofs.Tables.{swap_count}
use Rattle.power.specs.Power.{Marked, runs}
use Rattle.power.proofs.Start.{state_bytes}
use Rattle.log_steps.specs.Entries.{Entry}
use Rattle.log_steps.specs.Steps.{Step}
use Rattle.log_steps.specs.Entries.{area_number, entry_of, written}
use Rattle.log_steps.specs.Steps.{step_of, nth, size}
use Rattle.log_steps.proofs.Entries.{nth_erase, nth_write, nth_mark}
use Rattle.power_log.specs.declared.LogAnswer.{LogAnswer}
use Rattle.power_log.specs.declared.LogAnswer.TheVariants.{Yes, No, Refused}
use Rattle.power_log.specs.Log.{joined, Swapping, InSwap, answer_yes, most_entries}
use Rattle.power_log.specs.Tells.{whole_steps, Tells, Names, AnyImages, Known, Edges, FirstRuns}
use Rattle.power_log.proofs.Budgets.{up_to, step_log, table_log, left_by, budget_log, StepsLeft, left_after, left_more, left_same, up_length, step_length}
use Rattle.power_log.proofs.Readable.{Told, AllTold, all_left}
use Rattle.power_log.proofs.StepLogs.{up_append}
use Rattle.power_log.proofs.Stands.{Stand, stand_end, stand_count}
use Rattle.power_log.proofs.Written.{written_length, written_once}
use Rattle.power_log.proofs.Judges.{start_runs, start_left, from_start, start_told, start_whole, not_refused}

-- ---- the marks of a log

steps_append : (xs ys : List Entry) → whole_steps (xs ++ ys) ≡ whole_steps xs + whole_steps ys
unfolding whole_steps pick
steps_append [] ys = sym (zero-add (whole_steps ys))
steps_append (x ∷ xs) ys = go (eqb x.area (area_number state)) (steps_append xs ys)
  where
    go : (b : Bool) → whole_steps (xs ++ ys) ≡ whole_steps xs + whole_steps ys
        → pick b (suc (whole_steps (xs ++ ys))) (whole_steps (xs ++ ys)) ≡ pick b (suc (whole_steps xs)) (whole_steps xs) + whole_steps ys
    go true e = omega (arith, e)
    go false e = e

-- a mark counts, and an entry of an image does not
step_counts : (x : Entry) (es : List Entry) → x.area ≡ 2 → whole_steps (x ∷ es) ≡ suc (whole_steps es)
unfolding whole_steps pick area_number
step_counts x es e = rw (eq-eqb x.area 2 e)

step_other : (x : Entry) (es : List Entry) → x.area < 2 → whole_steps (x ∷ es) ≡ whole_steps es
unfolding whole_steps pick area_number
step_other x es e = rw (ne_eqb x.area 2 (λ z. omega arith))

module _ (s : Step) (t : Told s) where
  image_entry : (j : ℕ) → j < s.units + s.chunks → (nth s j).area < 2
  image_entry j h = go (dec_lt j s.units)
    where
      go : Dec (j < s.units) → (nth s j).area < 2
      go (yes l) = subst (λ (x : Entry). x.area < 2) (nth_erase s j l) t.image
      go (no l) = subst (λ (x : Entry). x.area < 2) (nth_write s j (omega (arith, l)) (omega (arith, l, h))) t.image

  none_marked : (i n : ℕ) → i + n ≤ s.units + s.chunks → whole_steps (up_to s i n) ≡ 0
  unfolding up_to whole_steps
  none_marked i zero h = refl
  none_marked i (suc n) h = step_other (nth s i) (up_to s (suc i) n) (image_entry i (omega (arith, h))) ∙ none_marked (suc i) n (omega (arith, h))

  one_marked : whole_steps (step_log s) ≡ 1
  unfolding step_log size up_to whole_steps
  one_marked =
      ap whole_steps (up_append s 0 (s.units + s.chunks) 1)
      ∙ steps_append (up_to s 0 (s.units + s.chunks)) (up_to s (0 + (s.units + s.chunks)) 1)
      ∙ ap₂ ◌+◌ (none_marked 0 (s.units + s.chunks) (omega arith))
      (step_counts (nth s (0 + (s.units + s.chunks))) []
      (sym (ap (λ (x : Entry). x.area) (nth_mark s (0 + (s.units + s.chunks)) (omega arith) (omega arith)))))

  -- a part of a step has none
  part_marked : (k : ℕ) → k < size s → whole_steps (take k (step_log s)) ≡ 0
  unfolding step_log size
  part_marked k h =
      let m : ℕ = s.units + s.chunks + 1 - k in
      let e : k + m ≡ s.units + s.chunks + 1 = omega (arith, h) in
      ap (λ (n : ℕ). whole_steps (take k (up_to s 0 n))) (sym e)
      ∙ ap (λ (l : List Entry). whole_steps (take k l)) (up_append s 0 k m)
      ∙ ap whole_steps (take_at (up_to s 0 k) (up_to s (0 + k) m) k (up_length s 0 k))
      ∙ none_marked 0 k (omega (arith, h))

module _ (g : Geometry) where
  -- the whole steps of a run, and those that it leaves, are all
  run_steps : (cs : List Copy) → AllTold g cs → (k : ℕ) → whole_steps (take k (table_log g cs)) + length (left_by g k cs) ≡ length cs
  unfolding table_log left_by AllTold whole_steps
  run_steps [] t k = ap (λ (l : List Entry). whole_steps l + 0) (take-nil k)
  run_steps (c ∷ cs) t k = go (dec_le (size s) k) (λ j. run_steps cs t.1 j)
    where
      s : Step
      s = step_of g c

      long : length (step_log s) ≡ size s
      long = step_length s

      go : Dec (size s ≤ k) → ((j : ℕ) → whole_steps (take j (table_log g cs)) + length (left_by g j cs) ≡ length cs)
          → whole_steps (take k (step_log s ++ table_log g cs)) + length (left_by g k (c ∷ cs)) ≡ suc (length cs)
      go (yes l) rest =
          let j : ℕ = k - size s in
          let e : length (step_log s) + j ≡ k = omega (arith, long) in
          let a : whole_steps (take k (step_log s ++ table_log g cs)) ≡ 1 + whole_steps (take j (table_log g cs)) =
          ap (λ (i : ℕ). whole_steps (take i (step_log s ++ table_log g cs))) (sym e)
          ∙ ap whole_steps (take-append-add (step_log s) (table_log g cs) j)
          ∙ steps_append (step_log s) (take j (table_log g cs))
          ∙ ap (λ (n : ℕ). n + whole_steps (take j (table_log g cs))) (one_marked s t.0) in
          let b : length (left_by g k (c ∷ cs)) ≡ length (left_by g j cs) = ap length (left_more g c cs k j (omega arith)) in
          omega (arith, a, b, rest j)
      go (no l) rest =
          let short : k < size s = lt_of_not-le l in
          let a : whole_steps (take k (step_log s ++ table_log g cs)) ≡ 0 =
          ap whole_steps (take-append-le k (step_log s) (table_log g cs) (omega (arith, long, short))) ∙ part_marked s t.0 k short in
          let b : length (left_by g k (c ∷ cs)) ≡ suc (length cs) = ap length (left_same g c cs k short) in
          omega (arith, a, b)

  runs_steps : (ks : List ℕ) (cs : List Copy) → AllTold g cs → whole_steps (budget_log g ks cs) + length (left_after g ks cs) ≡ length cs
  unfolding budget_log left_after whole_steps
  runs_steps [] cs t = zero-add (length cs)
  runs_steps (k ∷ ks) cs t =
      let a = steps_append (take k (table_log g cs)) (budget_log g ks (left_by g k cs)) in
      let b = runs_steps ks (left_by g k cs) (all_left g k cs t) in
      let d = run_steps cs t k in
      omega arith

-- ---- what a log tells

no_step : (cs : List Copy) → length cs ≡ 0 → cs ≡ []
no_step [] e = refl
no_step (c ∷ cs) e = absurd (omega (arith, e))

pub tells : (g : Geometry) (f : Flash) → Marked g f → Tells g f
tells g f m ks i =
    let r = start_runs g f m ks i in
    let n = page_count g f in
    let a : whole_steps (map entry_of (joined g ks f)) + length (left_after g ks (swap_from n 0)) ≡ 2 * n =
    ap (λ (es : List Entry). whole_steps es + length (left_after g ks (swap_from n 0))) r.log
    ∙ runs_steps g ks (swap_from n 0) (start_told g f m) ∙ omega (arith, swap_count n 0) in
    let b = stand_count (start_whole g f m) n (state_bytes g f) (swap_table g f) r.leaves in
    record {
      progress = omega (arith, a, b);
      swapped = λ e.
          stand_end
          (subst (λ (cs : List Copy). Stand g n (state_bytes g f) (swap_table g f) (swap_from n 0) cs (runs g ks f))
          (no_step (left_after g ks (swap_from n 0)) (omega (arith, a, e))) r.leaves);
    }

pub names : (g : Geometry) (f : Flash) → Marked g f → Names g f
names g f m es k =
    let e : map entry_of (joined g k.budgets f) ≡ es = written_once _ _ k.leaves in
    let t = tells g f m k.budgets k.in_swap in
    (t.progress ∙ ap whole_steps e, λ n. t.swapped (ap whole_steps e ∙ n))

yes_only : (r : LogAnswer) → answer_yes r ≡ 1 → r ≡ Yes
unfolding answer_yes
yes_only Yes e = refl
yes_only No e = absurd (omega (arith, e))
yes_only (Refused why) e = absurd (omega (arith, e))

pub first_runs : (g : Geometry) (f : Flash) → Marked g f → FirstRuns g f
unfolding most_entries
first_runs g f m ks r i few j =
    let es : List Entry = map entry_of (joined g ks f) in
    let short : length (written es) ≤ 262144 = omega (arith, written_length es, length-map (joined g ks f) entry_of, few) in
    yes_only r
    (j.complete (sym (not_refused g (length f.active) (length f.dfu) (length f.state) (written es) m.admitted short)) f
    (record { marked = m; active = refl; dfu = refl; state = refl })
    (record { budgets = ks; in_swap = i; leaves = refl }))

-- ---- the images' bytes do not matter

pub any_images : (g : Geometry) (la ld ls : ℕ) → AnyImages g la ld ls
unfolding page_count
any_images g la ld ls f h s u ks i =
    let e : page_count g f ≡ page_count g h = ap (pages g) (s.active ∙ sym u.active) in
    let l = subst (λ (n : ℕ). StepsLeft g ks (swap_from n 0)) e (start_left g f s.marked ks i) in
    let a = start_runs g f s.marked ks i in
    let b = from_start g h u.marked ks l in
    record { in_swap = b.in_swap; log = a.log ∙ ap (λ (n : ℕ). budget_log g ks (swap_from n 0)) e ∙ sym b.log }

-- ---- single logs

area_known : (a : Area) → area_number a < 3
unfolding area_number
area_known active = omega arith
area_known dfu = omega arith
area_known state = omega arith

op_known : (o : Op) → ((entry_of o).kind < 2) × ((entry_of o).area < 3)
unfolding entry_of
op_known (erase c a from n) = (omega arith, area_known a)
op_known (write c a at bs) = (omega arith, area_known a)

all_known : (os : List Op) → Known (map entry_of os)
unfolding Known
all_known [] = tt
all_known (o ∷ os) = let k = op_known o in (k.0, k.1, all_known os)

pub edges : (g : Geometry) (f : Flash) → Edges g f
unfolding InSwap joined written Swapping
edges g f =
    record {
      empty = record { budgets = []; in_swap = tt; leaves = refl };
      no_page = λ e log k. sym k.leaves ∙ none e k.budgets k.in_swap;
      known = λ log k. (map entry_of (joined g k.budgets f), all_known (joined g k.budgets f), k.leaves);
    }
  where
    none : page_count g f ≡ 0 → (ks : List ℕ) → InSwap g ks f → written (map entry_of (joined g ks f)) ≡ []
    none e [] i = refl
    none e (k ∷ ks) i = absurd (omega (arith, e, i.0))
