-- The reader takes exactly the logs that some budgets make. Where an entry is neither what follows in the try nor the step's first, no
-- run can have left it; and where it is the first, the step was begun again, since no later entry of a step is like its first. Serves the
-- judge. Assumes nothing.
use mathlib.Core.Path.{◌≡◌, refl, sym, ap, ap₂, ◌∙◌, subst}
use mathlib.Core.Bool.{Bool, true, false}
use mathlib.Core.List.{List, [], ◌∷◌, ◌++◌}
use Prim.Native.Nat.{ℕ, zero, suc, ◌+◌, ◌-◌, ◌<◌}
use native.Mathlib.Nat.{zero-add}
use native.Mathlib.Decide.{ℕ_discrete}
use native.Mathlib.Numerals.{add-one}
use native.Mathlib.Omega.{arith}
use lib.Dec.{eqb, leb}
use lib.ListN.{take}
use lib.Seq.{take-nil}
use borrow.Author.Tests.{eq-eqb, eqb-true}
use Rattle.state.specs.Choice.{pick}
use Rattle.geometry.specs.declared.Geometry.{Geometry}
use Rattle.rules.specs.Steps.{Copy}
use Rattle.log_steps.specs.Entries.{Entry}
use Rattle.log_steps.specs.Steps.{Step}
use Rattle.log_steps.specs.Entries.{entry}
use Rattle.log_steps.specs.Steps.{step_of, nth, size}
use Rattle.log_steps.specs.Reader.{same, Reading, wrong, marked, read_step, behind, reads}
use Rattle.log_steps.proofs.Reading.{tried_on, tried_again, tried_no, turn_wrong, turn_marked, turn_on}
use Rattle.power_log.proofs.Budgets.{up_to, step_log, table_log, left_by, budget_log, StepsLeft, left_more, left_same, left_none, size_some}

-- ---- entries compared

pub same_refl : (x : Entry) → true ≡ same x x
unfolding same pick
same_refl x =
    rw (eq-eqb x.kind x.kind refl, eq-eqb x.area x.area refl, eq-eqb x.start x.start refl, eq-eqb x.length x.length refl)

pub same_is : (x y : Entry) → same x y ≡ true → x ≡ y
unfolding same pick
same_is x y h =
    go (eqb x.kind y.kind) (eqb x.area y.area) (eqb x.start y.start) (eqb x.length y.length) refl refl refl refl h
  where
    go : (a b c d : Bool) → eqb x.kind y.kind ≡ a → eqb x.area y.area ≡ b → eqb x.start y.start ≡ c
        → eqb x.length y.length ≡ d → pick a (pick b (pick c d false) false) false ≡ true → x ≡ y
    go true true true true p q r s h =
        ap₂ (λ (k a : ℕ). entry k a x.start x.length) (eqb-true x.kind y.kind p) (eqb-true x.area y.area q)
        ∙ ap₂ (λ (b n : ℕ). entry y.kind y.area b n) (eqb-true x.start y.start r) (eqb-true x.length y.length s)
    go true true true false p q r s h = cc
    go true true false d p q r s h = cc
    go true false c d p q r s h = cc
    go false b c d p q r s h = cc

-- what the reader tells a step by: it has more entries than one, no later one is like its first, and its page is one of an image's
pub record Told (s : Step) : Type 0 where
  pub more : 1 < size s
  pub apart : (j : ℕ) → 0 < j → j < size s → same (nth s 0) (nth s j) ≡ false
  pub image : s.area < 2

unfoldable pub AllTold : Geometry → List Copy → Type 0
AllTold g [] = Unit {0}
AllTold g (c ∷ cs) = Told (step_of g c) × AllTold g cs

-- ---- a log that budgets make is read

module _ (g : Geometry) where
  -- the rest of a log is read from inside a step
  abbrev ReadsIn : Step → List Copy → ℕ → List Entry → Type 0
  ReadsIn s cs done es = behind (λ rest. reads g cs rest) (read_step s done es) ≡ true

  no_wrong : {A : Type 0} (on : List Entry → Bool) (r : Reading) → r ≡ wrong → behind on r ≡ true → A
  unfolding behind
  no_wrong on r e h = let x : false ≡ true = sym (ap (behind on) e) ∙ h in let z : ◌≡◌ {A = ℕ} 0 1 = cc in absurd (omega arith)

  -- from inside a step it can be begun again
  again : (s : Step) (cs : List Copy) → Told s → (done : ℕ) → done < size s → (es : List Entry) → ReadsIn s cs 0 es → ReadsIn s cs done es
  unfolding read_step behind
  again s cs t done h [] r = refl
  again s cs t done h (x ∷ es) r = go (same x (nth s 0)) refl (ℕ_discrete done 0)
    where
      go : (b : Bool) → same x (nth s 0) ≡ b → Dec (done ≡ 0) → ReadsIn s cs done (x ∷ es)
      go b e (yes z) = subst (λ (d : ℕ). ReadsIn s cs d (x ∷ es)) (sym z) r
      go false e (no z) = no_wrong (λ rest. reads g cs rest) _ (turn_wrong s 0 x es (tried_no s 0 x (sym e) (sym e))) r
      go true e (no z) =
          let first : x ≡ nth s 0 = same_is x (nth s 0) e in
          let other : same x (nth s done) ≡ false = ap (λ (y : Entry). same y (nth s done)) first ∙ t.apart done (omega (arith, z)) h in
          let big : 1 ≡ size s → ⊥ = λ q. omega (arith, t.more, q) in
          let a = turn_on s done x es 1 (tried_again s done x (sym other) (sym e)) big in
          let b = turn_on s 0 x es 1 (tried_on s 0 x (sym e)) big in
          ap (behind (λ rest. reads g cs rest)) (a ∙ sym b) ∙ r

  -- the try goes on: to the next entry, or to the mark
  on_next : (s : Step) (done : ℕ) (x : Entry) (es : List Entry) → same x (nth s done) ≡ true → suc done < size s
      → read_step s done (x ∷ es) ≡ read_step s (suc done) es
  on_next s done x es e h =
      turn_on s done x es (done + 1) (tried_on s done x (sym e)) (λ q. omega (arith, q, h)) ∙ ap (λ (d : ℕ). read_step s d es) (add-one done)

  on_mark : (s : Step) (done : ℕ) (x : Entry) (es : List Entry) → same x (nth s done) ≡ true → suc done ≡ size s
      → read_step s done (x ∷ es) ≡ marked es
  on_mark s done x es e h = turn_marked s done x es (done + 1) (tried_on s done x (sym e)) (add-one done ∙ h)

  -- a run goes on with the try, through the steps that it has the budget for; behind it the reader goes on with what is left
  walk : (c : Copy) (cs : List Copy) (es : List Entry) → Told (step_of g c)
      → ((k : ℕ) → reads g (left_by g k cs) es ≡ true → reads g cs (take k (table_log g cs) ++ es) ≡ true)
      → (n done k : ℕ) → done + suc n ≡ size (step_of g c) → reads g (left_by g (done + k) (c ∷ cs)) es ≡ true
      → ReadsIn (step_of g c) cs done (take k (up_to (step_of g c) done (suc n) ++ table_log g cs) ++ es)
  unfolding up_to reads behind
  walk c cs es t rest n done zero e r =
      again (step_of g c) cs t done (omega arith) es
      (subst (λ (l : List Copy). reads g l es ≡ true) (left_same g c cs (done + 0) (omega (arith, e))) r)
  walk c cs es t rest zero done (suc k) e r =
      ap (behind (λ rest. reads g cs rest)) (on_mark (step_of g c) done _ _ (sym (same_refl _)) (omega (arith, e)))
      ∙ rest k (subst (λ (l : List Copy). reads g l es ≡ true) (left_more g c cs (done + suc k) k (omega (arith, e))) r)
  walk c cs es t rest (suc n) done (suc k) e r =
      ap (behind (λ rest. reads g cs rest)) (on_next (step_of g c) done _ _ (sym (same_refl _)) (omega (arith, e)))
      ∙ walk c cs es t rest n (suc done) k (omega (arith, e))
      (subst (λ (j : ℕ). reads g (left_by g j (c ∷ cs)) es ≡ true) (omega arith) r)

  one_run : (cs : List Copy) (es : List Entry) → AllTold g cs → (k : ℕ) → reads g (left_by g k cs) es ≡ true
      → reads g cs (take k (table_log g cs) ++ es) ≡ true
  unfolding left_by table_log AllTold step_log reads
  one_run [] es t k r = subst (λ (l : List Entry). reads g [] (l ++ es) ≡ true) (sym (take-nil k)) r
  one_run (c ∷ cs) es t k r =
      let n : ℕ = size (step_of g c) - 1 in
      let e : suc n ≡ size (step_of g c) = let z = size_some (step_of g c) in omega arith in
      subst (λ (m : ℕ). ReadsIn (step_of g c) cs 0 (take k (up_to (step_of g c) 0 m ++ table_log g cs) ++ es)) e
      (walk c cs es t.0 (one_run cs es t.1) n 0 k (omega (arith, e))
      (subst (λ (j : ℕ). reads g (left_by g j (c ∷ cs)) es ≡ true) (sym (zero-add k)) r))

  reads_none : (cs : List Copy) → reads g cs [] ≡ true
  unfolding reads read_step behind
  reads_none [] = refl
  reads_none (c ∷ cs) = refl

  pub all_left : (k : ℕ) (cs : List Copy) → AllTold g cs → AllTold g (left_by g k cs)
  unfolding left_by AllTold pick
  all_left k [] t = t
  all_left k (c ∷ cs) t = go (leb (size (step_of g c)) k) (all_left (k - size (step_of g c)) cs t.1)
    where
      go : (b : Bool) → AllTold g (left_by g (k - size (step_of g c)) cs) → AllTold g (pick b (left_by g (k - size (step_of g c)) cs) (c ∷ cs))
      go true r = r
      go false r = t

  -- whatever the budgets
  pub made_read : (ks : List ℕ) (cs : List Copy) → AllTold g cs → reads g cs (budget_log g ks cs) ≡ true
  unfolding budget_log
  made_read [] cs t = reads_none cs
  made_read (k ∷ ks) cs t = one_run cs (budget_log g ks (left_by g k cs)) t k (made_read ks (left_by g k cs) (all_left k cs t))

  -- ---- a log that is read was made by some budgets

  -- by these
  pub record By (log : List Entry) (cs : List Copy) : Type 0 where
    pub budgets : List ℕ
    pub left : StepsLeft g budgets cs
    pub made : budget_log g budgets cs ≡ log

  -- by a run that goes on with a try, and then these
  record From (log : List Entry) (c : Copy) (cs : List Copy) (done n : ℕ) : Type 0 where
    budget : ℕ
    rest : List Entry
    then : By rest (left_by g (done + budget) (c ∷ cs))
    made : take budget (up_to (step_of g c) done n ++ table_log g cs) ++ rest ≡ log

  -- a run begins a step anew
  begun : (c : Copy) (cs : List Copy) (n : ℕ) → suc n ≡ size (step_of g c) → {log : List Entry} (x : Entry) → x ≡ nth (step_of g c) 0
      → From log c cs 1 n → By (x ∷ log) (c ∷ cs)
  unfolding budget_log StepsLeft table_log step_log up_to
  begun c cs n e {log} x d f =
      record {
        budgets = suc f.budget ∷ f.then.budgets;
        left = (omega arith, subst (λ (j : ℕ). StepsLeft g f.then.budgets (left_by g j (c ∷ cs))) one f.then.left);
        made =
            ap (λ (m : ℕ). take (suc f.budget) (up_to (step_of g c) 0 m ++ table_log g cs) ++ budget_log g f.then.budgets (left_by g (suc f.budget) (c ∷ cs))) (sym e)
            ∙ ap₂ (λ (y : Entry) (l : List Entry). y ∷ (take f.budget (up_to (step_of g c) 1 n ++ table_log g cs) ++ l)) (sym d)
            (ap (λ (j : ℕ). budget_log g f.then.budgets (left_by g j (c ∷ cs))) (sym one) ∙ f.then.made)
            ∙ ap (λ (l : List Entry). x ∷ l) f.made;
      }
    where
      one : 1 + f.budget ≡ suc f.budget
      one = omega arith

  -- read from inside a step: the try goes on, to the next entry or past the mark; or the step is begun anew
  module _ (c : Copy) (cs : List Copy) (t : Told (step_of g c)) (sound : (log : List Entry) → reads g cs log ≡ true → By log cs) where
    abbrev s : Step
    s = step_of g c

    in_step : (x : Entry) (log : List Entry) (done n : ℕ) → done + suc n ≡ size s
        → ((d m : ℕ) → d + suc m ≡ size s → ReadsIn s cs d log → From log c cs d (suc m))
        → (a b : Bool) → same x (nth s done) ≡ a → same x (nth s 0) ≡ b → ReadsIn s cs done (x ∷ log) → From (x ∷ log) c cs done (suc n)
    unfolding up_to behind
    in_step x log done zero e ih true b p q r =
        let marks = on_mark s done x log p (omega (arith, e)) in
        let none : cs ≡ left_by g (done + 1) (c ∷ cs) = sym (left_more g c cs (done + 1) 0 (omega (arith, e)) ∙ left_none g cs) in
        record {
          budget = 1;
          rest = log;
          then = subst (By log) none (sound log (sym (ap (behind (λ rest. reads g cs rest)) marks) ∙ r));
          made = ap (λ (y : Entry). y ∷ log) (sym (same_is x (nth s done) p));
        }
    in_step x log done (suc n) e ih true b p q r =
        let goes = on_next s done x log p (omega (arith, e)) in
        let f = ih (suc done) n (omega (arith, e)) (sym (ap (behind (λ rest. reads g cs rest)) goes) ∙ r) in
        record {
          budget = suc f.budget;
          rest = f.rest;
          then = subst (λ (j : ℕ). By f.rest (left_by g j (c ∷ cs))) (omega arith) f.then;
          made = ap₂ (λ (y : Entry) (l : List Entry). y ∷ l) (sym (same_is x (nth s done) p)) f.made;
        }
    in_step x log done n e ih false true p q r =
        let m : ℕ = size s - 2 in
        let two : 1 + suc m ≡ size s = let l = t.more in omega arith in
        let goes = turn_on s done x log 1 (tried_again s done x (sym p) (sym q)) (λ z. omega (arith, z, t.more)) in
        let f = ih 1 m two (sym (ap (behind (λ rest. reads g cs rest)) goes) ∙ r) in
        record {
          budget = 0;
          rest = x ∷ log;
          then =
              subst (By (x ∷ log)) (sym (left_same g c cs (done + 0) (omega (arith, e))))
              (begun c cs (suc m) (omega (arith, two)) x (same_is x (nth s 0) q) f);
          made = refl;
        }
    in_step x log done n e ih false false p q r =
        no_wrong (λ rest. reads g cs rest) _ (turn_wrong s done x log (tried_no s done x (sym p) (sym q))) r

    read_in : (log : List Entry) (done n : ℕ) → done + suc n ≡ size s → ReadsIn s cs done log → From log c cs done (suc n)
    unfolding StepsLeft budget_log
    read_in [] done n e r = record { budget = 0; rest = []; then = record { budgets = []; left = tt; made = refl }; made = refl }
    read_in (x ∷ log) done n e r =
        in_step x log done n e (λ d m q h. read_in log d m q h) (same x (nth s done)) (same x (nth s 0)) refl refl r

    step_read : (log : List Entry) → ReadsIn s cs 0 log → By log (c ∷ cs)
    unfolding StepsLeft budget_log table_log step_log
    step_read log r =
        let n : ℕ = size s - 1 in
        let e : suc n ≡ size s = let z = size_some s in omega arith in
        let f = read_in log 0 n (omega (arith, e)) r in
        let k : 0 + f.budget ≡ f.budget = zero-add f.budget in
        record {
          budgets = f.budget ∷ f.then.budgets;
          left = (omega arith, subst (λ (j : ℕ). StepsLeft g f.then.budgets (left_by g j (c ∷ cs))) k f.then.left);
          made =
              ap₂ (λ (m : ℕ) (l : List Entry). take f.budget (up_to s 0 m ++ table_log g cs) ++ l) (sym e)
              (ap (λ (j : ℕ). budget_log g f.then.budgets (left_by g j (c ∷ cs))) (sym k) ∙ f.then.made)
              ∙ f.made;
        }

  pub read_made : (cs : List Copy) → AllTold g cs → (log : List Entry) → reads g cs log ≡ true → By log cs
  unfolding AllTold StepsLeft budget_log reads
  read_made [] t [] r = record { budgets = []; left = tt; made = refl }
  read_made [] t (x ∷ log) r = let z : ◌≡◌ {A = ℕ} 0 1 = cc in absurd (omega arith)
  read_made (c ∷ cs) t log r = step_read c cs t.0 (λ l h. read_made cs t.1 l h) log r
