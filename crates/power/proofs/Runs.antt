-- What a run of prepare_boot is over its list of operations, cut and not cut; and any number of cut runs: an invariant that one cut
-- run keeps, with so much left to do, is kept by all of them, and what is left falls by one a run if each budget pays the price.
-- Serves `power`, `settles` and `confirmed`. Assumes nothing.
use mathlib.Core.Path.{◌≡◌, sym, subst, ap, ap₂, ◌∙◌}
use Rattle.std.specs.Prelude.{Some}
use mathlib.Core.List.{List, [], ◌∷◌}
use Prim.Native.Nat.{ℕ, ◌+◌, ◌≤◌, ◌<◌}
use native.Mathlib.Nat.{lt_of_not-le}
use native.Mathlib.Decide.{dec_le}
use native.Mathlib.Omega.{arith}
use lib.ListN.{length}
use Rattle.state.specs.declared.State.{State}
use Rattle.state.specs.declared.State.TheVariants.{Boot}
use Rattle.geometry.specs.declared.Geometry.{Geometry}
use Rattle.geometry.specs.Refusals.{boot_refusal}
use Rattle.mem_flash.specs.Flash.{Flash, Op, after}
use Rattle.mem_flash.proofs.After.{after_none, after_lengths}
use Rattle.rules.specs.StateArea.{read_state}
use Rattle.rules.specs.Boot.{boot_ops, prepare_boot}
use Rattle.rules.specs.Power.{dearer_cost, next_cost}
use Rattle.rules.specs.Calls.{Report}
use Rattle.rules.proofs.Endings.{report_done, left_admitted, boot_rows, report_number, ending, is_cut, report_cut}
use Rattle.way.proofs.Costs.{next_dearer}
use Rattle.way.proofs.Way.{Kept}
use Rattle.power.specs.Power.{answer, ran, Cut, runs, AllCut, AllAtLeast, AllBelow, Ends, Rests}

-- ---- one run

-- the boot is not refused
abbrev pub Admits : Geometry → Flash → Type 0
Admits g f = boot_refusal g (length f.active) (length f.dfu) (length f.state) ≡ 0

module _ (g : Geometry) (k : ℕ) (f : Flash) (a : Admits g f) where
  -- nor is the next
  pub admits_after : (os : List Op) → Admits g (after k os f)
  admits_after os = let l = after_lengths k os f in rw (l.active, l.dfu, l.state) a

  pub ran_after : ran g k f ≡ after k (boot_ops g f) f
  unfolding ran prepare_boot
  ran_after = left_admitted (prepare_boot g f) k f a

  pub admits_ran : Admits g (ran g k f)
  admits_ran = subst (Admits g) (sym ran_after) (admits_after (boot_ops g f))

  pub cut_short : Cut g k f → k < length (boot_ops g f)
  unfolding Cut answer prepare_boot
  cut_short e = (is_cut (prepare_boot g f) (boot_rows g _ _ _) k (ending (prepare_boot g f) k) e).1

  pub short_cut : k < length (boot_ops g f) → Cut g k f
  unfolding Cut answer prepare_boot
  short_cut h = ap report_number (report_cut (prepare_boot g f) k a h)

  pub whole_long : (Cut g k f → ⊥) → length (boot_ops g f) ≤ k
  whole_long n = go (dec_le (length (boot_ops g f)) k)
    where
      go : Dec (length (boot_ops g f) ≤ k) → length (boot_ops g f) ≤ k
      go (yes h) = h
      go (no h) = absurd (n (short_cut (lt_of_not-le h)))

  pub answer_done : length (boot_ops g f) ≤ k
      → answer g k f ≡ record { number = 0; state = Some (read_state g.state f.state); count = length (boot_ops g f) }
  unfolding answer prepare_boot
  answer_done h = report_done (prepare_boot g f) k a h

-- a run that is not cut, in the words of the statement
module _ {g : Geometry} {ks : List ℕ} {k : ℕ} {f : Flash} (a : Admits g (runs g ks f))
    (long : length (boot_ops g (runs g ks f)) ≤ k) where
  pub ends_at : {s : State} {h : Flash} → read_state g.state (runs g ks f).state ≡ s
      → after k (boot_ops g (runs g ks f)) (runs g ks f) ≡ h
      → Ends g ks k f s h
  ends_at e d =
      let r = answer_done g k (runs g ks f) a long in
      record {
        number = ap (λ (t : Report). t.number) r;
        state = ap (λ (t : Report). t.state) r ∙ ap (λ (x : State). Some x) e;
        flash = ran_after g k (runs g ks f) a ∙ d;
      }

  pub rests_at : {h : Flash} → runs g ks f ≡ h → boot_ops g h ≡ [] → read_state g.state h.state ≡ Boot → Rests g ks k f h
  rests_at e none boot =
      let n : boot_ops g (runs g ks f) ≡ [] = ap (boot_ops g) e ∙ none in
      record {
        reached = e;
        answers =
            answer_done g k (runs g ks f) a long
            ∙ ap₂ (λ (s : State) (c : ℕ). record { number = 0; state = Some s; count = c })
            (ap (λ (x : Flash). read_state g.state x.state) e ∙ boot) (ap length n);
        flash =
            ran_after g k (runs g ks f) a ∙ ap (λ (os : List Op). after k os (runs g ks f)) n ∙ after_none k (runs g ks f) ∙ e;
      }

-- ---- any number of cut runs

-- the dearer step's cost pays for the next step
pub dearer : {Inv : Flash → ℕ → Type 0} {next : Flash} {k was : ℕ} (g : Geometry) (now : Flash) → Kept Inv next k (next_cost g now) was
    → Kept Inv next k (dearer_cost g) was
dearer g now o =
    record { rest = o.rest; inv = o.inv; gain = λ x. o.gain (omega (arith, next_dearer g now)) }

-- and so do any number of them
pub record KeptAll (g : Geometry) (Inv : Flash → ℕ → Type 0) (next : Flash) (ks : List ℕ) (price was : ℕ) : Type 0 where
  pub admits : Admits g next
  pub rest : ℕ
  pub inv : Inv next rest
  pub gain : AllAtLeast price ks → rest + length ks ≤ was

module _ (g : Geometry) (Inv : Flash → ℕ → Type 0) (price : ℕ)
    (step : (now : Flash) (was : ℕ) → Inv now was → (k : ℕ) → k < length (boot_ops g now)
    → Kept Inv (after k (boot_ops g now) now) k price was) where
  pub runs_left : (ks : List ℕ) (now : Flash) (was : ℕ) → Admits g now → Inv now was → AllCut g ks now
      → KeptAll g Inv (runs g ks now) ks price was
  unfolding runs AllCut AllAtLeast
  runs_left [] now was a on cuts = record { admits = a; rest = was; inv = on; gain = λ x. omega arith }
  runs_left (k ∷ ks) now was a on cuts =
      let o = step now was on k (cut_short g k now a cuts.0) in
      let r = runs_left ks (ran g k now) o.rest (admits_ran g k now a)
      (subst (λ (x : Flash). Inv x o.rest) (sym (ran_after g k now a)) o.inv) cuts.1 in
      record { admits = r.admits; rest = r.rest; inv = r.inv; gain = λ x. omega (arith, r.gain x.1, o.gain x.0) }

-- where a run below the price is cut and leads to such a place again, so does any number of them
module _ (g : Geometry) (Here : Flash → Type 0) (price : ℕ)
    (stay : (now : Flash) → Here now → (k : ℕ) → k < price → (k < length (boot_ops g now)) × Here (after k (boot_ops g now) now)) where
  pub runs_stuck : (ks : List ℕ) (now : Flash) → Admits g now → Here now → AllBelow price ks → AllCut g ks now × Here (runs g ks now)
  unfolding runs AllCut AllBelow
  runs_stuck [] now a on few = (tt, on)
  runs_stuck (k ∷ ks) now a on few =
      let o = stay now on k few.0 in
      let r = runs_stuck ks (ran g k now) (admits_ran g k now a) (subst Here (sym (ran_after g k now a)) o.1) few.1 in
      ((short_cut g k now a o.0, r.0), r.1)
