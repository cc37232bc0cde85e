-- One boot more: how the boots made so far (specs/Cycles, `Made`) grow by a call of prepare_boot, and what the last one was. Assumes nothing.
use mathlib.Core.Path.{◌≡◌, refl, sym, ap, ◌∙◌, subst}
use mathlib.Core.List.{List, [], ◌∷◌, ◌++◌}
use Prim.Native.Nat.{ℕ, zero, suc, ◌+◌, ◌-◌, ◌<◌}
use native.Mathlib.Numerals.{add-one}
use native.Mathlib.Omega.{arith}
use lib.ListN.{length, take, get_or}
use lib.Seq.{take-suc}
use Rattle.geometry.specs.declared.Geometry.{Geometry}
use Rattle.geometry.specs.declared.Refusal.TheVariants.{Limit, Page, Area, StateArea, BadState, Range, Checksum}
use Rattle.geometry.specs.Refusals.{number}
use Rattle.mem_flash.specs.Flash.{Flash}
use Rattle.std.specs.Prelude.{Ok, Err}
use Rattle.rules.specs.declared.Stop.TheVariants.{Refused, Cut as CutAfter}
use Rattle.rules.specs.Calls.{Answer, Report, reported, Did}
use Rattle.rules.specs.Boot.{prepare_boot}
use Rattle.power.specs.Power.{answer, ran, Cut, runs, AllCut, FirstWhole}
use Rattle.power_cycles.specs.Cycles.{Uncut, last_answer, Made}

-- ---- boots with one budget more

runs_more : (g : Geometry) (ks : List ℕ) (k : ℕ) (f : Flash) → runs g (ks ++ (k ∷ [])) f ≡ ran g k (runs g ks f)
unfolding runs
runs_more g [] k f = refl
runs_more g (j ∷ ks) k f = runs_more g ks k (ran g j f)

cuts_more : (g : Geometry) (ks : List ℕ) (k : ℕ) (f : Flash) → AllCut g ks f → Cut g k (runs g ks f) → AllCut g (ks ++ (k ∷ [])) f
unfolding runs AllCut
cuts_more g [] k f cuts c = (c, tt)
cuts_more g (j ∷ ks) k f cuts c = (cuts.0, cuts_more g ks k (ran g j f) cuts.1 c)

answer_more : (g : Geometry) (ks : List ℕ) (k : ℕ) (f : Flash) → last_answer g (ks ++ (k ∷ [])) f ≡ answer g k (runs g ks f)
unfolding runs last_answer
answer_more g [] k f = refl
answer_more g (j ∷ []) k f = refl
answer_more g (j ∷ i ∷ ks) k f = answer_more g (i ∷ ks) k (ran g j f)

-- ---- the first boots

before : (n : ℕ) → suc n - 1 ≡ n
before n = omega arith

-- after n boots that are cut, one more: its answer and its flash
pub record Last (g : Geometry) (ks : List ℕ) (f f' : Flash) (n : ℕ) (r : Answer) : Type 0 where
  pub cuts : AllCut g (take n ks) f
  pub told : reported r ≡ answer g (get_or ks n 0) (runs g (take n ks) f)
  pub leaves : f' ≡ ran g (get_or ks n 0) (runs g (take n ks) f)

module _ {g : Geometry} {ks : List ℕ} {f f' : Flash} {r : Answer} where
  -- no boot was made
  pub made_none : Made g ks f f' 0 r → reported r ≡ reported (Err (CutAfter 0))
  unfolding last_answer
  made_none m = m.told

  -- or one after n others
  pub made_last : (n : ℕ) → Made g ks f f' (suc n) r → Last g ks f f' n r
  made_last n m =
      let one : take (suc n) ks ≡ take n ks ++ (get_or ks n 0 ∷ []) = take-suc ks n 0 (omega arith) in
      record {
        cuts = subst (λ (i : ℕ). AllCut g (take i ks) f) (before n) m.cuts;
        told = m.told ∙ ap (λ (js : List ℕ). last_answer g js f) one ∙ answer_more g (take n ks) (get_or ks n 0) f;
        leaves = m.leaves ∙ ap (λ (js : List ℕ). runs g js f) one ∙ runs_more g (take n ks) (get_or ks n 0) f;
      }

  last_made : (n : ℕ) → n < length ks → Last g ks f f' n r → Made g ks f f' (suc n) r
  last_made n less l =
      let one : take (suc n) ks ≡ take n ks ++ (get_or ks n 0 ∷ []) = take-suc ks n 0 less in
      record {
        budgets = omega arith;
        cuts = subst (λ (i : ℕ). AllCut g (take i ks) f) (sym (before n)) l.cuts;
        told = l.told ∙ sym (answer_more g (take n ks) (get_or ks n 0) f) ∙ ap (λ (js : List ℕ). last_answer g js f) (sym one);
        leaves = l.leaves ∙ sym (runs_more g (take n ks) (get_or ks n 0) f) ∙ ap (λ (js : List ℕ). runs g js f) (sym one);
      }

-- where the answer is a cut, all the boots were
pub all_cut : {g : Geometry} {ks : List ℕ} {f f' : Flash} {n : ℕ} {r : Answer} → Made g ks f f' n r → (reported r).number ≡ 7
    → AllCut g (take n ks) f
unfolding AllCut Cut
all_cut {n = zero} m c = tt
all_cut {g} {ks} {f} {n = suc n} m c =
    let l = made_last n m in
    subst (λ (js : List ℕ). AllCut g js f) (sym (take-suc ks n 0 (omega (arith, m.budgets))))
    (cuts_more g (take n ks) (get_or ks n 0) f l.cuts (sym (ap (λ (t : Report). t.number) l.told) ∙ c))

-- where it is not, the last is the first that was not, behind cuts with the budgets js
pub record First (g : Geometry) (js : List ℕ) (f f' : Flash) (r : Answer) : Type 0 where
  pub last : ℕ
  pub first : FirstWhole g js last f
  pub told : reported r ≡ answer g last (runs g js f)
  pub leaves : f' ≡ ran g last (runs g js f)

pub found : {g : Geometry} {ks : List ℕ} {f f' : Flash} {n : ℕ} {r : Answer} → Made g ks f f' n r → Uncut r
    → First g (take (n - 1) ks) f f' r
unfolding Cut reported
found {n = zero} m w = absurd (w (ap (λ (t : Report). t.number) (made_none m)))
found {g} {ks} {f} {f'} {n = suc n} {r = r} m w =
    let l = made_last n m in
    subst (λ (i : ℕ). First g (take i ks) f f' r) (sym (before n))
    (record {
      last = get_or ks n 0;
      first = record { cuts = l.cuts; whole = λ c. w (ap (λ (t : Report). t.number) l.told ∙ c) };
      told = l.told;
      leaves = l.leaves;
    })

-- ---- the code

-- an answer that is no cut
pub whole : (r : Answer) → ((k : ℕ) → r ≡ Err (CutAfter k) → ⊥) → Uncut r
unfolding reported number
whole (Ok d) o e = omega arith
whole (Err (Refused Limit)) o e = omega arith
whole (Err (Refused Page)) o e = omega arith
whole (Err (Refused Area)) o e = omega arith
whole (Err (Refused StateArea)) o e = omega arith
whole (Err (Refused BadState)) o e = omega arith
whole (Err (Refused Range)) o e = omega arith
whole (Err (Refused Checksum)) o e = omega arith
whole (Err (CutAfter n)) o e = o n refl

pub cut_number : {r : Answer} {n : ℕ} → r ≡ Err (CutAfter n) → (reported r).number ≡ 7
unfolding reported
cut_number e = ap (λ (x : Answer). (reported x).number) e

-- what holds at the loop's test: the boots made so far were all cut, and the areas are as long as they were
pub record Cutting (g : Geometry) (ks : List ℕ) (f h : Flash) (n : ℕ) (q : Answer) : Type 0 where
  pub made : Made g ks f h n q
  pub cut : (reported q).number ≡ 7
  pub active : length h.active ≡ length f.active
  pub dfu : length h.dfu ≡ length f.dfu
  pub state : length h.state ≡ length f.state

-- before the first boot
pub cutting_none : (g : Geometry) (ks : List ℕ) (f : Flash) → Cutting g ks f f 0 (Err (CutAfter 0))
unfolding last_answer runs AllCut reported
cutting_none g ks f =
    record {
      made = record { budgets = omega arith; cuts = tt; told = refl; leaves = refl };
      cut = refl;
      active = refl;
      dfu = refl;
      state = refl;
    }

-- a call of prepare_boot after boots that were cut
pub made_next : {g : Geometry} {ks : List ℕ} {f h h' : Flash} {n : ℕ} {q r : Answer} → Cutting g ks f h n q → n < length ks
    → Did (prepare_boot g h) (get_or ks n 0) h h' r → Made g ks f h' (n + 1) r
unfolding answer ran
made_next {g} {ks} {f} {h} {h'} {n} {q} {r} s less d =
    rw add-one
    (last_made n less
    (record {
      cuts = all_cut s.made s.cut;
      told = subst (λ (x : Flash). reported r ≡ answer g (get_or ks n 0) x) s.made.leaves d.answer;
      leaves = subst (λ (x : Flash). h' ≡ ran g (get_or ks n 0) x) s.made.leaves d.flash;
    }))
