-- What a call did, by the way the code leaves it: refused, cut, or done. Every public function cites one of these at each
-- return. Assumes nothing.
use mathlib.Core.Path.{◌≡◌, refl, ap, ◌∙◌, sym}
use mathlib.Core.Bool.{Bool, true, false}
use Rattle.std.specs.Prelude.{Option}
use mathlib.Core.List.{List, []}
use Prim.Native.Nat.{ℕ, ◌-◌, ◌≤◌}
use native.Mathlib.Omega.{arith}
use lib.Dec.{leb, eqb, leb-zero}
use lib.ListN.{length}
use borrow.Author.Tests.{eq-eqb, ne_eqb, le-leb, leb-true}
use Rattle.state.specs.declared.State.{State}
use Rattle.state.specs.Choice.{pick}
use Rattle.geometry.specs.declared.Refusal.{Refusal}
use Rattle.geometry.specs.Refusals.{Verdict}
use Rattle.std.specs.Prelude.{Ok, Err, IfOk, IsErrAnd}
use Rattle.std.proofs.lemmas.Result.{err_from_is_err_and}
use Rattle.geometry.specs.Refusals.{number, verdict}
use Rattle.geometry.proofs.Tests.{number_some}
use Rattle.mem_flash.specs.declared.Budget.{Budget}
use Rattle.mem_flash.specs.Run.{Flow, cut}
use Rattle.std.specs.Prelude.{Ok, Err, IfOk, IsErrAnd}
use Rattle.std.proofs.lemmas.Result.{err_from_is_err_and}
use Rattle.mem_flash.specs.Flash.{Flash, Op}
use Rattle.mem_flash.specs.Run.{on, outcome, Ran}
use Rattle.mem_flash.proofs.After.{after_none}
use Rattle.rules.specs.declared.Stop.TheVariants.{Refused, Cut}
use Rattle.rules.specs.Calls.{Answer, Call, reported, report, left, Did}

-- a call is admitted just if its verdict says so
pub verdict_admitted : (v : Verdict) (n : ℕ) → verdict v ≡ n → v ≡ Ok tt → n ≡ 0
unfolding verdict
verdict_admitted v n e o = sym e ∙ ap verdict o

-- ---- what the budget tells of the count

on_count : (k n : ℕ) (l : Budget) (b : Bool) → leb n k ≡ b → Ok l ≡ pick b (on (k - n)) cut → (n ≤ k) × (l.0 ≡ k - n)
unfolding pick
on_count k n l true x e = (leb-true _ _ x, (let z : l ≡ record { 0 = k - n } = cc in ap (λ (m : Budget). m.0) z))
on_count k n l false x e = let z : ◌≡◌ {A = ℕ} 0 1 = cc in absurd (omega arith)

cut_count : (k n : ℕ) (b : Bool) → leb n k ≡ b → cut ≡ pick b (on (k - n)) cut → leb n k ≡ false
unfolding pick
cut_count k n true x e = let z : ◌≡◌ {A = ℕ} 0 1 = cc in absurd (omega arith)
cut_count k n false x e = x

module _ (k : ℕ) (os : List Op) (f f₁ : Flash) (r : Flow) (w : Ran k os f f₁ r) where
  pub ran_count : (l : Budget) → r ≡ Ok l → (length os ≤ k) × (l.0 ≡ k - length os)
  unfolding outcome
  ran_count l o = on_count k (length os) l _ refl (sym o ∙ w.flow)

  pub ran_over : r ≡ cut → leb (length os) k ≡ false
  unfolding outcome
  ran_over o = cut_count k (length os) _ refl (sym o ∙ w.flow)

  -- what is left is no more than there was
  pub on_low : (l : Budget) → r ≡ Ok l → l.0 ≤ k
  on_low l o = let n = ran_count l o in omega arith

pub left_low : (k : ℕ) (os : List Op) (f f₁ : Flash) (r : Flow) → Ran k os f f₁ r → IfOk r (λ (l : Budget). l.0 ≤ k)
left_low k os f f₁ (Ok l) w = on_low k os f f₁ (Ok l) w l refl
left_low k os f f₁ (Err e) w = tt

-- ---- the ways out of a call

module _ (c : Call) (k : ℕ) (f : Flash) where
  pub did_refused : (v : Verdict) (w : Refusal) → verdict v ≡ c.refusal → v ≡ Err w → Did c k f f (Err (Refused w))
  unfolding report left reported verdict pick
  did_refused v w e o =
      let n : number w ≡ c.refusal = sym (ap verdict o) ∙ e in
      let z : eqb c.refusal 0 ≡ false = ne_eqb c.refusal 0 (λ q. omega (arith, number_some w, q, n)) in
      record { answer = rw (z, n); flash = rw z }

  -- the same as the code leaves it, by a question mark
  pub did_stopped : (v : Verdict) {w : Refusal} → verdict v ≡ c.refusal → v ≡ Err w → (r : Answer) → IsErrAnd r (λ s. s ≡ Refused w) → Did c k f f r
  did_stopped v e o r i =
      let p = err_from_is_err_and r i in
      rw (p.1, p.2) (did_refused v _ e o)

  module _ (a : c.refusal ≡ 0) where
    admits : eqb c.refusal 0 ≡ true
    admits = eq-eqb _ _ a

    -- a call without operations
    pub did_nothing : (s : Option State) → c.state ≡ s → c.ops ≡ [] → Did c k f f (Ok (record { state = s; count = 0 }))
    unfolding report left reported pick
    did_nothing s e o = record { answer = rw (admits, o, leb-zero k, e); flash = rw (admits, o) (sym (after_none k f)) }

    module _ (f₁ : Flash) (r : Flow) (w : Ran k c.ops f f₁ r) where
      pub did_cut : r ≡ cut → Did c k f f₁ (Err (Cut k))
      unfolding report left reported pick
      did_cut o = record { answer = rw (admits, ran_over k c.ops f f₁ r w o); flash = rw admits w.flash }

      module _ (l : Budget) (o : r ≡ Ok l) where
        all : leb (length c.ops) k ≡ true
        all = le-leb _ _ (ran_count k c.ops f f₁ r w l o).0

        count : k - l.0 ≡ length c.ops
        count = let n = ran_count k c.ops f f₁ r w l o in omega arith

        pub did_done : (s : Option State) → c.state ≡ s → Did c k f f₁ (Ok (record { state = s; count = k - l.0 }))
        unfolding report left reported pick
        did_done s e = record { answer = rw (admits, all, e, count); flash = rw admits w.flash }
