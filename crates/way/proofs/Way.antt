-- A list of steps, cut anywhere: one law, `run_on`, for the swap and the revert. It says where a run that is cut leaves the
-- flash, where one that is not cut does, and how many steps were gained. Serves `power`; steps that are
-- passed over also `settles`. Assumes nothing.
use mathlib.Core.Path.{◌≡◌, refl, sym, ap, ◌∙◌, subst}
use mathlib.Core.Bool.{false}
use mathlib.Core.List.{List, [], ◌∷◌, ◌++◌}
use Prim.Native.Nat.{ℕ, suc, ◌+◌, ◌-◌, ◌/◌, ◌≤◌, ◌<◌, zero-le}
use native.Mathlib.Nat.{lt_of_not-le}
use native.Mathlib.Decide.{dec_le}
use native.Mathlib.Omega.{arith}
use lib.ListN.{length, length-append}
use Rattle.state.specs.declared.State.TheVariants.{Swap}
use Rattle.geometry.specs.declared.Geometry.{Geometry}
use Rattle.geometry.specs.Geometry.{page, pages}
use Rattle.mem_flash.specs.Flash.{Flash, Op, apply_all, after}
use Rattle.mem_flash.specs.Areas.{Image}
use Rattle.mem_flash.proofs.After.{apply_append, after_within, after_past}
use Rattle.mem_flash.proofs.Areas.{state_placed, active_placed}
use Rattle.rules.specs.StateArea.{read_state, progress}
use Rattle.rules.specs.Steps.{Copy, copy_ops, copies_ops, page_count}
use Rattle.rules.specs.Boot.{confirming}
use Rattle.rules.specs.Power.{step_to, next_cost}
pub use Rattle.rules.proofs.Tables.{once_skip, once_do, copies_skip}
use Rattle.rules.proofs.Tables.{copies_do}
use Rattle.way.proofs.Steps.{Whole, Fits, Near, near_refl, stepped, step_whole, step_cut_near}
use Rattle.way.proofs.Costs.{next_count}

-- ---- the way

-- all that a boot reads at f: the state Swap, N pages, S bytes of state, m steps done, and no confirmation that was cut
pub record Reads (g : Geometry) (N S m : ℕ) (f : Flash) : Type 0 where
  pub swap : read_state g.state f.state ≡ Swap
  pub paged : page_count g f ≡ N
  pub sized : length f.state ≡ S
  pub done : progress g.state f.state ≡ m
  pub settled : confirming g.state N f.state ≡ false

-- the step c, number m, leads from f to next
pub record Leg (g : Geometry) (N S m : ℕ) (c : Copy) (f next : Flash) : Type 0 where
  pub reads : Reads g N S m f
  pub number : c.mark ≡ m
  pub target : c.to ≡ step_to m
  pub fits : Fits g c f
  pub leads : stepped g c f ≡ next

-- the steps of the list, the first of number m, lead from f to h
abbrev pub Way : Geometry → ℕ → ℕ → ℕ → Flash → List Copy → Flash → Type 0
Way g N S m f [] h = Reads g N S m f × (f ≡ h)
Way g N S m f (c ∷ cs) h = (next : Flash) × Leg g N S m c f next × Way g N S (suc m) next cs h

-- now is f, but for what the target page of the first step holds
abbrev pub Close : Geometry → List Copy → Flash → Flash → Type 0
Close g [] f now = now ≡ f
Close g (c ∷ cs) f now = Near g c f now

pub close_refl : (g : Geometry) (cs : List Copy) (f : Flash) → Close g cs f f
close_refl g [] f = refl
close_refl g (c ∷ cs) f = near_refl g c f

-- a boot reads the same at a flash that is near
near_reads : {g : Geometry} {N S m : ℕ} {f : Flash} (c : Copy) (now : Flash) → Image c.to → Near g c f now → Reads g N S m f
    → Reads g N S m now
unfolding page_count pages
near_reads {g} {N} {f = f} c now i near r =
    let st : now.state ≡ f.state = ap (λ (x : Flash). x.state) near.same ∙ state_placed c.to near.held f i in
    let ln : length now.active ≡ length f.active =
    ap (λ (x : Flash). length x.active) near.same ∙ active_placed c.to near.held f near.beside.size in
    record {
      swap = ap (read_state g.state) st ∙ r.swap;
      paged = ap (λ (n : ℕ). n / page g) ln ∙ r.paged;
      sized = ap (λ (s : List ℕ). length s) st ∙ r.sized;
      done = ap (progress g.state) st ∙ r.done;
      settled = ap (confirming g.state N) st ∙ r.settled;
    }

pub close_reads : (g : Geometry) (N S m : ℕ) (f : Flash) (cs : List Copy) (h now : Flash) → Way g N S m f cs h → Close g cs f now
    → Reads g N S m now
close_reads g N S m f [] h now w e = subst (Reads g N S m) (sym e) w.0
close_reads g N S m f (c ∷ cs) h now w near = near_reads c now w.1.fits.image near w.1.reads

-- now lies on the way of the list's steps to h, with so many steps left
pub data OnWay (g : Geometry) (N S : ℕ) (h now : Flash) : ℕ → List Copy → ℕ → Type 0 where
  here : {m : ℕ} {cs : List Copy} (f : Flash) → Way g N S m f cs h → Close g cs f now → OnWay g N S h now m cs (length cs)
  there : {m rest : ℕ} {c : Copy} {cs : List Copy} → c.mark ≡ m → OnWay g N S h now (suc m) cs rest → OnWay g N S h now m (c ∷ cs) rest

-- what a boot reads there: as many steps done as are not left
pub record Stage (g : Geometry) (N S : ℕ) (now : Flash) (m all rest : ℕ) : Type 0 where
  pub at : ℕ
  pub reads : Reads g N S at now
  pub sum : at + rest ≡ m + all
  pub past : m ≤ at

pub on_stage : {g : Geometry} {N S : ℕ} {h now : Flash} {m rest : ℕ} {cs : List Copy} → OnWay g N S h now m cs rest
    → Stage g N S now m (length cs) rest
on_stage {g} {N} {S} {h} {now} (here {m = m} {cs = cs} f w close) =
    record { at = m; reads = close_reads g N S m f cs h now w close; sum = refl; past = omega arith }
on_stage (there e on) =
    let r = on_stage on in
    record { at = r.at; reads = r.reads; sum = omega (arith, r.sum); past = omega (arith, r.past) }

-- the end of the way lies on it
pub on_end : (g : Geometry) (N S : ℕ) (h : Flash) (cs : List Copy) (m : ℕ) (f : Flash) → Way g N S m f cs h → OnWay g N S h h m cs 0
on_end g N S h [] m f w = here f w (sym w.1)
on_end g N S h (c ∷ cs) m f w = there w.1.number (on_end g N S h cs (suc m) w.0 w.2)

-- ---- a run

-- what a run of the operations os with a budget of k leaves, where r steps were left: it goes through to h; or it is stopped
-- on the way, with fewer steps left if k pays for the next one, and as many if not
pub data Went (g : Geometry) (N S : ℕ) (h : Flash) (m : ℕ) (cs : List Copy) (r : ℕ) (now : Flash) (k : ℕ)
    (os : List Op) : Type 0 where
  through : length os ≤ k → apply_all os now ≡ h → (k < next_cost g now → r ≡ 0) → Went g N S h m cs r now k os
  stopped : (rest : ℕ) → k < length os → 0 < rest → rest ≤ r → (next_cost g now ≤ k → rest < r) → (k < next_cost g now → rest ≡ r)
      → OnWay g N S h (after k os now) m cs rest → Went g N S h m cs r now k os

-- a step that is done already is passed over, and any other is done
went_there : {g : Geometry} {N S m r k : ℕ} {h now : Flash} {c : Copy} {cs : List Copy} {os : List Op}
    → c.mark ≡ m → Went g N S h (suc m) cs r now k os → Went g N S h m (c ∷ cs) r now k os
went_there e (through l d still) = through l d still
went_there e (stopped rest l p b gain still on) = stopped rest l p b gain still (there e on)

-- a step done, then a run of the rest
went_past : {g : Geometry} {N S m r j : ℕ} {h next : Flash} {c : Copy} {cs : List Copy} {ps : List Op} (now : Flash) (os : List Op)
    → c.mark ≡ m → length os ≡ next_cost g now → apply_all os now ≡ next → Went g N S h (suc m) cs r next j ps
    → Went g N S h m (c ∷ cs) (suc r) now (length os + j) (os ++ ps)
went_past {ps = ps} now os e n d (through l t still) =
    through (omega (arith, length-append os ps)) (apply_append os ps now ∙ ap (apply_all ps) d ∙ t) (λ x. absurd (omega arith))
went_past {g} {N} {S} {m} {j = j} {h} {cs = cs} {ps = ps} now os e n d (stopped rest l p b gain still on) =
    stopped rest (omega (arith, length-append os ps)) p (omega arith) (λ x. omega arith) (λ x. absurd (omega arith))
    (there e (subst (λ (x : Flash). OnWay g N S h x (suc m) cs rest) (sym (after_past j os ps now ∙ ap (after j ps) d)) on))

module _ {g : Geometry} (whole : Whole g) {N S : ℕ} {h : Flash} where
  run_here : (cs : List Copy) (m : ℕ) (f now : Flash) → Way g N S m f cs h → Close g cs f now → (k : ℕ)
      → Went g N S h m cs (length cs) now k (copies_ops g cs now)
  unfolding copies_ops apply_all
  run_here [] m f now w close k = through zero-le (close ∙ w.1) (λ x. refl)
  run_here (c ∷ cs) m f now w near k =
      subst (λ (os : List Op). Went g N S h m (c ∷ cs) (suc (length cs)) now k os) (sym whole_run)
      (go (dec_le (length first) k) (λ j. run_here cs (suc m) next next way (close_refl g cs next) j))
    where
      next : Flash
      next = w.0

      leg : Leg g N S m c f next
      leg = w.1

      way : Way g N S (suc m) next cs h
      way = w.2

      first : List Op
      first = copy_ops g c now

      leads : apply_all first now ≡ next
      leads = step_whole whole leg.fits near ∙ leg.leads

      done : progress g.state now.state ≡ m
      done = (near_reads c now leg.fits.image near leg.reads).done

      cost : length first ≡ next_cost g now
      cost = next_count g m c now leg.target done

      whole_run : copies_ops g (c ∷ cs) now ≡ first ++ copies_ops g cs next
      whole_run =
          copies_do g c cs now (omega (arith, done, leg.number))
          ∙ ap (λ (x : Flash). first ++ copies_ops g cs x) leads

      go : Dec (length first ≤ k) → ((j : ℕ) → Went g N S h (suc m) cs (length cs) next j (copies_ops g cs next))
          → Went g N S h m (c ∷ cs) (suc (length cs)) now k (first ++ copies_ops g cs next)
      go (yes l) rest =
          let j : ℕ = k - length first in
          let e : length first + j ≡ k = omega arith in
          subst (λ (z : ℕ). Went g N S h m (c ∷ cs) (suc (length cs)) now z (first ++ copies_ops g cs next)) e
          (went_past now first leg.number cost leads (rest j))
      go (no l) rest =
          let short : k < length first = lt_of_not-le l in
          stopped (suc (length cs)) (omega (arith, length-append first (copies_ops g cs next))) (omega arith) (omega arith)
          (λ x. absurd (omega (arith, cost))) (λ x. refl)
          (here f w
          (subst (λ (x : Flash). Near g c f x) (sym (after_within k first (copies_ops g cs next) now short))
          (step_cut_near whole leg.fits near k short)))

  pub run_on : {now : Flash} {m rest : ℕ} {cs : List Copy} → OnWay g N S h now m cs rest → (k : ℕ)
      → Went g N S h m cs rest now k (copies_ops g cs now)
  run_on {now} (here {m = m} {cs = cs} f w close) k = run_here cs m f now w close k
  run_on {now} (there {m = m} {rest = rest} {c = c} {cs = cs} e on) k =
      subst (λ (os : List Op). Went g N S h m (c ∷ cs) rest now k os)
      (sym (copies_skip g c cs now (let r = on_stage on in omega (arith, r.past, r.reads.done))))
      (went_there e (run_on on k))

-- ---- what one cut run keeps

-- a run that is cut keeps the invariant, with less left to do if it had the price
pub record Kept (Inv : Flash → ℕ → Type 0) (next : Flash) (k price was : ℕ) : Type 0 where
  pub rest : ℕ
  pub inv : Inv next rest
  pub gain : price ≤ k → rest < was
