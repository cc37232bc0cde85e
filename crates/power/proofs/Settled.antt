-- Of three boots in a row that are not cut, the third does nothing (specs/Settles): `settles`. A swap leaves a progress of 2N or
-- more, a revert leaves the Revert magic, a confirmation that was cut the Boot magic, and every other state wants nothing. Assumes
-- nothing.
use mathlib.Core.Path.{◌≡◌, refl, sym, ap, ◌∙◌, subst}
use mathlib.Core.Bool.{Bool, true, false}
use Rattle.std.specs.Prelude.{Some}
use mathlib.Core.Logic.{◌⊎◌, inl, inr}
use mathlib.Core.List.{List, [], ◌∷◌, ◌++◌}
use Prim.Native.Nat.{ℕ, suc, ◌+◌, ◌*◌, ◌/◌, ◌≤◌, ◌<◌, zero-le}
use native.Mathlib.Nat.{eq-or-lt_of_le, lt_of_not-le, mul-le-mul_right, div-mul-le_self}
use native.Mathlib.Decide.{dec_le}
use native.Mathlib.Omega.{arith}
use lib.ListN.{length}
use Rattle.state.specs.declared.State.{State}
use Rattle.state.specs.declared.State.TheVariants.{Boot, Swap, Revert, DfuDetach}
use Rattle.geometry.specs.declared.StateSizes.{StateSizes}
use Rattle.geometry.specs.declared.Geometry.{Geometry}
use Rattle.geometry.specs.Geometry.{pages, words}
use Rattle.geometry.specs.Refusals.{boot_words}
use Rattle.geometry.specs.Admitted.{Admitted}
use Rattle.geometry.proofs.Rows.{admitted}
use Rattle.geometry.proofs.Tests.{even_times}
use Rattle.mem_flash.specs.Flash.{Flash, Op, apply_all, after}
use Rattle.mem_flash.specs.Areas.{Image}
use Rattle.mem_flash.proofs.After.{apply_append, after_all, after_none}
use Rattle.mem_flash.proofs.Areas.{all_lengths}
use Rattle.rules.specs.StateArea.{read_state, most_marks, progress}
use Rattle.rules.specs.Steps.{Copy, swap_from, revert_from, once_ops, copies_ops, page_count}
use Rattle.rules.specs.Calls.{Report}
use Rattle.rules.specs.Boot.{confirming, boot_ops_in, boot_ops, prepare_boot}
use Rattle.rules.proofs.Spread.{revert_reads, boot_reads, area_reads}
use Rattle.rules.proofs.MarkWritten.{with_mark, same_state, mark_passes}
use Rattle.rules.proofs.Remembered.{step_state}
use Rattle.way.proofs.Finish.{closed, close_ops, finish_close, renewed, finished}
use Rattle.way.proofs.Way.{Reads, once_skip, once_do}
use Rattle.way.proofs.Tables.{swap_count, StepRow, swap_row}
use Rattle.way.proofs.Wanted.{wants_none, wants_none_reverted, wants_renewal, wants_swap, wants_revert}
use Rattle.power.specs.Power.{answer, ran, Cut, runs}
use Rattle.power.specs.Settles.{Quiet, Settles}
use Rattle.power.proofs.Runs.{Admits, ran_after, admits_ran, whole_long, answer_done}

-- ---- the state area after the swap's steps

-- the state area st' reads as st does, and its progress is i or more
record Past (z : StateSizes) (st st' : List ℕ) (i : ℕ) : Type 0 where
  same : read_state z st' ≡ read_state z st
  size : length st' ≡ length st
  past : i ≤ progress z st'

once_past : (g : Geometry) (c : Copy) (f : Flash) → Image c.to → c.mark ≤ progress g.state f.state
    → c.mark < most_marks g.state f.state → Past g.state f.state (apply_all (once_ops g c f) f).state (suc c.mark)
unfolding apply_all
once_past g c f i h m = go (eq-or-lt_of_le h)
  where
    go : (c.mark ≡ progress g.state f.state) ⊎ (c.mark < progress g.state f.state)
        → Past g.state f.state (apply_all (once_ops g c f) f).state (suc c.mark)
    go (inl e) =
        let d : (apply_all (once_ops g c f) f).state ≡ with_mark g.state c.mark f.state =
        ap (λ (os : List Op). (apply_all os f).state) (once_do g c f (omega (arith, e))) ∙ step_state g c f i in
        record {
          same = ap (read_state g.state) d ∙ same_state g.state c.mark f.state;
          size = (all_lengths (once_ops g c f) f).state;
          past = rw d (mark_passes g.state c.mark f.state m (sym e));
        }
    go (inr l) =
        let d : (apply_all (once_ops g c f) f).state ≡ f.state = ap (λ (os : List Op). (apply_all os f).state) (once_skip g c f l) in
        record { same = ap (read_state g.state) d; size = ap length d; past = rw d l }

row_passed : (g : Geometry) (cs : List Copy) (i : ℕ) (f : Flash) → StepRow i cs → i ≤ progress g.state f.state
    → i + length cs ≤ most_marks g.state f.state
    → Past g.state f.state (apply_all (copies_ops g cs f) f).state (i + length cs)
unfolding copies_ops apply_all most_marks
row_passed g [] i f r h m = record { same = refl; size = refl; past = omega arith }
row_passed g (c ∷ cs) i f r h m =
    let e : c.mark ≡ i = r.1 in
    let o = once_past g c f r.0 (omega arith) (omega arith) in
    let next : Flash = apply_all (once_ops g c f) f in
    let z : words g.state.ws (length next.state) ≡ words g.state.ws (length f.state) = ap (words g.state.ws) o.size in
    let q = row_passed g cs (suc i) next r.2 (omega (arith, o.past)) (omega arith) in
    let d : (apply_all (copies_ops g (c ∷ cs) f) f).state ≡ (apply_all (copies_ops g cs next) next).state =
    ap (λ (x : Flash). x.state) (apply_append (once_ops g c f) (copies_ops g cs next) f) in
    record {
      same = ap (read_state g.state) d ∙ q.same ∙ o.same;
      size = ap length d ∙ q.size ∙ o.size;
      past = rw d (omega (arith, q.past));
    }

-- ---- one run

module _ (g : Geometry) (f : Flash) (a : Admits g f) where
  abbrev N : ℕ
  N = page_count g f

  ad : Admitted g (length f.active) (length f.dfu) (length f.state)
  ad = admitted g (length f.active) (length f.dfu) (length f.state) a

  enough : boot_words N ≤ words g.state.ws (length f.state)
  unfolding page_count
  enough = ad.state_words

  some_word : 0 < g.state.ws
  some_word = ad.numbers.ws.some

  some_area : g.state.ws ≤ length f.state
  unfolding boot_words words
  some_area =
      let n : ℕ = length f.state in
      omega (
        arith,
        enough,
        mul-le-mul_right {m = 3} {n = n / g.state.ws} g.state.ws (omega (arith, enough)),
        div-mul-le_self n
            g.state.ws,
      )

  whole_units : length f.state / g.state.es * g.state.es ≡ length f.state
  whole_units = even_times (length f.state) g.state.es ad.state_units_lem

  -- a confirmation that is through: the state area reads Boot
  confirm_through : read_state g.state f.state ≡ Swap → confirming g.state N f.state ≡ true
      → read_state g.state (apply_all (boot_ops g f) f).state ≡ Boot
  unfolding closed
  confirm_through swap c =
      let n : ℕ = length f.state in
      ap (λ (os : List Op). read_state g.state (apply_all os f).state) (wants_renewal g f swap c)
      ∙ ap (λ (y : Flash). read_state g.state y.state)
      (renewed f.active f.dfu Boot g.state n f.state whole_units refl some_area)
      ∙ area_reads Boot g.state n (boot_reads g.state.ws some_word)

  module _ (swap : read_state g.state f.state ≡ Swap) (settled : confirming g.state N f.state ≡ false) where
    reads : Reads g N (length f.state) (progress g.state f.state) f
    reads = record { swap = swap; paged = refl; sized = refl; done = refl; settled = settled }

    -- a swap that is through: the next boot will revert
    swap_through : progress g.state f.state < 2 * N → Past g.state f.state (apply_all (boot_ops g f) f).state (2 * N)
    unfolding boot_words most_marks
    swap_through h =
        let n : length (swap_from N 0) ≡ 2 * N = swap_count N 0 in
        let p = row_passed g (swap_from N 0) 0 f (swap_row N 0) zero-le (omega (arith, enough)) in
        let d : boot_ops g f ≡ copies_ops g (swap_from N 0) f =
        wants_swap reads h in
        subst (λ (os : List Op). Past g.state f.state (apply_all os f).state (2 * N)) (sym d)
        (record { same = p.same; size = p.size; past = omega (arith, p.past) })

    -- a revert that is through: the state area reads Revert
    revert_through : 2 * N ≤ progress g.state f.state → read_state g.state (apply_all (boot_ops g f) f).state ≡ Revert
    unfolding closed
    revert_through h =
        let copies : List Op = copies_ops g (revert_from N 0 (2 * N)) f in
        let n : ℕ = length f.state in
        let x : Flash = apply_all copies f in
        let d : boot_ops g f ≡ copies ++ close_ops g n =
        wants_revert reads h
        ∙ ap (λ (os : List Op). copies ++ os) (finish_close g f n refl) in
        ap (λ (os : List Op). read_state g.state (apply_all os f).state) d
        ∙ ap (λ (y : Flash). read_state g.state y.state)
        (apply_append copies (close_ops g n) f ∙ finished x.active x.dfu g n x.state
        whole_units (all_lengths copies f).state some_area)
        ∙ area_reads Revert g.state n (revert_reads g.state.ws some_word)

  -- ---- runs that are not cut

  -- where nothing is wanted, nothing is done
  quiet : boot_ops g f ≡ [] → Quiet g f
  quiet e =
      record {
        done = λ k. ap (λ (t : Report). t.number) (idle k);
        count = λ k. ap (λ (t : Report). t.count) (idle k) ∙ ap length e;
        flash = λ k.
            ran_after g k f a ∙ ap (λ (os : List Op). after k os f) e ∙ after_none k f;
      }
    where
      idle : (k : ℕ) → answer g k f
          ≡ record { number = 0; state = Some (read_state g.state f.state); count = length (boot_ops g f) }
      idle k = answer_done g k f a (rw e zero-le)

  -- a run that is not cut does all
  ran_all : (k : ℕ) → (Cut g k f → ⊥) → ran g k f ≡ apply_all (boot_ops g f) f
  ran_all k w = ran_after g k f a ∙ after_all k (boot_ops g f) f (whole_long g k f a w)

  -- every state but Swap wants nothing
  swap_or_idle : (read_state g.state f.state ≡ Swap) ⊎ (boot_ops g f ≡ [])
  unfolding boot_ops boot_ops_in
  swap_or_idle = go (read_state g.state f.state) refl
    where
      go : (s : State) → read_state g.state f.state ≡ s → (read_state g.state f.state ≡ Swap) ⊎ (boot_ops_in s g f ≡ [])
      go Boot e = inr refl
      go Swap e = inl e
      go Revert e = inr refl
      go DfuDetach e = inr refl

-- once quiet, quiet after one more run
still : (g : Geometry) (f : Flash) (k : ℕ) → Quiet g f → Quiet g (ran g k f)
still g f k q = subst (Quiet g) (sym (q.flash k)) q

-- where a confirmation was cut, or a revert is due, one run is enough
module _ (g : Geometry) (f : Flash) (a : Admits g f) (swap : read_state g.state f.state ≡ Swap) (k : ℕ) (w : Cut g k f → ⊥) where
  through_reads : read_state g.state (ran g k f).state ≡ read_state g.state (apply_all (boot_ops g f) f).state
  through_reads = ap (λ (x : Flash). read_state g.state x.state) (ran_all g f a k w)

  settles_confirmed : confirming g.state (page_count g f) f.state ≡ true → Quiet g (ran g k f)
  settles_confirmed c =
      quiet g (ran g k f) (admits_ran g k f a) (wants_none g (ran g k f) (through_reads ∙ confirm_through g f a swap c))

  settles_once : 2 * page_count g f ≤ progress g.state f.state → Quiet g (ran g k f)
  settles_once h = go (confirming g.state (page_count g f) f.state) refl
    where
      go : (b : Bool) → confirming g.state (page_count g f) f.state ≡ b → Quiet g (ran g k f)
      go true c = settles_confirmed c
      go false c =
          quiet g (ran g k f) (admits_ran g k f a)
          (wants_none_reverted g (ran g k f) (through_reads ∙ revert_through g f a swap c h))

-- and where a swap is due, two are
settles_twice : (g : Geometry) (f : Flash) → Admits g f → read_state g.state f.state ≡ Swap
    → confirming g.state (page_count g f) f.state ≡ false
    → progress g.state f.state < 2 * page_count g f → (j k : ℕ) → (Cut g j f → ⊥) → (Cut g k (ran g j f) → ⊥)
    → Quiet g (ran g k (ran g j f))
unfolding page_count
settles_twice g f a swap c h j k w v =
    let x : Flash = ran g j f in
    let e : x ≡ apply_all (boot_ops g f) f = ran_all g f a j w in
    let p = swap_through g f a swap c h in
    let n : page_count g x ≡ page_count g f =
    ap (λ (y : Flash). page_count g y) e ∙ ap (pages g) (all_lengths (boot_ops g f) f).active in
    let q : progress g.state x.state ≡ progress g.state (apply_all (boot_ops g f) f).state =
    ap (λ (y : Flash). progress g.state y.state) e in
    settles_once g x (admits_ran g j f a) (ap (λ (y : Flash). read_state g.state y.state) e ∙ p.same ∙ swap) k v
    (omega (arith, n, q, p.past))

pub settles : (g : Geometry) (f : Flash) → Settles g f
unfolding runs prepare_boot
settles g f a j k w v = go (swap_or_idle g f a)
  where
    due : read_state g.state f.state ≡ Swap → (b : Bool) → confirming g.state (page_count g f) f.state ≡ b
        → Dec (2 * page_count g f ≤ progress g.state f.state) → Quiet g (ran g k (ran g j f))
    due e b c (yes h) = still g (ran g j f) k (settles_once g f a e j w h)
    due e true c (no h) = still g (ran g j f) k (settles_confirmed g f a e j w c)
    due e false c (no h) = settles_twice g f a e c (lt_of_not-le h) j k w v

    go : (read_state g.state f.state ≡ Swap) ⊎ (boot_ops g f ≡ []) → Quiet g (ran g k (ran g j f))
    go (inl e) = due e (confirming g.state (page_count g f) f.state) refl (dec_le (2 * page_count g f) (progress g.state f.state))
    go (inr e) = still g (ran g j f) k (still g f j (quiet g f a e))
