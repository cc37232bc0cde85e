-- A confirmation that was cut (specs/Confirm): `confirmed`. Its state area is that of a finished swap, invalid, with so many units
-- erased: with none a boot finishes the erase and writes the Boot magic, with some it reads Boot. One lemma for one run, then any
-- number of them. Assumes nothing.
use mathlib.Core.Path.{◌≡◌, sym, ap, ap₂, ◌∙◌, subst}
use mathlib.Core.Bool.{Bool, true}
use Rattle.std.specs.Prelude.{Some}
use mathlib.Core.Logic.{◌⊎◌, inl, inr, ◌≢◌}
use mathlib.Core.List.{List, [], ◌∷◌, ◌++◌}
use Prim.Native.Nat.{ℕ, zero, suc, ◌+◌, ◌-◌, ◌*◌, ◌≤◌, ◌<◌}
use native.Mathlib.Nat.{zero-mul, mul-le-mul_right, lt_of_not-le}
use native.Mathlib.Decide.{dec_le}
use native.Mathlib.Omega.{arith}
use lib.ListN.{length, replicate}
use Rattle.state.specs.declared.Cell.{Cell}
use Rattle.state.specs.declared.State.{State}
use Rattle.state.specs.declared.State.TheVariants.{Boot, Swap, Revert}
use Rattle.state.specs.Choice.{pick}
use Rattle.state.specs.Cells.{erased, marked}
use Rattle.state.specs.Magic.{magic, throughout}
use Rattle.state.proofs.Cells.{erased_byte}
use Rattle.geometry.specs.declared.StateSizes.{StateSizes}
use Rattle.geometry.specs.declared.Geometry.{Geometry}
use Rattle.geometry.specs.Geometry.{cell, words}
use Rattle.mem_flash.specs.Flash.{Flash, Op, blank, written_at, apply_all, after}
use Rattle.mem_flash.proofs.After.{after_all, after_none}
use Rattle.rules.specs.StateArea.{word, read_state, valid, marks_done, invalidate_op}
use Rattle.rules.specs.Steps.{page_count}
use Rattle.rules.specs.Calls.{Call, left}
use Rattle.rules.specs.Boot.{renew_ops, confirming, boot_ops}
use Rattle.rules.specs.FirmwareState.{set_magic_ops, mark}
use Rattle.rules.specs.FirmwareUpdater.{updater_call, updater_mark, updater_mark_booted}
use Rattle.rules.specs.Power.{swap_marks, state_units, void_marks}
use Rattle.rules.proofs.Spread.{spread, length_spread, boot_reads, area_reads, blank_boot}
use Rattle.rules.proofs.MarkedArea.{mark_words, length_marks, reads_swap, done_marks, marks_valid, marks_void, not_booted, confirming_swapped, void_written, swapped_marks, void_marks_lem}
use Rattle.rules.proofs.Endings.{state_rows, updater_rows_lem, ending, is_cut, left_admitted}
use Rattle.way.proofs.Finish.{closed, renew_count, renewed, renew_part, void_first}
use Rattle.way.proofs.Sized.{Sized, sized}
use Rattle.way.proofs.Wanted.{wants_none, wants_renewal}
use Rattle.power.specs.Power.{answer, ran, runs, AllCut, FirstWhole}
use Rattle.power.specs.Confirm.{Swapped, firmware_state, updater, CutConfirmation, confirmed_part, confirmed_whole, units_erased, Confirms, Confirming}
use Rattle.power.proofs.Runs.{Admits, ran_after, admits_after, admits_ran, cut_short, whole_long, answer_done}

no_revert : (s : State) → (s ≡ Swap) ⊎ (s ≡ Boot) → s ≡ Revert → ⊥
no_revert s (inl e) r = let z : ◌≡◌ {A = ℕ} 0 1 = cc in omega arith
no_revert s (inr e) r = let z : ◌≡◌ {A = ℕ} 0 1 = cc in omega arith

module _ (g : Geometry) (f : Flash) (s : Swapped g f) where
  abbrev N : ℕ
  N = page_count g f

  abbrev S : ℕ
  S = length f.state

  abbrev cells : Cell
  cells = cell g.state

  abbrev t : ℕ
  t = words g.state.ws S - 2

  abbrev U : ℕ
  U = state_units g f

  z : Sized g f t
  z = sized g f s.admitted

  -- the marks that are void
  abbrev st₀ : List ℕ
  st₀ = void_marks g.state (2 * N) S

  room : 0 < t - 2 * N
  room = omega (arith, z.room)

  void_is : spread g.state.ws (mark_words cells (marked cells) (2 * N) (t - 2 * N)) ≡ st₀
  void_is = void_marks_lem g.state (2 * N) t (omega (arith, z.room)) ∙ ap (void_marks g.state (2 * N)) (sym z.state)

  swapped_is : f.state ≡ spread g.state.ws (mark_words cells (erased cells) (2 * N) (t - 2 * N))
  swapped_is =
      s.state ∙ ap (swap_marks g.state N) z.state ∙ sym (swapped_marks g.state N t (omega (arith, z.room)))

  void_size : length st₀ ≡ S
  void_size =
      let e : length (mark_words cells (marked cells) (2 * N) (t - 2 * N)) ≡ 2 + t = omega (arith, z.room, length_marks cells (marked cells) (2 * N) (t - 2 * N)) in
      ap length (sym void_is) ∙ length_spread g.state.ws (mark_words cells (marked cells) (2 * N) (t - 2 * N)) ∙ ap (λ (i : ℕ). i * g.state.ws) e
      ∙ sym z.state

  -- ---- no unit is erased yet

  abbrev begun : Flash
  begun = closed f.active f.dfu st₀

  part_none : confirmed_part g 0 f ≡ begun
  unfolding confirmed_part closed blank
  part_none = ap (λ (n : ℕ). closed f.active f.dfu (blank cells n st₀)) (zero-mul g.state.es)

  begun_reads : read_state g.state begun.state ≡ Swap
  unfolding closed
  begun_reads = ap (read_state g.state) (sym void_is) ∙ reads_swap g.state z.ws (marked cells) (2 * N) (t - 2 * N) room

  begun_pending : confirming g.state (page_count g begun) begun.state ≡ true
  unfolding closed page_count
  begun_pending =
      let d : marks_done g.state (spread g.state.ws (mark_words cells (marked cells) (2 * N) (t - 2 * N))) ≡ 2 * N =
      done_marks g.state z.ws (marked cells) (2 * N) (t - 2 * N) room in
      subst (λ (st : List ℕ). confirming g.state N st ≡ true) void_is
      (confirming_swapped g.state N (spread g.state.ws (mark_words cells (marked cells) (2 * N) (t - 2 * N)))
      (marks_void g.state z.ws (2 * N) (t - 2 * N) room) (omega (arith, d)) (omega (arith, d, s.some_page)))

  begun_wants : boot_ops g begun ≡ renew_ops g.state S (magic Boot)
  unfolding closed
  begun_wants =
      wants_renewal g begun begun_reads begun_pending ∙ ap (λ (n : ℕ). renew_ops g.state n (magic Boot)) void_size

  begun_count : length (boot_ops g begun) ≡ 1 + U
  unfolding state_units
  begun_count = ap length begun_wants ∙ renew_count g.state S (magic Boot)

  -- a boot from there, cut after k units, and whole
  begun_cut : (k : ℕ) → k ≤ U → after k (boot_ops g begun) begun ≡ confirmed_part g k f
  unfolding confirmed_part closed state_units
  begun_cut k h =
      ap (λ (os : List Op). after k os begun) begun_wants
      ∙ renew_part f.active f.dfu g.state S (magic Boot) k st₀ h

  begun_whole : (k : ℕ) → length (boot_ops g begun) ≤ k → after k (boot_ops g begun) begun ≡ confirmed_whole g f
  unfolding confirmed_whole closed
  begun_whole k h =
      after_all k (boot_ops g begun) begun h ∙ ap (λ (os : List Op). apply_all os begun) begun_wants
      ∙ renewed f.active f.dfu Boot g.state S st₀ z.units void_size (omega (arith, z.state))

  -- ---- units are erased, or the Boot magic is written

  part_boot : (u : ℕ) → 1 ≤ u → u ≤ U → read_state g.state (confirmed_part g u f).state ≡ Boot
  unfolding confirmed_part state_units
  part_boot u one most =
      blank_boot g.state (u * g.state.es) st₀ z.ws (omega (arith, mul-le-mul_right g.state.es one, z.unit))
      (omega (arith, mul-le-mul_right g.state.es most, z.units, void_size))

  whole_boot : read_state g.state (confirmed_whole g f).state ≡ Boot
  unfolding confirmed_whole
  whole_boot = area_reads Boot g.state S (boot_reads g.state.ws z.ws)

  -- ---- any budgets

  data Midway (x : Flash) : Type 0 where
    part : (u : ℕ) → u ≤ U → x ≡ confirmed_part g u f → Midway x
    whole : x ≡ confirmed_whole g f → Midway x

  ran_idle : (x : Flash) → Admits g x → read_state g.state x.state ≡ Boot → (k : ℕ) → ran g k x ≡ x
  ran_idle x a e k = ran_after g k x a ∙ ap (λ (os : List Op). after k os x) (wants_none g x e) ∙ after_none k x

  ran_begun : (x : Flash) → Admits g x → x ≡ confirmed_part g 0 f → (k : ℕ) → ran g k x ≡ after k (boot_ops g begun) begun
  ran_begun x a e k = ran_after g k x a ∙ ap (λ (y : Flash). after k (boot_ops g y) y) (e ∙ part_none)

  reads_at : (x y : Flash) → x ≡ y → read_state g.state x.state ≡ read_state g.state y.state
  reads_at x y e = ap (λ (w : Flash). read_state g.state w.state) e

  kept : (x : Flash) → Admits g x → Midway x → (k : ℕ) → Midway (ran g k x)
  kept x a (part zero most e) k = go (dec_le k U)
    where
      go : Dec (k ≤ U) → Midway (ran g k x)
      go (yes h) = part k h (ran_begun x a e k ∙ begun_cut k h)
      go (no h) = whole (ran_begun x a e k ∙ begun_whole k (omega (arith, begun_count, lt_of_not-le h)))
  kept x a (part (suc u) most e) k =
      part (suc u) most (ran_idle x a (reads_at x (confirmed_part g (suc u) f) e ∙ part_boot (suc u) (omega arith) most) k ∙ e)
  kept x a (whole e) k = whole (ran_idle x a (reads_at x (confirmed_whole g f) e ∙ whole_boot) k ∙ e)

  all_kept : (ks : List ℕ) (x : Flash) → Admits g x → Midway x → Midway (runs g ks x)
  unfolding runs
  all_kept [] x a p = p
  all_kept (k ∷ ks) x a p = all_kept ks (ran g k x) (admits_ran g k x a) (kept x a p k)

  place_active : (x : Flash) → Midway x → x.active ≡ f.active
  unfolding confirmed_part confirmed_whole
  place_active x (part u most e) = ap (λ (y : Flash). y.active) e
  place_active x (whole e) = ap (λ (y : Flash). y.active) e

  place_dfu : (x : Flash) → Midway x → x.dfu ≡ f.dfu
  unfolding confirmed_part confirmed_whole
  place_dfu x (part u most e) = ap (λ (y : Flash). y.dfu) e
  place_dfu x (whole e) = ap (λ (y : Flash). y.dfu) e

  place_reads : (x : Flash) → Midway x → read_state g.state x.state ≡ Revert → ⊥
  place_reads x (part zero most e) r = no_revert _ (inl (reads_at x begun (e ∙ part_none) ∙ begun_reads)) r
  place_reads x (part (suc u) most e) r =
      no_revert _ (inr (reads_at x (confirmed_part g (suc u) f) e ∙ part_boot (suc u) (omega arith) most)) r
  place_reads x (whole e) r = no_revert _ (inr (reads_at x (confirmed_whole g f) e ∙ whole_boot)) r

  -- ---- boots that are cut

  record Erased (x : Flash) (u : ℕ) : Type 0 where
    most : u ≤ U
    same : x ≡ confirmed_part g u f
    admits : Admits g x

  all_cut : (ks : List ℕ) (u : ℕ) (x : Flash) → Erased x u → AllCut g ks x → Erased (runs g ks x) (units_erased u ks)
  unfolding runs AllCut units_erased
  all_cut [] u x o c = o
  all_cut (j ∷ js) zero x o c =
      let h : j ≤ U =
      omega (
        arith,
        cut_short g j x o.admits c.0,
        ap (λ (y : Flash). length (boot_ops g y)) (o.same ∙ part_none),
        begun_count,
      ) in
      all_cut js j (ran g j x)
      (record {
        most = h;
        same = ran_begun x o.admits o.same j ∙ begun_cut j h;
        admits = admits_ran g j x o.admits;
      })
      c.1
  all_cut (j ∷ js) (suc u) x o c =
      let e = reads_at x (confirmed_part g (suc u) f) o.same ∙ part_boot (suc u) (omega arith) o.most in
      absurd (omega (arith, cut_short g j x o.admits c.0, ap length (wants_none g x e)))

  -- then one that is not
  finish : (y : Flash) (j : ℕ) → Admits g y → y ≡ begun → length (boot_ops g y) ≤ j
      → (answer g j y ≡ record { number = 0; state = Some Swap; count = 1 + U }) × (ran g j y ≡ confirmed_whole g f)
  finish y j a e long = (
    answer_done g j y a long
        ∙ ap₂ (λ (r : State) (n : ℕ). record { number = 0; state = Some r; count = n }) (reads_at y begun e ∙ begun_reads)
        (ap (λ (x : Flash). length (boot_ops g x)) e ∙ begun_count),
    ran_after g j y a ∙ ap (λ (x : Flash). after j (boot_ops g x) x) e
        ∙ begun_whole j (omega (arith, long, ap (λ (x : Flash). length (boot_ops g x)) e)),
  )

  rest : (y : Flash) (j u : ℕ) → Admits g y → y ≡ confirmed_part g u f → 1 ≤ u → u ≤ U
      → (answer g j y ≡ record { number = 0; state = Some Boot; count = 0 }) × (ran g j y ≡ confirmed_part g u f)
  rest y j u a e one most =
      let r : read_state g.state y.state ≡ Boot = reads_at y (confirmed_part g u f) e ∙ part_boot u one most in
      let n : length (boot_ops g y) ≡ 0 = ap length (wants_none g y r) in (
        answer_done g j y a (omega (arith, n))
            ∙ ap₂ (λ (r : State) (n : ℕ). record { number = 0; state = Some r; count = n }) r n,
        ran_idle y a r j ∙ e,
      )

  confirms : (x : Flash) (u : ℕ) → Erased x u → Confirms g f u x
  confirms x u o =
      record {
        active = λ ks. place_active (runs g ks x) (at ks);
        dfu = λ ks. place_dfu (runs g ks x) (at ks);
        never = λ ks. place_reads (runs g ks x) (at ks);
        finishes = λ ks j w none.
            let c = all_cut ks u x o w.cuts in
            finish (runs g ks x) j c.admits
            (c.same ∙ ap (λ (i : ℕ). confirmed_part g i f) none ∙ part_none)
            (whole_long g j (runs g ks x) c.admits w.whole);
        rests = λ ks j w one.
            let c = all_cut ks u x o w.cuts in
            let r = rest (runs g ks x) j (units_erased u ks) c.admits c.same one c.most in
            record { reached = c.same; answers = r.0; flash = r.1 };
        settles = λ ks j w. behind ks j w (dec_le 1 (units_erased u ks));
      }
    where
      behind : (ks : List ℕ) (j : ℕ) → FirstWhole g ks j x → Dec (1 ≤ units_erased u ks) → read_state g.state (ran g j (runs g ks x)).state ≡ Boot
      behind ks j w (yes one) =
          let c = all_cut ks u x o w.cuts in
          reads_at _ _ (rest (runs g ks x) j (units_erased u ks) c.admits c.same one c.most).1 ∙ part_boot (units_erased u ks) one c.most
      behind ks j w (no none) =
          let c = all_cut ks u x o w.cuts in
          let e : units_erased u ks ≡ 0 = omega (arith, lt_of_not-le none) in
          reads_at _ _
          (finish (runs g ks x) j c.admits (c.same ∙ ap (λ (i : ℕ). confirmed_part g i f) e ∙ part_none)
          (whole_long g j (runs g ks x) c.admits w.whole)).1
          ∙ whole_boot

      at : (ks : List ℕ) → Midway (runs g ks x)
      at ks = all_kept ks x o.admits (part u o.most o.same)

  -- ---- mark_booted, cut after its invalidation

  mark_wants : set_magic_ops g.state (magic Boot) f.state ≡ invalidate_op g.state ∷ renew_ops g.state S (magic Boot)
  unfolding set_magic_ops pick
  mark_wants =
      ap₂ (λ (a b : Bool). pick a [] (pick b (invalidate_op g.state ∷ []) [] ++ renew_ops g.state S (magic Boot)))
      (ap (λ (st : List ℕ). throughout (magic Boot) (word g.state 0 st)) swapped_is
      ∙ not_booted g.state z.ws (erased cells) (2 * N) (t - 2 * N) room)
      (ap (valid g.state) swapped_is ∙ marks_valid g.state z.ws (2 * N) (t - 2 * N) room)

  invalid_is : written_at cells g.state.ws (replicate g.state.ws (marked cells)) f.state ≡ st₀
  invalid_is =
      ap (written_at cells g.state.ws (replicate g.state.ws (marked cells))) swapped_is
      ∙ void_written cells g.state.ws (erased cells) (2 * N) (t - 2 * N) (erased_byte cells) ∙ void_is

  module _ (c : Call) (table : c.refusal ≢ 7) (ops : c.ops ≡ set_magic_ops g.state (magic Boot) f.state) where
    confirm_cut : (k : ℕ) → CutConfirmation c k → Erased (left c k f) (k - 1)
    unfolding closed confirmed_part state_units
    confirm_cut k h =
        let d = is_cut c table k (ending c k) h.cut in
        let n : length c.ops ≡ 2 + U =
        ap length (ops ∙ mark_wants) ∙ omega (arith, renew_count g.state S (magic Boot)) in
        let most : k - 1 ≤ U = omega (arith, d.1) in
        let e : k ≡ suc (k - 1) = omega (arith, h.invalidated) in
        let leaves : left c k f ≡ after k c.ops f = left_admitted c k f d.0 in
        record {
          most = most;
          same =
              leaves
              ∙ ap₂ (λ (i : ℕ) (os : List Op). after i os f) e (ops ∙ mark_wants)
              ∙ void_first f.active f.dfu g.state S (magic Boot) (k - 1) f.state
              ∙ renew_part f.active f.dfu g.state S (magic Boot) (k - 1) _ most
              ∙ ap (λ (st : List ℕ). closed f.active f.dfu (blank cells ((k - 1) * g.state.es) st)) invalid_is;
          admits = subst (Admits g) (sym leaves) (admits_after g k f s.admitted c.ops);
        }

pub confirmed : (g : Geometry) (f : Flash) → Confirming g f
unfolding mark updater_call updater_mark updater_mark_booted
confirmed g f s c (firmware_state z e) k h =
    confirms g f s (left c k f) (k - 1)
    (confirm_cut g f s c (state_rows z _) (ap (λ (y : StateSizes). set_magic_ops y (magic Boot) f.state) e) k h)
confirmed g f s c (updater z e) k h =
    confirms g f s (left c k f) (k - 1)
    (confirm_cut g f s c (updater_rows_lem z _ _ _ _)
    (ap (λ (y : StateSizes). set_magic_ops y (magic Boot) f.state) e) k h)
