-- Two flashes that differ only in what active and DFU hold: their boots have the same operations but for the bytes written to an
-- image, so they answer alike (specs/Alike). The other calls have the very same operations. Assumes nothing.
use mathlib.Core.Path.{◌≡◌, refl, sym, ap, ap₂, ◌∙◌, subst, subst₂}
use mathlib.Core.Bool.{Bool, true, false}
use Rattle.std.specs.Prelude.{Option, None, Some}
use mathlib.Core.List.{List, [], ◌∷◌, ◌++◌}
use Prim.Native.Nat.{ℕ, zero, suc, ◌+◌, ◌*◌, ◌/◌}
use lib.ListN.{length, take, drop, length-take, length-drop}
use lib.Dec.{eqb, leb, ltb}
use Rattle.state.specs.declared.Cell.{Cell}
use Rattle.state.specs.declared.State.{State}
use Rattle.state.specs.declared.State.TheVariants.{Boot, Swap, Revert, DfuDetach}
use Rattle.state.specs.Choice.{pick}
use Rattle.state.specs.Magic.{magic}
use Rattle.geometry.specs.declared.Geometry.{Geometry}
use Rattle.geometry.specs.declared.Sizes.{Sizes}
use Rattle.geometry.specs.Geometry.{cell, page, pages}
use Rattle.geometry.specs.Refusals.{boot_refusal, updater_refusal}
use Rattle.mem_flash.specs.Flash.{Area, active, dfu, state, Flash, Op, erase, write, erased_at, written_at, change, apply, apply_all, after, erase_ops}
use Rattle.mem_flash.proofs.Stretches.{length_erased, length_written}
use Rattle.mem_flash.proofs.After.{after_none, after_first, after_next}
use Rattle.rules.specs.StateArea.{read_state, progress, mark_op, invalidate_op}
use Rattle.rules.specs.Steps.{Copy, source_of, unit_of, chunk_ops, fill_ops, copy_ops, once_ops, copies_ops, swap_steps, revert_steps, page_count, swap_ops, revert_ops}
use Rattle.rules.specs.Calls.{Report, Call, report, left}
use Rattle.rules.specs.Boot.{renew_ops, finish_ops, swap_or_revert_ops, confirming, boot_ops_in, boot_ops, prepare_boot, get_state}
use Rattle.rules.specs.FirmwareState.{set_magic_ops, mark}
use Rattle.rules.specs.FirmwareUpdater.{pieces, pieces_ops, remembered, pending, past_end, bad_range, updater_call, updater_get_state, updater_mark, updater_mark_updated, updater_mark_dfu, updater_mark_booted, read_dfu, write_firmware, memory, prepare_update, check_and_mark_updated, wrong_sum}
use Rattle.power.specs.Alike.{Alike, SameAnswers, ImagesAside}

-- ---- operations that are alike

-- as long, and for the state area the same
abbrev Like : Area → List ℕ → List ℕ → Type 0
Like active xs ys = length xs ≡ length ys
Like dfu xs ys = length xs ≡ length ys
Like state xs ys = xs ≡ ys

-- the same operations, but for the bytes written to an image
data AlikeOps : List Op → List Op → Type 0 where
  nothing : AlikeOps [] []
  erases : {c : Cell} {a : Area} {at n : ℕ} {os ps : List Op} → AlikeOps os ps → AlikeOps (erase c a at n ∷ os) (erase c a at n ∷ ps)
  writes : {c : Cell} {a : Area} {at : ℕ} {xs ys : List ℕ} {os ps : List Op} → Like a xs ys → AlikeOps os ps
      → AlikeOps (write c a at xs ∷ os) (write c a at ys ∷ ps)

like_refl : (a : Area) (xs : List ℕ) → Like a xs xs
like_refl active xs = refl
like_refl dfu xs = refl
like_refl state xs = refl

same : (os : List Op) → AlikeOps os os
same [] = nothing
same (erase c a at n ∷ os) = erases (same os)
same (write c a at bs ∷ os) = writes (like_refl a bs) (same os)

like_part : (a : Area) (b from : ℕ) (xs ys : List ℕ) → Like a xs ys → Like a (take b (drop from xs)) (take b (drop from ys))
like_part active b from xs ys e = simp (length-take, length-drop, e)
like_part dfu b from xs ys e = simp (length-take, length-drop, e)
like_part state b from xs ys e = ap (λ (l : List ℕ). take b (drop from l)) e

-- ---- what they leave is alike

apply_erase : (c : Cell) (a : Area) (at n : ℕ) (f h : Flash) → Alike f h → Alike (apply (erase c a at n) f) (apply (erase c a at n) h)
unfolding apply change
apply_erase c active at n f h e =
    record {
      active = length_erased c at n f.active ∙ e.active
          ∙ sym (length_erased c at n h.active);
      dfu = e.dfu;
      state = e.state;
    }
apply_erase c dfu at n f h e =
    record {
      active = e.active;
      dfu = length_erased c at n f.dfu ∙ e.dfu
          ∙ sym (length_erased c at n h.dfu);
      state = e.state;
    }
apply_erase c state at n f h e = record { active = e.active; dfu = e.dfu; state = ap (erased_at c at n) e.state }

apply_write : (c : Cell) (a : Area) (at : ℕ) (xs ys : List ℕ) (f h : Flash) → Like a xs ys → Alike f h
    → Alike (apply (write c a at xs) f) (apply (write c a at ys) h)
unfolding apply change
apply_write c active at xs ys f h l e =
    record {
      active = length_written c at xs f.active ∙ e.active
          ∙ sym (length_written c at ys h.active);
      dfu = e.dfu;
      state = e.state;
    }
apply_write c dfu at xs ys f h l e =
    record {
      active = e.active;
      dfu = length_written c at xs f.dfu ∙ e.dfu
          ∙ sym (length_written c at ys h.dfu);
      state = e.state;
    }
apply_write c state at xs ys f h l e = record { active = e.active; dfu = e.dfu; state = ap₂ (written_at c at) l e.state }

alike_all : {os ps : List Op} → AlikeOps os ps → (f h : Flash) → Alike f h → Alike (apply_all os f) (apply_all ps h)
unfolding apply_all
alike_all nothing f h e = e
alike_all (erases {c = c} {a = a} {at = at} {n = n} r) f h e =
    alike_all r (apply (erase c a at n) f) (apply (erase c a at n) h) (apply_erase c a at n f h e)
alike_all (writes {c = c} {a = a} {at = at} {xs = xs} {ys = ys} l r) f h e =
    alike_all r (apply (write c a at xs) f) (apply (write c a at ys) h) (apply_write c a at xs ys f h l e)

alike_count : {os ps : List Op} → AlikeOps os ps → length os ≡ length ps
alike_count nothing = refl
alike_count (erases r) = ap suc (alike_count r)
alike_count (writes l r) = ap suc (alike_count r)

-- and so is what a cut leaves of them
alike_after : (k : ℕ) {os ps : List Op} → AlikeOps os ps → (f h : Flash) → Alike f h → Alike (after k os f) (after k ps h)
alike_after zero {os} {ps} r f h e = subst₂ Alike (sym (after_first os f)) (sym (after_first ps h)) e
alike_after (suc k) nothing f h e = subst₂ Alike (sym (after_none (suc k) f)) (sym (after_none (suc k) h)) e
alike_after (suc k) (erases {c = c} {a = a} {at = at} {n = n} {os = os} {ps = ps} r) f h e =
    subst₂ Alike (sym (after_next k (erase c a at n) os f)) (sym (after_next k (erase c a at n) ps h))
    (alike_after k r (apply (erase c a at n) f) (apply (erase c a at n) h) (apply_erase c a at n f h e))
alike_after (suc k) (writes {c = c} {a = a} {at = at} {xs = xs} {ys = ys} {os = os} {ps = ps} l r) f h e =
    subst₂ Alike (sym (after_next k (write c a at xs) os f)) (sym (after_next k (write c a at ys) ps h))
    (alike_after k r (apply (write c a at xs) f) (apply (write c a at ys) h) (apply_write c a at xs ys f h l e))

alike_append : {os ps : List Op} → AlikeOps os ps → (us vs : List Op) → AlikeOps us vs → AlikeOps (os ++ us) (ps ++ vs)
alike_append nothing us vs s = s
alike_append (erases r) us vs s = erases (alike_append r us vs s)
alike_append (writes l r) us vs s = writes l (alike_append r us vs s)

alike_pick : (b : Bool) {os ps us vs : List Op} → AlikeOps os ps → AlikeOps us vs → AlikeOps (pick b os us) (pick b ps vs)
unfolding pick
alike_pick true r s = r
alike_pick false r s = s

-- ---- the operations of a boot

alike_chunks : (c : Cell) (n : ℕ) (a : Area) (at from b : ℕ) (xs ys : List ℕ) → Like a xs ys
    → AlikeOps (chunk_ops c n a at from b xs) (chunk_ops c n a at from b ys)
unfolding chunk_ops
alike_chunks c zero a at from b xs ys l = nothing
alike_chunks c (suc n) a at from b xs ys l = writes (like_part a b from xs ys l) (alike_chunks c n a (at + b) (from + b) b xs ys l)

like_source : (a : Area) (f h : Flash) → Alike f h → Like a (source_of a f) (source_of a h)
unfolding source_of
like_source active f h e = e.dfu
like_source dfu f h e = e.active
like_source state f h e = e.state

module _ (g : Geometry) where
  alike_copy : (c : Copy) (f h : Flash) → Alike f h → AlikeOps (copy_ops g c f) (copy_ops g c h)
  unfolding copy_ops fill_ops
  alike_copy c f h e =
      alike_append
      (alike_append (same (erase_ops (cell g.state) (unit_of g c.to) c.to (c.target * page g) (page g))) _ _
      (alike_chunks (cell g.state) (page g / g.b) c.to (c.target * page g) (c.source * page g) g.b (source_of c.to f)
      (source_of c.to h)
      (like_source c.to f h e)))
      _ _ (same (mark_op g.state c.mark ∷ []))

  alike_once : (c : Copy) (f h : Flash) → Alike f h → AlikeOps (once_ops g c f) (once_ops g c h)
  unfolding once_ops
  alike_once c f h e =
      subst (λ (st : List ℕ). AlikeOps (once_ops g c f) (pick (leb (progress g.state st) c.mark) (copy_ops g c h) [])) e.state
      (alike_pick (leb (progress g.state f.state) c.mark) (alike_copy c f h e) nothing)

  alike_copies : (cs : List Copy) (f h : Flash) → Alike f h → AlikeOps (copies_ops g cs f) (copies_ops g cs h)
  unfolding copies_ops
  alike_copies [] f h e = nothing
  alike_copies (c ∷ cs) f h e =
      let o = alike_once c f h e in
      alike_append o _ _ (alike_copies cs (apply_all (once_ops g c f) f) (apply_all (once_ops g c h) h) (alike_all o f h e))

  module _ (f h : Flash) (e : Alike f h) where
    same_pages : page_count g f ≡ page_count g h
    unfolding page_count
    same_pages = ap (pages g) e.active

    alike_swap : AlikeOps (swap_ops g f) (swap_ops g h)
    unfolding swap_ops
    alike_swap =
        subst (λ (n : ℕ). AlikeOps (swap_ops g f) (copies_ops g (swap_steps n) h)) same_pages
        (alike_copies (swap_steps (page_count g f)) f h e)

    alike_revert : AlikeOps (revert_ops g f) (revert_ops g h)
    unfolding revert_ops
    alike_revert =
        subst (λ (n : ℕ). AlikeOps (revert_ops g f) (copies_ops g (revert_steps n) h)) same_pages
        (alike_copies (revert_steps (page_count g f)) f h e)

    same_finish : finish_ops g f ≡ finish_ops g h
    unfolding finish_ops
    same_finish = ap (λ (st : List ℕ). invalidate_op g.state ∷ renew_ops g.state (length st) (magic Revert)) e.state

    same_renew : renew_ops g.state (length f.state) (magic Boot) ≡ renew_ops g.state (length h.state) (magic Boot)
    same_renew = ap (λ (st : List ℕ). renew_ops g.state (length st) (magic Boot)) e.state

    same_confirming : confirming g.state (page_count g f) f.state ≡ confirming g.state (page_count g h) h.state
    same_confirming = ap₂ (confirming g.state) same_pages e.state

    -- the same operations by a path
    alike_path : (os ps : List Op) → os ≡ ps → AlikeOps os ps
    alike_path os ps p = subst (AlikeOps os) p (same os)

    alike_swap_or_revert : AlikeOps (swap_or_revert_ops g f) (swap_or_revert_ops g h)
    unfolding swap_or_revert_ops
    alike_swap_or_revert =
        subst (λ (b : Bool). AlikeOps (swap_or_revert_ops g f) (pick b (swap_ops g h) (revert_ops g h ++ finish_ops g h)))
        (ap₂ (λ (st : List ℕ) (n : ℕ). ltb (progress g.state st) (2 * n)) e.state same_pages)
        (alike_pick (ltb (progress g.state f.state) (2 * page_count g f)) alike_swap
        (alike_append alike_revert _ _ (alike_path (finish_ops g f) (finish_ops g h) same_finish)))

    alike_in : (s : State) → AlikeOps (boot_ops_in s g f) (boot_ops_in s g h)
    unfolding boot_ops_in
    alike_in Boot = nothing
    alike_in Swap =
        subst (λ (b : Bool). AlikeOps (boot_ops_in Swap g f)
        (pick b (renew_ops g.state (length h.state) (magic Boot)) (swap_or_revert_ops g h)))
        same_confirming
        (alike_pick (confirming g.state (page_count g f) f.state) (alike_path _ _ same_renew) alike_swap_or_revert)
    alike_in Revert = nothing
    alike_in DfuDetach = nothing

    alike_boot : AlikeOps (boot_ops g f) (boot_ops g h)
    unfolding boot_ops
    alike_boot =
        subst (λ (st : List ℕ). AlikeOps (boot_ops g f) (boot_ops_in (read_state g.state st) g h)) e.state
        (alike_in (read_state g.state f.state))

-- ---- calls

-- a report reads of a call its refusal, its state and how many operations it has
report_of : ℕ → Option State → ℕ → ℕ → Report
report_of r s n k =
    pick (eqb r 0)
    (pick (leb n k) (record { number = 0; state = s; count = n }) (record { number = 7; state = None; count = k }))
    (record { number = r; state = None; count = 0 })

left_alike : (b : Bool) (f f' h h' : Flash) → Alike f h → Alike f' h' → Alike (pick b f f') (pick b h h')
unfolding pick
left_alike true f f' h h' e e' = e
left_alike false f f' h h' e e' = e'

-- two calls with the same refusal, the same state and operations that are alike
same_answers : (c d : Call) (f h : Flash) → c.refusal ≡ d.refusal → c.state ≡ d.state → AlikeOps c.ops d.ops → Alike f h
    → SameAnswers c d f h
unfolding report_of report left
same_answers c d f h r s o e =
    record {
      answers = λ k. λ i. report_of (r i) (s i) (alike_count o i) k;
      leaves = λ k.
          subst (λ (n : ℕ). Alike (left c k f) (pick (eqb n 0) (after k d.ops h) h)) r
          (left_alike (eqb c.refusal 0) (after k c.ops f) f (after k d.ops h) h (alike_after k o f h e) e);
    }

-- a call of the updater, by what it takes from the DFU's length and from the state bytes
abbrev looking : Sizes → (ℕ → List ℕ → Bool) → (ℕ → List ℕ → Bool) → (List ℕ → Option State) → (ℕ → List ℕ → List Op)
    → ℕ → List ℕ → Call
looking z swap range s ops ld st =
    record { refusal = updater_refusal z ld (length st) (swap ld st) (range ld st); state = s st; ops = ops ld st }

module _ (f h : Flash) (e : Alike f h) where
  same_call : (c d : Call) → c ≡ d → SameAnswers c d f h
  same_call c d p =
      same_answers c d f h (ap (λ (x : Call). x.refusal) p) (ap (λ (x : Call). x.state) p)
      (subst (λ (x : Call). AlikeOps c.ops x.ops) p (same c.ops)) e

  -- a call that looks at the state bytes alone, and one that looks at the DFU's length besides
  of_state : (c : List ℕ → Call) → SameAnswers (c f.state) (c h.state) f h
  of_state c = same_call (c f.state) (c h.state) (ap c e.state)

  of_updater : (c : ℕ → List ℕ → Call) → SameAnswers (c (length f.dfu) f.state) (c (length h.dfu) h.state) f h
  of_updater c = same_call (c (length f.dfu) f.state) (c (length h.dfu) h.state) (ap₂ c e.dfu e.state)

  same_boot : (g : Geometry) → SameAnswers (prepare_boot g f) (prepare_boot g h) f h
  unfolding prepare_boot
  same_boot g =
      same_answers (prepare_boot g f) (prepare_boot g h) f h (λ i. boot_refusal g (e.active i) (e.dfu i) (length (e.state i)))
      (ap (λ (st : List ℕ). Some (read_state g.state st)) e.state) (alike_boot g f h e) e

  same_check : (z : Sizes) (n sum : ℕ) → take n f.dfu ≡ take n h.dfu
      → SameAnswers (check_and_mark_updated z n sum f) (check_and_mark_updated z n sum h) f h
  unfolding check_and_mark_updated wrong_sum
  same_check z n sum q = same_call (check_and_mark_updated z n sum f) (check_and_mark_updated z n sum h) (rw (e.dfu, e.state, q))

  pub images_aside : ImagesAside f h
  unfolding updater_call updater_get_state updater_mark updater_mark_updated updater_mark_dfu updater_mark_booted read_dfu write_firmware memory prepare_update
  images_aside =
      record {
        boot = same_boot;
        get_state_lem = λ z. of_state (get_state z);
        marks = λ s z. of_state (mark s z);
        updater_get_state_lem = λ z.
            of_updater (looking z (λ _ _. false) (λ _ _. false) (λ st. Some (read_state z.state st)) (λ _ _. []));
        updater_mark_updated_lem = λ z.
            of_updater (looking z (λ _ _. false) (λ _ _. false) (λ _. None)
            (λ _ st. set_magic_ops z.state (magic Swap) st));
        updater_mark_dfu_lem = λ z.
            of_updater
            (looking z (λ _ st. pending z.state st) (λ _ _. false) (λ _. None)
            (λ _ st. set_magic_ops z.state (magic DfuDetach) st));
        updater_mark_booted_lem = λ z.
            of_updater (looking z (λ _ _. false) (λ _ _. false) (λ _. None)
            (λ _ st. set_magic_ops z.state (magic Boot) st));
        check_and_mark_updated_lem = same_check;
        read_dfu_lem = λ z offset n.
            of_updater (looking z (λ _ _. false) (λ ld _. past_end ld offset n) (λ _. None) (λ _ _. []));
        write_firmware_lem = λ z m offset bytes.
            of_updater
            (looking z (λ _ st. pending z.state st) (λ ld _. bad_range z.wd ld offset (length bytes)) (λ _. None)
            (λ _ _. pieces_ops (cell z.state) z.ed m (pieces z.ed offset bytes)));
        prepare_update_lem = λ z.
            of_updater (looking z (λ _ st. pending z.state st) (λ _ _. false) (λ _. None) (λ ld _. erase_ops (cell z.state) z.ed dfu 0 ld));
        remembers = λ k z m offset bytes. λ i.
            pick
            (eqb (updater_refusal z (e.dfu i) (length (e.state i)) (pending z.state (e.state i))
            (bad_range z.wd (e.dfu i) offset (length bytes))) 0)
            (remembered z.ed (take k (pieces_ops (cell z.state) z.ed m (pieces z.ed offset bytes))) m)
            m;
      }
