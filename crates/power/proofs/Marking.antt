-- What a mark leaves (specs/Marking): `marking` for each of the three marks, `update_is_fresh` for mark_updated. Assumes nothing.
use mathlib.Core.Path.{◌≡◌, refl, sym, ap, ◌∙◌}
use mathlib.Core.Bool.{Bool, true, false}
use mathlib.Core.List.{List, [], ◌∷◌, ◌++◌}
use Prim.Native.Nat.{ℕ, ◌*◌, ◌/◌, ◌≤◌}
use native.Mathlib.Nat.{mul-le-mul_right, div-mul-le_self}
use native.Mathlib.Omega.{arith}
use lib.ListN.{length, replicate}
use borrow.Author.Tests.{ltb-false}
use Rattle.state.specs.declared.State.{State}
use Rattle.state.specs.declared.State.TheVariants.{Swap}
use Rattle.state.specs.Choice.{pick}
use Rattle.state.specs.Cells.{marked}
use Rattle.state.specs.Magic.{magic, throughout}
use Rattle.geometry.specs.declared.StateSizes.{StateSizes}
use Rattle.geometry.specs.declared.Geometry.{Geometry}
use Rattle.geometry.specs.Geometry.{cell, words}
use Rattle.geometry.specs.Refusals.{bad_state, other_words, state_refusal}
use Rattle.geometry.proofs.Tests.{any_none, row_none, even, even_times}
use Rattle.mem_flash.specs.Flash.{Flash, Op, written_at, apply_all, after}
use Rattle.mem_flash.proofs.Stretches.{length_written}
use Rattle.mem_flash.proofs.After.{after_all, after_none, after_lengths}
use Rattle.rules.specs.StateArea.{word, valid, invalidate_op}
use Rattle.rules.specs.Calls.{Call, left}
use Rattle.rules.specs.Boot.{renew_ops}
use Rattle.rules.specs.FirmwareState.{set_magic_ops, mark}
use Rattle.rules.specs.Power.{magic_area, Fresh}
use Rattle.rules.proofs.Endings.{Ending, refused, done, cut, ending, left_refused, left_admitted, state_rows, is_done}
use Rattle.way.proofs.Finish.{closed, closed_void, renewed}
use Rattle.power.specs.Power.{restated}
use Rattle.power.specs.Marking.{Marking, UpdateIsFresh}

-- an admitted state area has a word, and whole erase units, whatever it holds
state_word : (z : StateSizes) (ls : ℕ) → state_refusal z ls ≡ 0 → (z.ws ≤ ls) × (ls / z.es * z.es ≡ ls)
unfolding state_refusal bad_state other_words words
state_word z ls r =
    let a = row_none _ _ _ (row_none _ _ _ r).1 in
    let e = any_none _ _ (any_none _ _ a.0).1 in
    let two : 2 ≤ ls / z.ws = ltb-false (ls / z.ws) 2 (any_none _ _ e.1).0 in (
      omega (arith, mul-le-mul_right {m = 2} {n = ls / z.ws} z.ws two, div-mul-le_self ls z.ws),
      even_times ls z.es (even ls z.es e.0),
    )

-- a call without operations leaves the flash, and every call leaves the state area's length
idle_leaves : (c : Call) (k : ℕ) (f : Flash) → c.ops ≡ [] → Ending c k → left c k f ≡ f
idle_leaves c k f e (refused r) = left_refused c k f r
idle_leaves c k f e (done a l) = left_admitted c k f a ∙ ap (λ (os : List Op). after k os f) e ∙ after_none k f
idle_leaves c k f e (cut a l) = left_admitted c k f a ∙ ap (λ (os : List Op). after k os f) e ∙ after_none k f

left_length : (c : Call) (k : ℕ) (f : Flash) → Ending c k → length (left c k f).state ≡ length f.state
left_length c k f (refused r) = ap (λ (x : Flash). length x.state) (left_refused c k f r)
left_length c k f (done a l) =
    ap (λ (x : Flash). length x.state) (left_admitted c k f a) ∙ (after_lengths k c.ops f).state
left_length c k f (cut a l) =
    ap (λ (x : Flash). length x.state) (left_admitted c k f a) ∙ (after_lengths k c.ops f).state

module _ (s : State) (z : StateSizes) (f : Flash) where
  abbrev st : List ℕ
  st = f.state

  -- the invalidation, if the progress is valid, and then the renewal
  marked_state : (b : Bool) → (z.ws ≤ length st) × (length st / z.es * z.es ≡ length st)
      → apply_all (pick b (invalidate_op z ∷ []) [] ++ renew_ops z (length st) (magic s)) f
      ≡ restated (magic_area z s (length st)) f
  unfolding pick apply_all closed
  marked_state true fit =
      ap (apply_all (renew_ops z (length st) (magic s))) (closed_void f.active f.dfu z st)
      ∙ renewed f.active f.dfu s z (length st) (written_at (cell z) z.ws (replicate z.ws (marked (cell z))) st) fit.1
      (length_written (cell z) z.ws (replicate z.ws (marked (cell z))) st) fit.0
  marked_state false fit = renewed f.active f.dfu s z (length st) st fit.1 refl fit.0

  abbrev call : Call
  call = mark s z st

  pub marking : (k : ℕ) → Marking s z f k
  unfolding mark set_magic_ops pick
  marking k =
      record {
        already = λ e. same (none e) (ending call k);
        fresh = λ e r. fresh e
            (is_done call (state_rows z _) k (ending call k) r);
      }
    where
      none : throughout (magic s) (word z 0 st) ≡ true → call.ops ≡ []
      none e = rw e

      same : call.ops ≡ [] → Ending call k → left call k f ≡ f
      same e x = idle_leaves call k f e x

      fresh : throughout (magic s) (word z 0 st) ≡ false → (call.refusal ≡ 0) × (length call.ops ≤ k)
          → left call k f ≡ restated (magic_area z s (length st)) f
      fresh e d =
          left_admitted call k f d.0 ∙ after_all k call.ops f d.1
          ∙ ap (λ (b : Bool). apply_all (pick b []
          (pick (valid z st) (invalidate_op z ∷ []) [] ++ renew_ops z (length st) (magic s))) f) e
          ∙ marked_state (valid z st) (state_word z (length st) d.0)

pub update_is_fresh : (g : Geometry) (f : Flash) (k : ℕ) → UpdateIsFresh g f k
unfolding Fresh
update_is_fresh g f k e r =
    let c : Call = mark Swap g.state f.state in
    ap (λ (x : Flash). x.state) ((marking Swap g.state f k).fresh e r)
    ∙ ap (magic_area g.state Swap) (sym (left_length c k f (ending c k)))
