-- How many operations a call does at the most, which a count of 32 bits holds many times over (specs/Cuts, `EveryCount`). A boot runs 2N
-- steps and then two operations and the state's units; a mark no more than those; a write two for each byte; prepare_update the DFU's
-- units. Assumes nothing.
use mathlib.Core.Path.{◌≡◌, refl, ap}
use mathlib.Core.Bool.{Bool, true, false}
use mathlib.Core.List.{List, [], ◌∷◌, ◌++◌}
use Prim.Native.Nat.{ℕ, zero, suc, ◌+◌, ◌*◌, ◌/◌, ◌≤◌, ◌<◌, max, zero-le}
use native.Mathlib.Nat.{mul-le-mul_left, div-le_self, le-max_left, le-max_right}
use native.Mathlib.Omega.{arith}
use lib.Dec.{eqb, lit<}
use lib.ListN.{length, drop, length-append}
use borrow.Author.Tests.{ltb-false, eqb-true}
use Rattle.state.specs.declared.Cell.{Cell}
use Rattle.state.specs.declared.State.{State}
use Rattle.state.specs.declared.State.TheVariants.{Boot, Swap, Revert, DfuDetach}
use Rattle.state.specs.Choice.{pick}
use Rattle.state.specs.Magic.{magic}
use Rattle.geometry.specs.declared.StateSizes.{StateSizes}
use Rattle.geometry.specs.declared.Geometry.{Geometry}
use Rattle.geometry.specs.declared.Sizes.{Sizes}
use Rattle.geometry.specs.Geometry.{cell, page, pages}
use Rattle.geometry.specs.Refusals.{any, most_length, uneven, outside, state_refusal, state_numbers, updater_numbers, updater_rows, updater_refusal}
use Rattle.geometry.proofs.Rows.{admitted, updater_admits, checked_none}
use Rattle.geometry.proofs.Tests.{any_none, row_none, length_in, even_times}
use Rattle.geometry.proofs.PageSize.{page_some}
use Rattle.mem_flash.specs.Flash.{Area, active, dfu, state, Flash, Op, erase, write, apply_all}
use Rattle.mem_flash.specs.Areas.{Image}
use Rattle.mem_flash.proofs.Erases.{erase_count}
use Rattle.rules.specs.FirmwareUpdater.{Sector}
use Rattle.std.specs.Prelude.{Some}
use Rattle.rules.specs.StateArea.{valid, invalidate_op}
use Rattle.rules.specs.Steps.{Copy, unit_of, copy_ops, once_ops, copies_ops, swap_steps, revert_steps, page_count, swap_ops, revert_ops}
use Rattle.rules.specs.Boot.{renew_ops, finish_ops, swap_or_revert_ops, boot_ops_in, boot_ops, prepare_boot}
use Rattle.rules.specs.FirmwareState.{set_magic_ops, mark}
use Rattle.rules.specs.FirmwareUpdater.{room, Piece, pieces_from, pieces, remembers, pieces_ops, past_end, bad_range, updater_call, updater_mark, updater_mark_updated, updater_mark_dfu, updater_mark_booted, write_firmware, prepare_update, check_and_mark_updated}
use Rattle.rules.specs.Power.{state_units, step_cost, dearer_cost}
use Rattle.way.proofs.Costs.{step_count}
use Rattle.way.proofs.Tables.{swap_count, revert_count, StepRow, swap_row, revert_row}
use Rattle.way.proofs.Finish.{renew_count, finish_count}
use Rattle.power.specs.Cuts.{AtMost, most_in_boot, most_in_mark, most_in_write, most_in_prepare, EveryCount}

-- one of two lists
pick_count : (b : Bool) (os ps : List Op) (n : ℕ) → length os ≤ n → length ps ≤ n → length (pick b os ps) ≤ n
unfolding pick
pick_count true os ps n h k = h
pick_count false os ps n h k = k

-- ---- prepare_boot

once_count : (g : Geometry) (c : Copy) (f : Flash) → Image c.to → length (once_ops g c f) ≤ dearer_cost g
unfolding once_ops dearer_cost
once_count g c f i = pick_count _ (copy_ops g c f) [] (dearer_cost g) (go c.to i (step_count g c f)) zero-le
  where
    go : (a : Area) → Image a → length (copy_ops g c f) ≡ step_cost g a → length (copy_ops g c f) ≤ max (step_cost g dfu) (step_cost g active)
    go active i e = rw e (le-max_right (step_cost g dfu) (step_cost g active))
    go dfu i e = rw e (le-max_left (step_cost g dfu) (step_cost g active))
    go state i e = absurd i

copies_count : (g : Geometry) (cs : List Copy) (i : ℕ) (f : Flash) → StepRow i cs → length (copies_ops g cs f) ≤ length cs * dearer_cost g
unfolding copies_ops
copies_count g [] i f r = zero-le
copies_count g (c ∷ cs) i f r =
    omega (
      arith,
      length-append (once_ops g c f) (copies_ops g cs (apply_all (once_ops g c f) f)),
      once_count g c f r.0,
      copies_count g cs (suc i) (apply_all (once_ops g c f) f) r.2,
    )

module _ (g : Geometry) (f : Flash) where
  abbrev N : ℕ
  N = page_count g f

  abbrev most : ℕ
  most = 2 * N * dearer_cost g + (2 + state_units g f)

  swap_most : length (swap_ops g f) ≤ most
  unfolding swap_ops swap_steps
  swap_most = omega (arith, copies_count g (swap_steps N) 0 f (swap_row N 0), ap (λ (n : ℕ). n * dearer_cost g) (swap_count N 0))

  revert_most : length (revert_ops g f ++ finish_ops g f) ≤ most
  unfolding revert_ops revert_steps state_units
  revert_most =
      omega (
        arith,
        length-append (revert_ops g f) (finish_ops g f),
        finish_count g f,
        copies_count g (revert_steps N) (2 * N) f (revert_row N 0 (2 * N)),
        ap
            (λ (n : ℕ). n * dearer_cost g) (revert_count N 0 (2 * N)),
      )

  boot_in_most : (s : State) → length (boot_ops_in s g f) ≤ most
  unfolding boot_ops_in swap_or_revert_ops state_units
  boot_in_most Boot = zero-le
  boot_in_most Swap =
      pick_count _ (renew_ops g.state (length f.state) (magic Boot)) (swap_or_revert_ops g f) _
      (omega (arith, renew_count g.state (length f.state) (magic Boot)))
      (pick_count _ (swap_ops g f) (revert_ops g f ++ finish_ops g f) _ swap_most revert_most)
  boot_in_most Revert = zero-le
  boot_in_most DfuDetach = zero-le

  -- 2N steps and the end of a revert, whatever the flash holds
  pub boot_most : length (boot_ops g f) ≤ most
  unfolding boot_ops
  boot_most = boot_in_most _

  -- a step costs at most three operations a byte of the page, and the pages and the state's units are within the longest area
  boot_count : AtMost most_in_boot (prepare_boot g f)
  unfolding prepare_boot page_count pages step_cost dearer_cost state_units most_in_boot
  boot_count r =
      let a = admitted g (length f.active) (length f.dfu) (length f.state) r in
      let p : 0 < page g = page_some a.numbers in
      let whole : length f.active / page g * page g ≡ length f.active =
      even_times (length f.active) (page g) a.active_pages in
      let step : dearer_cost g ≤ 3 * page g =
      omega (
        arith,
        div-le_self (page g) g.b,
        div-le_self (page g) (unit_of g dfu),
        div-le_self (page g) (unit_of g active),
      ) in
      let all : N * dearer_cost g ≤ N * (3 * page g) = mul-le-mul_left N step in
      omega (arith, boot_most, a.active_most, a.state_most, div-le_self (length f.state) g.state.es)

-- ---- marks: invalidate, erase, write

marks_most : (z : StateSizes) (m : ℕ) (st : List ℕ) → length (set_magic_ops z m st) ≤ 2 + length st
unfolding set_magic_ops
marks_most z m st =
    pick_count _ [] (pick (valid z st) (invalidate_op z ∷ []) [] ++ renew_ops z (length st) m) (2 + length st) zero-le
    (omega (
      arith,
      length-append (pick (valid z st) (invalidate_op z ∷ []) []) (renew_ops z (length st) m),
      pick_count (valid z st)
          (invalidate_op z ∷ []) [] 1 (omega arith) zero-le,
      renew_count z (length st) m,
      div-le_self (length st) z.es,
    ))

state_most : (z : StateSizes) (ls : ℕ) → state_refusal z ls ≡ 0 → ls ≤ most_length
unfolding state_refusal outside state_numbers
state_most z ls r =
    let a = any_none _ _ (row_none _ _ _ r).0 in
    let b = any_none _ _ a.1 in
    let v = any_none _ _ b.1 in
    length_in _ (any_none _ _ v.1).0

-- what the updater's rows say of the lengths, and of the range
record Lengths (ld ls : ℕ) (range : Bool) : Type 0 where
  dfu : ld ≤ most_length
  state : ls ≤ most_length
  inside : range ≡ false

lengths : (z : Sizes) (ld ls : ℕ) (swap range : Bool) → updater_refusal z ld ls swap range ≡ 0 → Lengths ld ls range
unfolding updater_refusal updater_rows outside updater_numbers state_numbers
lengths z ld ls swap range r =
    let a = row_none _ _ _ r in
    let i = any_none _ _ a.0 in
    let j = any_none _ _ i.1 in
    let k = any_none _ _ j.1 in
    let l = any_none _ _ k.1 in
    let v = any_none _ _ l.1 in
    let m = any_none _ _ v.1 in
    record {
      dfu = length_in _ m.0;
      state = length_in _ (any_none _ _ m.1).0;
      inside = (updater_admits z ld ls swap range r).1;
    }

marks_count : (z : StateSizes) (m : ℕ) (st : List ℕ) → length st ≤ most_length → length (set_magic_ops z m st) ≤ most_in_mark
unfolding most_in_mark
marks_count z m st h = omega (arith, marks_most z m st)

-- ---- write_firmware: a piece has a byte or more, and takes an erase and a write

pieces_most : (n ed at : ℕ) (bytes : List ℕ) → length (pieces_from n ed at bytes) ≤ n
unfolding pieces_from
pieces_most zero ed at bytes = zero-le
pieces_most (suc n) ed at [] = zero-le
pieces_most (suc n) ed at (b ∷ bs) = omega (arith, pieces_most n ed (at + room ed at) (drop (room ed at) (b ∷ bs)))

writes_most : (c : Cell) (ed : ℕ) (m : Sector) (ps : List Piece) → length (pieces_ops c ed m ps) ≤ 2 * length ps
unfolding pieces_ops
writes_most c ed m [] = zero-le
writes_most c ed m (p ∷ ps) =
    let first : List Op = pick (remembers m (p.at / ed)) [] (erase c dfu (p.at / ed * ed) ed ∷ []) in
    let one : length first ≤ 1 = pick_count _ [] (erase c dfu (p.at / ed * ed) ed ∷ []) 1 zero-le (omega arith) in
    omega (
      arith,
      length-append first (write c dfu p.at p.bytes ∷ pieces_ops c ed (Some (p.at / ed)) ps),
      writes_most c ed
          (Some (p.at / ed)) ps,
    )

-- data that is not refused fits into the longest area
range_most : (wd ld offset n : ℕ) → ld ≤ most_length → bad_range wd ld offset n ≡ false → n ≤ most_length
unfolding bad_range past_end pick
range_most wd ld offset n h e = go (eqb n 0) refl e
  where
    go : (b : Bool) → eqb n 0 ≡ b → pick b false (any (uneven offset wd ∷ uneven n wd ∷ past_end ld offset n ∷ [])) ≡ false
        → n ≤ most_length
    go true z r = omega (arith, eqb-true n 0 z)
    go false z r =
        let a = any_none _ _ r in
        let b = any_none _ _ a.1 in
        let c = any_none _ _ b.1 in
        omega (arith, ltb-false ld (offset + n) c.0)

module _ (z : Sizes) (m : Sector) (offset : ℕ) (bytes : List ℕ) (f : Flash) where
  write_count : AtMost most_in_write (write_firmware z m offset bytes f)
  unfolding write_firmware updater_call pieces most_in_write
  write_count r =
      let a = lengths z (length f.dfu) (length f.state) _ _ r in
      let few : length bytes ≤ most_length = range_most z.wd (length f.dfu) offset (length bytes) a.dfu a.inside in
      omega
      (arith, writes_most (cell z.state) z.ed m (pieces z.ed offset bytes), pieces_most (length bytes) z.ed offset bytes, few)

-- ---- prepare_update

prepare_count : (z : Sizes) (f : Flash) → AtMost most_in_prepare (prepare_update z f)
unfolding prepare_update updater_call most_in_prepare
prepare_count z f r =
    omega (
      arith,
      erase_count (cell z.state) z.ed dfu 0 (length f.dfu),
      div-le_self (length f.dfu) z.ed,
      (lengths z (length f.dfu) (length f.state) _ _ r).dfu,
    )

-- ---- every call that does operations

pub every_count : EveryCount
unfolding most_length most_in_boot most_in_mark most_in_write most_in_prepare mark updater_call updater_mark updater_mark_updated updater_mark_dfu updater_mark_booted check_and_mark_updated
every_count =
    record {
      boot = boot_count;
      marks = λ s z st r. marks_count z (magic s) st (state_most z (length st) r);
      updater_mark_updated_lem = λ z f r. marks_count z.state (magic Swap) f.state (lengths z _ _ _ _ r).state;
      updater_mark_dfu_lem = λ z f r. marks_count z.state (magic DfuDetach) f.state (lengths z _ _ _ _ r).state;
      updater_mark_booted_lem = λ z f r. marks_count z.state (magic Boot) f.state (lengths z _ _ _ _ r).state;
      check_and_mark_updated_lem = λ z n sum f r.
          marks_count z.state (magic Swap) f.state (lengths z _ _ _ _ (checked_none z _ _ _ _ _ r).1).state;
      write_firmware_lem = write_count;
      prepare_update_lem = prepare_count;
      most = (omega arith, omega arith, omega arith);
      fits = lit< tt;
    }
