-- The laws of every call under every budget (specs/Cuts): `lawful` for any call with a number of the table, `every_call` for
-- those of the crate. Assumes nothing.
use mathlib.Core.Path.{◌≡◌, sym, ap, ◌∙◌}
use mathlib.Core.Logic.{◌≢◌}
use Prim.Native.Nat.{ℕ, ◌≤◌, zero-le}
use native.Mathlib.Omega.{arith}
use lib.ListN.{length}
use Rattle.mem_flash.specs.Flash.{Flash, apply_all}
use Rattle.mem_flash.proofs.After.{after_all}
use Rattle.rules.specs.Calls.{Report, Call, report, left}
use Rattle.rules.specs.Boot.{prepare_boot, get_state}
use Rattle.rules.specs.FirmwareState.{mark}
use Rattle.rules.specs.FirmwareUpdater.{updater_call, updater_get_state, updater_mark, updater_mark_updated, updater_mark_dfu, updater_mark_booted, read_dfu, write_firmware, prepare_update, check_and_mark_updated}
use Rattle.rules.proofs.Endings.{report_number, Ending, refused, done, cut, ending, is_cut, is_done, report_refused, report_done, report_cut, left_refused, left_admitted, boot_rows, state_rows, updater_rows_lem, checked_rows}
use Rattle.power.specs.Cuts.{Lawful, EveryCall}

module _ (c : Call) (table : c.refusal ≢ 7) where
  counts : (k : ℕ) → Ending c k → (report c k).count ≤ k
  counts k (refused r) = rw (report_refused c k r) zero-le
  counts k (done z l) = rw (report_done c k z l) l
  counts k (cut z l) = rw (report_cut c k z l) (omega arith)

  leaves : (k : ℕ) (f : Flash) → (c.refusal ≡ 0) × (length c.ops ≤ k) → left c k f ≡ apply_all c.ops f
  leaves k f d = left_admitted c k f d.0 ∙ after_all k c.ops f d.1

  pub lawful : Lawful c
  lawful =
      record {
        cut = λ k e. is_cut c table k (ending c k) e;
        cut_if = λ k z l. ap report_number (report_cut c k z l);
        cut_leaves = λ k f e.
            let d = is_cut c table k (ending c k) e in
            (left_admitted c k f d.0, ap (λ (t : Report). t.count) (report_cut c k d.0 d.1));
        done_leaves = λ k f e.
            let d = is_done c table k (ending c k) e in
            (leaves k f d, ap (λ (t : Report). t.count) (report_done c k d.0 d.1));
        more = λ k j f e h.
            let d = is_done c table k (ending c k) e in
            let l : length c.ops ≤ j = omega (arith, d.1) in
            (report_done c j d.0 l ∙ sym (report_done c k d.0 d.1), leaves j f (d.0, l) ∙ sym (leaves k f d));
        count = λ k. counts k (ending c k);
        refused = λ k f r. (report_refused c k r, left_refused c k f r);
      }

-- the calls of the crate: the table of each has no row 7
pub every_call : EveryCall
unfolding prepare_boot get_state mark updater_call updater_get_state updater_mark updater_mark_updated updater_mark_dfu updater_mark_booted check_and_mark_updated read_dfu write_firmware prepare_update
every_call =
    record {
      boot = λ g f. lawful _ (boot_rows g _ _ _);
      get_state_lem = λ z st. lawful _ (state_rows z _);
      marks = λ s z st. lawful _ (state_rows z _);
      updater_get_state_lem = λ z f. lawful _ (updater_rows_lem z _ _ _ _);
      updater_mark_updated_lem = λ z f. lawful _ (updater_rows_lem z _ _ _ _);
      updater_mark_dfu_lem = λ z f. lawful _ (updater_rows_lem z _ _ _ _);
      updater_mark_booted_lem = λ z f. lawful _ (updater_rows_lem z _ _ _ _);
      check_and_mark_updated_lem = λ z n sum f. lawful _ (checked_rows z _ _ _ _ _);
      read_dfu_lem = λ z offset n f. lawful _ (updater_rows_lem z _ _ _ _);
      write_firmware_lem = λ z m offset bytes f. lawful _ (updater_rows_lem z _ _ _ _);
      prepare_update_lem = λ z f. lawful _ (updater_rows_lem z _ _ _ _);
    }
