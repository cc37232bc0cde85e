-- Document 01, "A call has a budget K" and "When a call says no": what holds of every call under every budget, and how many
-- operations the calls do. Proved in proofs/Cuts and proofs/Counts. Assumes nothing.
use Rattle.std.specs.Prelude.{◌≡◌, List, ℕ, ◌+◌, ◌*◌, ◌≤◌, ◌<◌, length}
use Rattle.std.specs.Prelude.{None}
use Rattle.state.specs.declared.State.{State}
use Rattle.geometry.specs.declared.StateSizes.{StateSizes}
use Rattle.geometry.specs.declared.Geometry.{Geometry}
use Rattle.geometry.specs.declared.Sizes.{Sizes}
use Rattle.geometry.specs.Refusals.{most_length}
use Rattle.mem_flash.specs.Flash.{Flash, apply_all, after, Supply}
use Rattle.rules.specs.FirmwareUpdater.{Sector}
use Rattle.rules.specs.Calls.{Call, report, left}
use Rattle.rules.specs.Boot.{prepare_boot, get_state}
use Rattle.rules.specs.FirmwareState.{mark}
use Rattle.rules.specs.FirmwareUpdater.{updater_get_state, updater_mark_updated, updater_mark_dfu, updater_mark_booted, read_dfu, write_firmware, prepare_update, check_and_mark_updated}

-- one call
pub record Lawful (c : Call) : Type 0 where
  -- it is cut exactly if it is not refused and its run without a budget would do more than k
  pub cut : (k : Supply) → (report c k).number ≡ 7 → (c.refusal ≡ 0) × (k < length c.ops)
  pub cut_if : (k : Supply) → c.refusal ≡ 0 → k < length c.ops → (report c k).number ≡ 7
  -- a cut leaves precisely the first k operations, and counts them
  pub cut_leaves : (k : Supply) (f : Flash) → (report c k).number ≡ 7 → (left c k f ≡ after k c.ops f) × ((report c k).count ≡ k)
  -- done, all operations are, and they are counted
  pub done_leaves : (k : Supply) (f : Flash) → (report c k).number ≡ 0
      → (left c k f ≡ apply_all c.ops f) × ((report c k).count ≡ length c.ops)
  -- once a budget is enough, a larger one gives the same answer and the same flash
  pub more : (k j : Supply) (f : Flash) → (report c k).number ≡ 0 → k ≤ j → (report c j ≡ report c k) × (left c j f ≡ left c k f)
  -- the count never exceeds the budget
  pub count : (k : Supply) → (report c k).count ≤ k
  -- a refusal changes nothing, carries no state and counts 0
  pub refused : (k : Supply) (f : Flash) → 0 < c.refusal
      → (report c k ≡ record { number = c.refusal; state = None; count = 0 }) × (left c k f ≡ f)

-- every call of the crate
pub record EveryCall : Type 0 where
  pub boot : (g : Geometry) (f : Flash) → Lawful (prepare_boot g f)
  pub get_state_lem : (z : StateSizes) (st : List ℕ) → Lawful (get_state z st)
  pub marks : (s : State) (z : StateSizes) (st : List ℕ) → Lawful (mark s z st)
  pub updater_get_state_lem : (z : Sizes) (f : Flash) → Lawful (updater_get_state z f)
  pub updater_mark_updated_lem : (z : Sizes) (f : Flash) → Lawful (updater_mark_updated z f)
  pub updater_mark_dfu_lem : (z : Sizes) (f : Flash) → Lawful (updater_mark_dfu z f)
  pub updater_mark_booted_lem : (z : Sizes) (f : Flash) → Lawful (updater_mark_booted z f)
  pub check_and_mark_updated_lem : (z : Sizes) (n sum : ℕ) (f : Flash) → Lawful (check_and_mark_updated z n sum f)
  pub read_dfu_lem : (z : Sizes) (offset n : ℕ) (f : Flash) → Lawful (read_dfu z offset n f)
  pub write_firmware_lem : (z : Sizes) (m : Sector) (offset : ℕ) (bytes : List ℕ) (f : Flash)
      → Lawful (write_firmware z m offset bytes f)
  pub prepare_update_lem : (z : Sizes) (f : Flash) → Lawful (prepare_update z f)

-- ---- how many operations

-- a call that is not refused does at most n operations
abbrev pub AtMost : ℕ → Call → Type 0
AtMost n c = c.refusal ≡ 0 → length c.ops ≤ n

-- the most that each kind of call does, of the longest area: 2N steps of at most three operations a byte of a page, then the state's
-- units with an invalidation and a magic; those alone; an erase and a write for each byte; the DFU's units
unfoldable pub most_in_boot : ℕ
most_in_boot = 7 * most_length + 2

unfoldable pub most_in_mark : ℕ
most_in_mark = most_length + 2

unfoldable pub most_in_write : ℕ
most_in_write = 2 * most_length

unfoldable pub most_in_prepare : ℕ
most_in_prepare = most_length

pub record EveryCount : Type 0 where
  pub boot : (g : Geometry) (f : Flash) → AtMost most_in_boot (prepare_boot g f)
  pub marks : (s : State) (z : StateSizes) (st : List ℕ) → AtMost most_in_mark (mark s z st)
  pub updater_mark_updated_lem : (z : Sizes) (f : Flash) → AtMost most_in_mark (updater_mark_updated z f)
  pub updater_mark_dfu_lem : (z : Sizes) (f : Flash) → AtMost most_in_mark (updater_mark_dfu z f)
  pub updater_mark_booted_lem : (z : Sizes) (f : Flash) → AtMost most_in_mark (updater_mark_booted z f)
  pub check_and_mark_updated_lem : (z : Sizes) (n sum : ℕ) (f : Flash) → AtMost most_in_mark (check_and_mark_updated z n sum f)
  pub write_firmware_lem : (z : Sizes) (m : Sector) (offset : ℕ) (bytes : List ℕ) (f : Flash)
      → AtMost most_in_write (write_firmware z m offset bytes f)
  pub prepare_update_lem : (z : Sizes) (f : Flash) → AtMost most_in_prepare (prepare_update z f)
  -- a boot may do the most, and 36 times that is a number of 32 bits
  pub most : (most_in_mark ≤ most_in_boot) × (most_in_write ≤ most_in_boot) × (most_in_prepare ≤ most_in_boot)
  pub fits : 36 * most_in_boot < 4294967296
