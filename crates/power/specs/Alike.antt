-- Document 01, "Two runs that differ only in what active and DFU hold answer alike: same numbers, counts, state bytes and updater
-- record". read_dfu's output bytes are an exception and are not in a report. 02 has two more: check_and_mark_updated (No. 7) asks for the sum
-- of DFU's first bytes, and two runs with the same of these answer alike; and the output of hash (No. 8), which firmware_hash/specs/Hash
-- has, is the digest of such bytes. Proved in proofs/Alike. Assumes nothing.
use Rattle.std.specs.Prelude.{◌≡◌, List, ℕ, length, take}
use Rattle.state.specs.declared.State.{State}
use Rattle.geometry.specs.declared.StateSizes.{StateSizes}
use Rattle.geometry.specs.declared.Geometry.{Geometry}
use Rattle.geometry.specs.declared.Sizes.{Sizes}
use Rattle.mem_flash.specs.Flash.{Flash, Supply}
use Rattle.rules.specs.FirmwareUpdater.{Sector}
use Rattle.rules.specs.Calls.{Call, report, left}
use Rattle.rules.specs.Boot.{prepare_boot, get_state}
use Rattle.rules.specs.FirmwareState.{mark}
use Rattle.rules.specs.FirmwareUpdater.{updater_get_state, updater_mark_updated, updater_mark_dfu, updater_mark_booted, read_dfu, write_firmware, memory, prepare_update, check_and_mark_updated}

-- two flashes with the same state bytes, and images as long as each other
pub record Alike (f h : Flash) : Type 0 where
  pub active : length f.active ≡ length h.active
  pub dfu : length f.dfu ≡ length h.dfu
  pub state : f.state ≡ h.state

-- a call on each, under every budget: the same report, and flashes that are alike again
pub record SameAnswers (c d : Call) (f h : Flash) : Type 0 where
  pub answers : (k : Supply) → report c k ≡ report d k
  pub leaves : (k : Supply) → Alike (left c k f) (left d k h)

-- what the images hold does not matter to any call, but for the bytes whose sum is asked for
pub record ImagesAside (f h : Flash) : Type 0 where
  pub boot : (g : Geometry) → SameAnswers (prepare_boot g f) (prepare_boot g h) f h
  pub get_state_lem : (z : StateSizes) → SameAnswers (get_state z f.state) (get_state z h.state) f h
  pub marks : (s : State) (z : StateSizes) → SameAnswers (mark s z f.state) (mark s z h.state) f h
  pub updater_get_state_lem : (z : Sizes) → SameAnswers (updater_get_state z f) (updater_get_state z h) f h
  pub updater_mark_updated_lem : (z : Sizes) → SameAnswers (updater_mark_updated z f) (updater_mark_updated z h) f h
  pub updater_mark_dfu_lem : (z : Sizes) → SameAnswers (updater_mark_dfu z f) (updater_mark_dfu z h) f h
  pub updater_mark_booted_lem : (z : Sizes) → SameAnswers (updater_mark_booted z f) (updater_mark_booted z h) f h
  pub check_and_mark_updated_lem : (z : Sizes) (n sum : ℕ) → take n f.dfu ≡ take n h.dfu
      → SameAnswers (check_and_mark_updated z n sum f) (check_and_mark_updated z n sum h) f h
  pub read_dfu_lem : (z : Sizes) (offset n : ℕ) → SameAnswers (read_dfu z offset n f) (read_dfu z offset n h) f h
  pub write_firmware_lem : (z : Sizes) (m : Sector) (offset : ℕ) (bytes : List ℕ)
      → SameAnswers (write_firmware z m offset bytes f) (write_firmware z m offset bytes h) f h
  pub prepare_update_lem : (z : Sizes) → SameAnswers (prepare_update z f) (prepare_update z h) f h
  -- and the updater's memory is the same
  pub remembers : (k : Supply) (z : Sizes) (m : Sector) (offset : ℕ) (bytes : List ℕ)
      → memory k z m offset bytes f ≡ memory k z m offset bytes h
