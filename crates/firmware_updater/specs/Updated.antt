-- What is promised of the updater's calls that mark, and of those that hand its record back: the definition's answer and areas, and the
-- record. Assumes nothing.
use Rattle.std.specs.Prelude.{◌≡◌, List, [], ℕ}
use Rattle.mem_flash.specs.Flash.{Flash}
use Rattle.mem_flash.specs.Run.{flash}
use Rattle.rules.specs.Calls.{Answer, Call, Did}
use Rattle.rules.specs.FirmwareUpdater.{Sector, write_firmware, memory, prepare_update}
use Rattle.firmware_updater.specs.declared.BlockingFirmwareUpdater.{BlockingFirmwareUpdater}

-- a call that marks, with a budget of k and DFU d: the state area s becomes s', the answer is r
abbrev pub Marked : (Flash → Call) → ℕ → List ℕ → List ℕ → List ℕ → Answer → Type 0
Marked call k d s s' r = Did (call (flash [] d s)) k (flash [] d s) (flash [] d s') r

-- the sector that an updater remembers
abbrev pub last_of : BlockingFirmwareUpdater → Sector
last_of u = u.last_erased_dfu_sector_index

-- the same updater with another memory
abbrev pub remembering : BlockingFirmwareUpdater → Sector → BlockingFirmwareUpdater
remembering u m = record { sizes = u.sizes; last_erased_dfu_sector_index = m }

-- write_firmware of the updater u: DFU d becomes d', the state area is s, the record becomes u', the answer is r
pub record WroteFirmware (u : BlockingFirmwareUpdater) (k offset : ℕ) (bytes d s d' : List ℕ) (u' : BlockingFirmwareUpdater) (r : Answer) : Type 0 where
  pub did : Did (write_firmware u.sizes (last_of u) offset bytes (flash [] d s)) k (flash [] d s) (flash [] d' s) r
  pub updater : u' ≡ remembering u (memory k u.sizes (last_of u) offset bytes (flash [] d s))

-- prepare_update: the record stays as it is
pub record PreparedUpdate (u : BlockingFirmwareUpdater) (k : ℕ) (d s d' : List ℕ) (u' : BlockingFirmwareUpdater) (r : Answer) : Type 0 where
  pub did : Did (prepare_update u.sizes (flash [] d s)) k (flash [] d s) (flash [] d' s) r
  pub updater : u' ≡ u
