-- What is promised of each function of the C boundary: the packed report and the flash of its call. Assumes nothing.
use Rattle.std.specs.Prelude.{◌≡◌, List, ℕ, length}
use Rattle.geometry.specs.declared.Geometry.{Geometry}
use Rattle.geometry.specs.declared.StateSizes.{StateSizes}
use Rattle.geometry.specs.declared.Sizes.{Sizes}
use Rattle.mem_flash.specs.Flash.{Flash}
use Rattle.rules.specs.Calls.{Call, report, left}
use Rattle.rules.specs.FirmwareUpdater.{read_dfu, read_out, write_firmware, memory}
use Rattle.packed.specs.Packed.{packed, sector_of, last_number}

-- the sizes, which C hands over as numbers in a row
abbrev pub state_sizes : ℕ → ℕ → ℕ → StateSizes
state_sizes es ws ev = record { es = es; ws = ws; ev = ev }

abbrev pub geometry : ℕ → ℕ → ℕ → ℕ → ℕ → ℕ → ℕ → ℕ → Geometry
geometry ea wa ed wd es ws b ev = record { ea = ea; wa = wa; ed = ed; wd = wd; state = state_sizes es ws ev; b = b }

abbrev pub sizes : ℕ → ℕ → ℕ → ℕ → ℕ → Sizes
sizes ed wd es ws ev = record { ed = ed; wd = wd; state = state_sizes es ws ev }

-- the number r and the flash f' are those of the call c on the flash f with a budget of k
pub record Told (c : Call) (k : ℕ) (f f' : Flash) (r : ℕ) : Type 0 where
  pub answer : r ≡ packed (report c k)
  pub flash : f' ≡ left c k f

-- read_dfu: the buffer `out` becomes out'
pub record ToldRead (z : Sizes) (offset : ℕ) (out out' : List ℕ) (f : Flash) (r : ℕ) : Type 0 where
  pub answer : r ≡ packed (report (read_dfu z offset (length out) f) 0)
  pub filled : out' ≡ read_out z offset out f

-- write_firmware: the number `last` of the memory becomes last'
pub record ToldWrite (z : Sizes) (k offset : ℕ) (bytes : List ℕ) (last last' : ℕ) (f f' : Flash) (r : ℕ) : Type 0 where
  pub told : Told (write_firmware z (sector_of last) offset bytes f) k f f' r
  pub remembered : last' ≡ last_number (memory k z (sector_of last) offset bytes f)
