-- How a report and the updater's memory stand in plain numbers at the C boundary, where no enum can pass. Assumes nothing.
use Rattle.std.specs.Prelude.{Option, None, Some}
use Rattle.std.specs.Prelude.{ℕ, ◌+◌, ◌*◌, ◌^◌, min, eqb}
use Rattle.state.specs.declared.State.{State}
use Rattle.state.specs.Choice.{pick}
use Rattle.state.specs.Magic.{state_number}
use Rattle.rules.specs.FirmwareUpdater.{Sector}
use Rattle.std.specs.Prelude.{None, Some}
use Rattle.rules.specs.Calls.{Report}

-- the state that a report carries, and 255 where it carries none
unfoldable pub state_byte : Option State → ℕ
state_byte None = 255
state_byte (Some s) = state_number s

-- three numbers in one: the count has 32 bits, the state the 8 above them
unfoldable pub joined : ℕ → ℕ → ℕ → ℕ
joined number state count = number * 2 ^ 40 + state * 2 ^ 32 + count

unfoldable pub packed : Report → ℕ
packed t = joined t.number (state_byte t.state) t.count

-- the number that stands for no sector: no sector of an admitted area has it
unfoldable pub no_sector : ℕ
no_sector = 4294967295

-- the memory that a caller's number stands for, and the number of a memory
unfoldable pub sector_of : ℕ → Sector
sector_of n = pick (eqb n no_sector) None (Some n)

-- (a sector past all numbers would read as none: no area has one)
unfoldable pub last_number : Sector → ℕ
last_number None = no_sector
last_number (Some s) = min s no_sector
