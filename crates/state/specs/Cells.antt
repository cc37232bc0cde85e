-- The cells of a flash (document 01, "The flash we model"; 02, No. 11): what an erase leaves, what a mark writes, and what a write
-- makes of a byte. This is the only place that says what either kind does; everything above speaks of a cell. Assumes nothing.
use Rattle.std.specs.Prelude.{ℕ}
use Rattle.std.specs.Int.Bits.{bit_and, bit_or}
use Rattle.state.specs.declared.Cell.{Cell}
use Rattle.state.specs.declared.Cell.TheVariants.{High, Low}

-- what a byte holds after an erase
unfoldable pub erased : Cell → ℕ
erased High = 0xFF
erased Low = 0x00

-- what marks and the invalidation write
unfoldable pub marked : Cell → ℕ
marked High = 0x00
marked Low = 0xFF

-- what a write leaves of a byte: old AND new, or old OR new
unfoldable pub programmed : Cell → ℕ → ℕ → ℕ
programmed High old new = bit_and old new
programmed Low old new = bit_or old new
