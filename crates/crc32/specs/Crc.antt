-- 02, No. 7: the reflected CRC-32 of IEEE 802.3, bit by bit. What is added is added by exclusive or. Assumes nothing.
use mathlib.Core.List.{List, foldl}
use Rattle.std.specs.Prelude.{ℕ, zero, suc, ◌*◌, ◌/◌, ◌%◌}
use Rattle.std.specs.Int.Bits.{bit_xor}

-- the standard's polynomial, reflected: its highest power is the lowest bit
abbrev pub polynomial : ℕ
polynomial = 0xEDB8_8320

-- the register before the first byte, and what is added to it after the last one
abbrev pub ones : ℕ
ones = 0xFFFF_FFFF

-- one bit: the register moves down by one place, and the polynomial is added where a one falls out
unfoldable pub bit : ℕ → ℕ
bit r = bit_xor (r / 2) (r % 2 * polynomial)

unfoldable pub bits : ℕ → ℕ → ℕ
bits zero r = r
bits (suc n) r = bits n (bit r)

-- one byte: it is added at the low end, and eight bits go by
unfoldable pub byte : ℕ → ℕ → ℕ
byte r b = bits 8 (bit_xor r b)

-- the register after a list of bytes
unfoldable pub run : ℕ → List ℕ → ℕ
run r bs = foldl byte r bs

-- the sum of a list of bytes
unfoldable pub crc : List ℕ → ℕ
crc bs = bit_xor (run ones bs) ones

-- going on from the sum of what came before: adding the ones once more gives its register back
unfoldable pub go_on : ℕ → List ℕ → ℕ
go_on s bs = bit_xor (run (bit_xor s ones) bs) ones
