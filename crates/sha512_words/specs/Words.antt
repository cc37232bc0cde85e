-- The functions of FIPS 180-4, sections 2.2.2, 3.2 and 4.1.3, on words of 64 bits. A word is a number below 2 ^ 64.
-- Assumes nothing.
use Rattle.std.specs.Prelude.{ℕ, ◌+◌, ◌-◌, ◌*◌, ◌/◌, ◌%◌, ◌^◌, bit_and, bit_or, bit_xor}

-- the sum of two words, modulo 2 ^ 64
unfoldable pub sum : ℕ → ℕ → ℕ
sum x y = (x + y) % 2 ^ 64

-- SHR^n(x) = x >> n
unfoldable pub shr : ℕ → ℕ → ℕ
shr n x = x / 2 ^ n

-- ROTR^n(x) = (x >> n) | (x << (64 - n))
unfoldable pub rotr : ℕ → ℕ → ℕ
rotr n x = bit_or (x / 2 ^ n) (x * 2 ^ (64 - n) % 2 ^ 64)

-- the complement of a word
unfoldable pub notw : ℕ → ℕ
notw x = 2 ^ 64 - 1 - x

-- Ch(x, y, z) = (x & y) ^ (~x & z)
unfoldable pub ch : ℕ → ℕ → ℕ → ℕ
ch x y z = bit_xor (bit_and x y) (bit_and (notw x) z)

-- Maj(x, y, z) = (x & y) ^ (x & z) ^ (y & z)
unfoldable pub maj : ℕ → ℕ → ℕ → ℕ
maj x y z = bit_xor (bit_xor (bit_and x y) (bit_and x z)) (bit_and y z)

-- the four sigmas: the two of the rounds, and the two of the schedule
unfoldable pub big_sigma0 : ℕ → ℕ
big_sigma0 x = bit_xor (bit_xor (rotr 28 x) (rotr 34 x)) (rotr 39 x)

unfoldable pub big_sigma1 : ℕ → ℕ
big_sigma1 x = bit_xor (bit_xor (rotr 14 x) (rotr 18 x)) (rotr 41 x)

unfoldable pub small_sigma0 : ℕ → ℕ
small_sigma0 x = bit_xor (bit_xor (rotr 1 x) (rotr 8 x)) (shr 7 x)

unfoldable pub small_sigma1 : ℕ → ℕ
small_sigma1 x = bit_xor (bit_xor (rotr 19 x) (rotr 61 x)) (shr 6 x)
