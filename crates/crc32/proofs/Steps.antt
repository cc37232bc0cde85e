-- A bit's step passes through exclusive or, and so do any number of steps. Hence eight of them on a register are those on its low byte,
-- added to the rest moved down by a byte. Assumes nothing.
use mathlib.Core.Path.{◌≡◌, refl, sym, ap, ap₂, ◌∙◌}
use Prim.Native.Nat.{ℕ, zero, suc, ◌*◌, ◌/◌, ◌%◌, ◌^◌, ◌<◌}
use native.Mathlib.Nat.{mod-lt, mul-one, div-eq_of_lt}
use lib.Pow.{split, pow_pos}
use lib.Bits.{bit_xor, bit_and, xor_shr, xor_mod, xor_comm, xor_zero_r, xor_shifted, shifted_half, shifted_even, and_mask}
use Rattle.crc32.specs.Crc.{polynomial, bit, bits, byte}
use Rattle.crc32.proofs.Xor.{two_bits, low_bit, xor_medial}

-- the polynomial, taken where a bit is one
taken : (x y : ℕ) → x < 2 → y < 2 → bit_xor x y * polynomial ≡ bit_xor (x * polynomial) (y * polynomial)
taken = two_bits (λ (x y : ℕ). bit_xor x y * polynomial ≡ bit_xor (x * polynomial) (y * polynomial)) refl refl refl refl

bit_linear : (x y : ℕ) → bit (bit_xor x y) ≡ bit_xor (bit x) (bit y)
unfolding bit
bit_linear x y =
    ap₂ (λ (h o : ℕ). bit_xor h (o * polynomial)) (xor_shr x y 1) (xor_mod x y 1)
    ∙ ap (bit_xor (bit_xor (x / 2) (y / 2))) (taken (x % 2) (y % 2) (low_bit x) (low_bit y))
    ∙ xor_medial (x / 2) (y / 2) (x % 2 * polynomial) (y % 2 * polynomial)

bits_linear : (n x y : ℕ) → bits n (bit_xor x y) ≡ bit_xor (bits n x) (bits n y)
unfolding bits
bits_linear zero x y = refl
bits_linear (suc n) x y = ap (bits n) (bit_linear x y) ∙ bits_linear n (bit x) (bit y)

-- where no one falls out, the steps move the register down
bits_shifted : (k h : ℕ) → bits k (h * 2 ^ k) ≡ h
unfolding bit bits
bits_shifted zero h = mul-one h
bits_shifted (suc k) h =
    ap (bits k) (ap₂ (λ (x o : ℕ). bit_xor x (o * polynomial)) (shifted_half h k) (shifted_even h k) ∙ xor_zero_r (h * 2 ^ k))
    ∙ bits_shifted k h

-- k steps look at the lowest k bits alone
bits_split : (k x : ℕ) → bits k x ≡ bit_xor (bits k (x % 2 ^ k)) (x / 2 ^ k)
bits_split k x =
    ap (bits k) (sym (split x k) ∙ sym (xor_shifted (x / 2 ^ k) k (x % 2 ^ k) (mod-lt x (pow_pos k))))
    ∙ bits_linear k (x / 2 ^ k * 2 ^ k) (x % 2 ^ k)
    ∙ ap (λ (h : ℕ). bit_xor h (bits k (x % 2 ^ k))) (bits_shifted k (x / 2 ^ k))
    ∙ xor_comm (x / 2 ^ k) (bits k (x % 2 ^ k))

-- the byte that was added is gone once the register has moved down by a byte
moved : (r b : ℕ) → b < 256 → bit_xor r b / 2 ^ 8 ≡ r / 2 ^ 8
moved r b h = xor_shr r b 8 ∙ ap (bit_xor (r / 2 ^ 8)) (div-eq_of_lt h) ∙ xor_zero_r (r / 2 ^ 8)

pub byte_split : (r b : ℕ) → b < 256 → byte r b ≡ bit_xor (bits 8 (bit_and (bit_xor r b) 255)) (r / 2 ^ 8)
unfolding byte
byte_split r b h =
    bits_split 8 (bit_xor r b)
    ∙ ap₂ (λ (x y : ℕ). bit_xor (bits 8 x) y) (sym (and_mask (bit_xor r b) 8)) (moved r b h)
