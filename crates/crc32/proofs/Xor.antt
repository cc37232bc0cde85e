-- Exclusive or: what holds of the bits 0 and 1 holds of each number below 2; four numbers in another order. Assumes nothing.
use mathlib.Core.Path.{◌≡◌, sym, ap, ◌∙◌}
use Prim.Native.Nat.{ℕ, zero, suc, ◌%◌, ◌<◌}
use native.Mathlib.Nat.{mod-lt, not-suc-le-zero, le_of_suc-le-suc}
use lib.Dec.{lit<}
use lib.Bits.{bit_xor, xor_comm, xor_assoc}

one_bit : (P : ℕ → Type 0) → P 0 → P 1 → (x : ℕ) → x < 2 → P x
one_bit P p q zero h = p
one_bit P p q (suc zero) h = q
one_bit P p q (suc (suc x)) h = absurd (not-suc-le-zero (le_of_suc-le-suc (le_of_suc-le-suc h)))

pub two_bits : (P : ℕ → ℕ → Type 0) → P 0 0 → P 0 1 → P 1 0 → P 1 1 → (x y : ℕ) → x < 2 → y < 2 → P x y
two_bits P a b c d x y hx hy = one_bit (λ (x : ℕ). P x y) (one_bit (P 0) a b y hy) (one_bit (P 1) c d y hy) x hx

pub low_bit : (n : ℕ) → n % 2 < 2
low_bit n = mod-lt n (lit< tt)

-- the middle two of four change places
pub xor_medial : (a b c d : ℕ) → bit_xor (bit_xor a b) (bit_xor c d) ≡ bit_xor (bit_xor a c) (bit_xor b d)
xor_medial a b c d =
    xor_assoc a b (bit_xor c d)
    ∙ ap (bit_xor a) (sym (xor_assoc b c d) ∙ ap (λ (x : ℕ). bit_xor x d) (xor_comm b c) ∙ xor_assoc c b d)
    ∙ sym (xor_assoc a c (bit_xor b d))
