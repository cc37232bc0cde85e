-- Two functions of three words that agree on bits agree on words; so the shorter forms of Ch and Maj are theirs. Assumes nothing.
use Rattle.std.proofs.Common.{◌≡◌, ℕ, zero, suc, ◌-◌, ◌/◌, ◌%◌, ◌^◌, ◌<◌, sym, refl, ap, ◌∙◌, ap₂, pow-suc, arith}
use lib.Arith.{lt-one}
use lib.Bits.{bit_and, bit_xor, and_shr, xor_shr, and_mod, xor_mod}
use Rattle.sha512_words.specs.Words.{ch, maj, notw}

bit_cases : (P : ℕ → Type 0) → P 0 → P 1 → (n : ℕ) → n < 2 → P n
bit_cases P a b zero h = a
bit_cases P a b (suc zero) h = b
bit_cases P a b (suc (suc n)) h = absurd (omega arith)

half_lt : (k x : ℕ) → x < 2 ^ suc k → x / 2 < 2 ^ k
half_lt k x h = omega (arith, pow-suc 2 k)

module _ (f : ℕ → ℕ → ℕ → ℕ) (g : ℕ → ℕ → ℕ → ℕ → ℕ)
    (fh : (x y z : ℕ) → f x y z / 2 ≡ f (x / 2) (y / 2) (z / 2)) (fm : (x y z : ℕ) → f x y z % 2 ≡ f (x % 2) (y % 2) (z % 2))
    (gh : (k x y z : ℕ) → x < 2 ^ suc k → g (suc k) x y z / 2 ≡ g k (x / 2) (y / 2) (z / 2))
    (gm : (k x y z : ℕ) → x < 2 ^ suc k → g (suc k) x y z % 2 ≡ g 1 (x % 2) (y % 2) (z % 2))
    (none : f 0 0 0 ≡ g 0 0 0 0)
    (bits : (a b c : ℕ) → a < 2 → b < 2 → c < 2 → f a b c ≡ g 1 a b c) where
  same : (k x y z : ℕ) → x < 2 ^ k → y < 2 ^ k → z < 2 ^ k → f x y z ≡ g k x y z
  same zero x y z hx hy hz =
      ap (λ (n : ℕ). f n y z) (lt-one hx) ∙ ap₂ (f 0) (lt-one hy) (lt-one hz)
      ∙ none
      ∙ sym (ap (λ (n : ℕ). g 0 n y z) (lt-one hx) ∙ ap₂ (g 0 0) (lt-one hy) (lt-one hz))
  same (suc k) x y z hx hy hz =
      let h : f x y z / 2 ≡ g (suc k) x y z / 2 =
      fh x y z ∙ same k (x / 2) (y / 2) (z / 2) (half_lt k x hx) (half_lt k y hy) (half_lt k z hz) ∙ sym (gh k x y z hx) in
      let m : f x y z % 2 ≡ g (suc k) x y z % 2 =
      fm x y z ∙ bits (x % 2) (y % 2) (z % 2) (omega arith) (omega arith) (omega arith) ∙ sym (gm k x y z hx) in
      omega arith

-- ---- Ch

ch_short : ℕ → ℕ → ℕ → ℕ
ch_short x y z = bit_xor (bit_and (bit_xor y z) x) z

ch_long : ℕ → ℕ → ℕ → ℕ → ℕ
ch_long k x y z = bit_xor (bit_and x y) (bit_and (2 ^ k - 1 - x) z)

pub ch_short_lem : (x y z : ℕ) → x < 2 ^ 64 → y < 2 ^ 64 → z < 2 ^ 64 → bit_xor (bit_and (bit_xor y z) x) z ≡ ch x y z
unfolding ch notw ch_short ch_long
ch_short_lem =
    same ch_short ch_long
    (λ x y z. xor_shr (bit_and (bit_xor y z) x) z 1 ∙ ap (λ (n : ℕ). bit_xor n (z / 2)) (and_shr (bit_xor y z) x 1 ∙ ap (λ (n : ℕ). bit_and n (x / 2)) (xor_shr y z 1)))
    (λ x y z. xor_mod (bit_and (bit_xor y z) x) z 1 ∙ ap (λ (n : ℕ). bit_xor n (z % 2)) (and_mod (bit_xor y z) x 1 ∙ ap (λ (n : ℕ). bit_and n (x % 2)) (xor_mod y z 1)))
    (λ k x y z h.
    let n : (2 ^ suc k - 1 - x) / 2 ≡ 2 ^ k - 1 - x / 2 = omega (arith, pow-suc 2 k) in
    xor_shr (bit_and x y) (bit_and (2 ^ suc k - 1 - x) z) 1
    ∙ ap₂ bit_xor (and_shr x y 1) (and_shr (2 ^ suc k - 1 - x) z 1 ∙ ap (λ (i : ℕ). bit_and i (z / 2)) n))
    (λ k x y z h.
    let n : (2 ^ suc k - 1 - x) % 2 ≡ 2 - 1 - x % 2 = omega (arith, pow-suc 2 k) in
    xor_mod (bit_and x y) (bit_and (2 ^ suc k - 1 - x) z) 1
    ∙ ap₂ bit_xor (and_mod x y 1) (and_mod (2 ^ suc k - 1 - x) z 1 ∙ ap (λ (i : ℕ). bit_and i (z % 2)) n))
    refl
    (λ a b c ha hb hc.
    bit_cases (λ (a : ℕ). ch_short a b c ≡ ch_long 1 a b c)
    (bit_cases (λ (b : ℕ). ch_short 0 b c ≡ ch_long 1 0 b c)
    (bit_cases (λ (c : ℕ). ch_short 0 0 c ≡ ch_long 1 0 0 c) refl refl c hc)
    (bit_cases (λ (c : ℕ). ch_short 0 1 c ≡ ch_long 1 0 1 c) refl refl c hc) b hb)
    (bit_cases (λ (b : ℕ). ch_short 1 b c ≡ ch_long 1 1 b c)
    (bit_cases (λ (c : ℕ). ch_short 1 0 c ≡ ch_long 1 1 0 c) refl refl c hc)
    (bit_cases (λ (c : ℕ). ch_short 1 1 c ≡ ch_long 1 1 1 c) refl refl c hc) b hb)
    a ha)
    64

-- ---- Maj

maj_short : ℕ → ℕ → ℕ → ℕ
maj_short x y z = bit_xor (bit_and (bit_xor x y) (bit_xor y z)) y

maj_long : ℕ → ℕ → ℕ → ℕ → ℕ
maj_long k x y z = bit_xor (bit_xor (bit_and x y) (bit_and x z)) (bit_and y z)

pub maj_short_lem : (x y z : ℕ) → x < 2 ^ 64 → y < 2 ^ 64 → z < 2 ^ 64 → bit_xor (bit_and (bit_xor x y) (bit_xor y z)) y ≡ maj x y z
unfolding maj maj_short maj_long
maj_short_lem =
    same maj_short maj_long
    (λ x y z. xor_shr (bit_and (bit_xor x y) (bit_xor y z)) y 1 ∙ ap (λ (n : ℕ). bit_xor n (y / 2)) (and_shr (bit_xor x y) (bit_xor y z) 1 ∙ ap₂ bit_and (xor_shr x y 1) (xor_shr y z 1)))
    (λ x y z. xor_mod (bit_and (bit_xor x y) (bit_xor y z)) y 1 ∙ ap (λ (n : ℕ). bit_xor n (y % 2)) (and_mod (bit_xor x y) (bit_xor y z) 1 ∙ ap₂ bit_and (xor_mod x y 1) (xor_mod y z 1)))
    (λ k x y z h.
    xor_shr (bit_xor (bit_and x y) (bit_and x z)) (bit_and y z) 1
    ∙ ap₂ bit_xor (xor_shr (bit_and x y) (bit_and x z) 1 ∙ ap₂ bit_xor (and_shr x y 1) (and_shr x z 1)) (and_shr y z 1))
    (λ k x y z h.
    xor_mod (bit_xor (bit_and x y) (bit_and x z)) (bit_and y z) 1
    ∙ ap₂ bit_xor (xor_mod (bit_and x y) (bit_and x z) 1 ∙ ap₂ bit_xor (and_mod x y 1) (and_mod x z 1)) (and_mod y z 1))
    refl
    (λ a b c ha hb hc.
    bit_cases (λ (a : ℕ). maj_short a b c ≡ maj_long 1 a b c)
    (bit_cases (λ (b : ℕ). maj_short 0 b c ≡ maj_long 1 0 b c)
    (bit_cases (λ (c : ℕ). maj_short 0 0 c ≡ maj_long 1 0 0 c) refl refl c hc)
    (bit_cases (λ (c : ℕ). maj_short 0 1 c ≡ maj_long 1 0 1 c) refl refl c hc) b hb)
    (bit_cases (λ (b : ℕ). maj_short 1 b c ≡ maj_long 1 1 b c)
    (bit_cases (λ (c : ℕ). maj_short 1 0 c ≡ maj_long 1 1 0 c) refl refl c hc)
    (bit_cases (λ (c : ℕ). maj_short 1 1 c ≡ maj_long 1 1 1 c) refl refl c hc) b hb)
    a ha)
    64
