-- What lists hold after a store. Assumes nothing.
use Rattle.std.proofs.Common.{◌≡◌, ℕ, zero, suc, ◌+◌, ◌-◌, ◌*◌, ◌≤◌, List, [], ◌∷◌, ◌++◌, length, take, drop, replicate, get_or, refl, sym, ap, ap₂, ◌∙◌, arith, append_assoc, append-nil, take_all, drop-drop}
use borrow.Rule.Slice.PartMut.{put_mid}
use lib.ListN.{drop_of_length-le}
use native.Mathlib.Numerals.{add-one}
use Rattle.std.specs.Int.{to_be_bytes, w64, w128}
use Rattle.std.proofs.lemmas.Slice.{take-put_mid}
use Rattle.sha512_words.specs.declared.Eight.{Eight}
use Rattle.sha512_bytes.specs.Bytes.{bytes8, bytes_of, bits16}

pub bits16_length : (n : ℕ) → length (bits16 n) ≡ 16
unfolding bits16 bytes8
bits16_length n = refl

pub drop_replicate : (k m a : ℕ) → drop k (replicate m a) ≡ replicate (m - k) a
drop_replicate zero m a = let e : m ≡ m - 0 = omega arith in ap (λ (i : ℕ). replicate i a) e
drop_replicate (suc k) zero a = let e : 0 ≡ 0 - suc k = omega arith in ap (λ (i : ℕ). replicate i a) e
drop_replicate (suc k) (suc m) a =
    let e : m - k ≡ suc m - suc k = omega arith in
    drop_replicate k m a ∙ ap (λ (i : ℕ). replicate i a) e

-- some bytes, stored over zeros
pub over_zeros : (b x : List ℕ) → x ≡ b → x ++ drop (length b) (replicate 128 0) ≡ b ++ replicate (128 - length b) 0
over_zeros b x e = ap₂ (λ (y z : List ℕ). y ++ z) e (drop_replicate (length b) 128 0)

-- ---- the length in a block's last 16 bytes

both : {x y : ℕ} {xs ys : List ℕ} → x ≡ y → xs ≡ ys → x ∷ xs ≡ y ∷ ys
both e f = ap₂ (λ (a : ℕ) (l : List ℕ). a ∷ l) e f

-- a number's 16 bytes are those of its two words
bits16_is : (n : ℕ) → to_be_bytes w128 (8 * n) ≡ bits16 n
unfolding bits16 bytes8
bits16_is n =
    both (omega arith) (both (omega arith) (both (omega arith) (both (omega arith) (
    both (omega arith) (both (omega arith) (both (omega arith) (both (omega arith) (
    both (omega arith) (both (omega arith) (both (omega arith) (both (omega arith) (
    both (omega arith) (both (omega arith) (both (omega arith) (both (omega arith) refl)))))))))))))))

-- a store up to the end
pub put_end : (b ys : List ℕ) (at k : ℕ) → at + k ≡ length b → put_mid at k b ys ≡ take at b ++ ys
put_end b ys at k h =
    ap (λ (y : List ℕ). take at b ++ (ys ++ y)) (drop-drop k at b ∙ drop_of_length-le b {i = at + k} (omega arith))
    ∙ ap (λ (y : List ℕ). take at b ++ y) (append-nil ys)

pub ends : (b ys : List ℕ) (n : ℕ) → length b ≡ 128 → ys ≡ to_be_bytes w128 (8 * n) → put_mid 112 16 b ys ≡ take 112 b ++ bits16 n
ends b ys n l e =
    put_end b ys 112 16 (omega (arith, l)) ∙ ap (λ (y : List ℕ). take 112 b ++ y) (e ∙ bits16_is n)

-- ---- the eight words of a hash value, one after the other

-- the first i words as bytes
unfoldable pub stored : List ℕ → ℕ → List ℕ
stored ws zero = []
stored ws (suc i) = stored ws i ++ bytes8 (get_or ws i 0)

pub stored_none : (ws : List ℕ) → [] ≡ stored ws 0
unfolding stored
stored_none ws = refl

pub stored_more : (d ws ys : List ℕ) (i k : ℕ) → 8 * i ≤ length d → take (8 * i) d ≡ stored ws i → ys ≡ to_be_bytes w64 (get_or ws i 0)
    → take (8 * (i + 1)) (put_mid (8 * i) k d ys) ≡ stored ws (i + 1)
unfolding stored bytes8
stored_more d ws ys i k fits held e =
    let l : length ys ≡ 8 = rw e refl in
    let front : take (8 * (i + 1)) (put_mid (8 * i) k d ys) ≡ take (8 * i) d ++ ys = take-put_mid (8 * i) k d ys (8 * (i + 1)) (omega arith) fits in
    rw (front, held, e, add-one) refl

pub stored_all : (s : Eight) (d : List ℕ) (i : ℕ) → i ≡ 8 → length d ≡ 64 → take (8 * i) d ≡ stored (s.a ∷ s.b ∷ s.c ∷ s.d ∷ s.e ∷ s.f ∷ s.g ∷ s.h ∷ []) i
    → d ≡ bytes_of s
unfolding stored bytes_of
stored_all s d i e l h = sym (take_all 64 d (omega arith)) ∙ rw e at h ∙ simp append_assoc
