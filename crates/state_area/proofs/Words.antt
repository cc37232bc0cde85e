-- A word as the code cuts it out of the area. Assumes nothing.
use mathlib.Core.Path.{◌≡◌, ap, ◌∙◌, sym}
use mathlib.Core.List.{List}
use Prim.Native.Nat.{ℕ, ◌-◌, ◌*◌, ◌≤◌, min}
use native.Mathlib.Decide.{dec_le}
use native.Mathlib.Omega.{arith}
use lib.ListN.{length, take, drop, drop_of_length-le, length-take, length-drop}
use lib.Seq.{take_all}
use Rattle.geometry.specs.declared.StateSizes.{StateSizes}
use Rattle.rules.specs.StateArea.{word}

take_least : (n m : ℕ) (xs : List ℕ) → m ≡ min n (length xs) → take m xs ≡ take n xs
take_least n m xs e = go (dec_le n (length xs))
  where
    go : Dec (n ≤ length xs) → take m xs ≡ take n xs
    go (yes h) = let l : m ≡ n = omega arith in rw l
    go (no h) = take_all m xs (omega (arith, h)) ∙ sym (take_all n xs (omega (arith, h)))

drop_least : (n m : ℕ) (xs : List ℕ) → m ≡ min n (length xs) → drop m xs ≡ drop n xs
drop_least n m xs e = go (dec_le n (length xs))
  where
    go : Dec (n ≤ length xs) → drop m xs ≡ drop n xs
    go (yes h) = let l : m ≡ n = omega arith in rw l
    go (no h) = drop_of_length-le xs {i = m} (omega (arith, h)) ∙ sym (drop_of_length-le xs {i = n} (omega (arith, h)))

-- so many bytes are there
pub least_length : (n : ℕ) {m : ℕ} (xs : List ℕ) → m ≡ min n (length xs) → m ≡ length (take m xs)
least_length n {m} xs e = sym (length-take m xs ∙ (let h : min m (length xs) ≡ m = omega arith in h))

-- word i
pub nth_word : (z : StateSizes) (i : ℕ) {at start end : ℕ} (st : List ℕ) → at ≡ i * z.ws → start ≡ min at (length st)
    → end ≡ min z.ws (length (take (length st - start) (drop start st)))
    → take end (take (length st - start) (drop start st)) ≡ word z i st
unfolding word
nth_word z i {at} {start} {end} st o e d =
    let all = take_all (length st - start) (drop start st) (omega (arith, length-drop start st)) in
    rw (← o, ← drop_least at start st e) (take_least z.ws end _ d ∙ ap (take z.ws) all)
