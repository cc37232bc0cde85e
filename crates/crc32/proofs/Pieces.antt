-- Bytes in pieces: going on from the sum of a first part gives the sum of the whole, for any cutting. Assumes nothing.
use mathlib.Core.Path.{◌≡◌, refl, sym, ap, ◌∙◌}
use mathlib.Core.List.{List, [], ◌∷◌, ◌++◌, foldl, foldl-append, flatten}
use Prim.Native.Nat.{ℕ}
use lib.ListN.{take, drop, take-append-drop}
use lib.Bits.{bit_xor, xor_assoc, xor_zero_r}
use Rattle.crc32.specs.Crc.{ones, byte, run, crc, go_on}

-- the register comes back from the sum
ones_off : (r : ℕ) → bit_xor (bit_xor r ones) ones ≡ r
ones_off r = xor_assoc r ones ones ∙ xor_zero_r r

-- ---- sums

pub from_nothing : (bs : List ℕ) → go_on 0 bs ≡ crc bs
unfolding go_on crc
from_nothing bs = refl

pub on_and_on : (s : ℕ) (a b : List ℕ) → go_on (go_on s a) b ≡ go_on s (a ++ b)
unfolding go_on run
on_and_on s a b =
    ap (λ (r : ℕ). bit_xor (run r b) ones) (ones_off (run (bit_xor s ones) a))
    ∙ ap (λ (r : ℕ). bit_xor r ones) (sym (foldl-append byte (bit_xor s ones) a b))

-- the sum of a first part, and on from it
pub goes_on : (a b : List ℕ) → go_on (crc a) b ≡ crc (a ++ b)
goes_on a b = ap (λ (s : ℕ). go_on s b) (sym (from_nothing a)) ∙ on_and_on 0 a b ∙ from_nothing (a ++ b)

-- wherever the list is cut in two
pub cut_in_two : (n : ℕ) (bs : List ℕ) → go_on (crc (take n bs)) (drop n bs) ≡ crc bs
cut_in_two n bs = goes_on (take n bs) (drop n bs) ∙ ap crc (take-append-drop n bs)

-- for any list of pieces, empty ones too
pieces_from_lem : (s : ℕ) (ps : List (List ℕ)) → foldl go_on s ps ≡ go_on s (flatten ps)
unfolding go_on run flatten
pieces_from_lem s [] = sym (ones_off s)
pieces_from_lem s (p ∷ ps) = pieces_from_lem (go_on s p) ps ∙ on_and_on s p (flatten ps)

pub any_pieces : (ps : List (List ℕ)) → foldl go_on 0 ps ≡ crc (flatten ps)
any_pieces ps = pieces_from_lem 0 ps ∙ from_nothing (flatten ps)
