-- What the byte rule means, for either cell; proofs above use these laws and no case. An erased byte takes what is written, a mark
-- stays as it is written over any byte, an erased byte is no mark, and what a write leaves is a byte. `merged_is` is the rule as the
-- loops have it. Assumes nothing.
use mathlib.Core.Path.{◌≡◌, refl, ◌∙◌}
use Prim.Native.Nat.{ℕ, ◌-◌, ◌<◌, ◌^◌}
use native.Mathlib.Nat.{mod-eq_of_lt}
use native.Mathlib.Omega.{arith}
use lib.Bits.{bit_and, bit_or, and_mask, and_comm, and_zero_r, and_lt, and_le_l, or_zero_l, or_zero_r, or_add_and, or_lt}
use Rattle.state.specs.declared.Cell.{Cell}
use Rattle.state.specs.declared.Cell.TheVariants.{High, Low}
use Rattle.state.specs.declared.State.{State}
use Rattle.state.specs.declared.State.TheVariants.{Boot, Swap, Revert, DfuDetach}
use Rattle.state.specs.Cells.{erased, marked, programmed}
use Rattle.state.specs.Magic.{magic}

and_ones : (b : ℕ) → b < 2 ^ 8 → bit_and b 255 ≡ b
and_ones b h = and_mask b 8 ∙ mod-eq_of_lt h

or_ones : (b : ℕ) → b < 2 ^ 8 → bit_or b 255 ≡ 255
or_ones b h = omega (arith, or_add_and b 255, and_ones b h)

pub programmed_erased : (c : Cell) (b : ℕ) → b < 2 ^ 8 → programmed c (erased c) b ≡ b
unfolding programmed erased
programmed_erased High b h = and_comm 255 b ∙ and_ones b h
programmed_erased Low b h = or_zero_l b

pub programmed_marked : (c : Cell) (b : ℕ) → b < 2 ^ 8 → programmed c b (marked c) ≡ marked c
unfolding programmed marked
programmed_marked High b h = and_zero_r b
programmed_marked Low b h = or_ones b h

-- a mark is what an erase does not leave, bit by bit
pub not_erased : (c : Cell) → 255 - erased c ≡ marked c
unfolding marked erased
not_erased High = refl
not_erased Low = refl

pub marked_not_erased : (c : Cell) → marked c ≡ erased c → ⊥
unfolding marked erased
marked_not_erased High e = omega arith
marked_not_erased Low e = omega arith

-- whatever a mark is written over, no erased byte is left
pub mark_stays : (c : Cell) (b : ℕ) → programmed c b (marked c) ≡ erased c → ⊥
unfolding programmed marked erased
mark_stays High b e = omega (arith, and_zero_r b)
mark_stays Low b e = omega (arith, or_add_and b 255, and_le_l b 255)

-- an erased byte is no magic
pub erased_no_magic : (c : Cell) (s : State) → erased c ≡ magic s → ⊥
unfolding erased magic
erased_no_magic High Boot e = omega arith
erased_no_magic High Swap e = omega arith
erased_no_magic High Revert e = omega arith
erased_no_magic High DfuDetach e = omega arith
erased_no_magic Low Boot e = omega arith
erased_no_magic Low Swap e = omega arith
erased_no_magic Low Revert e = omega arith
erased_no_magic Low DfuDetach e = omega arith

pub erased_byte : (c : Cell) → erased c < 2 ^ 8
unfolding erased
erased_byte High = omega arith
erased_byte Low = omega arith

pub marked_byte : (c : Cell) → marked c < 2 ^ 8
unfolding marked
marked_byte High = omega arith
marked_byte Low = omega arith

pub programmed_byte : (c : Cell) (a b : ℕ) → a < 2 ^ 8 → b < 2 ^ 8 → programmed c a b < 2 ^ 8
unfolding programmed
programmed_byte High a b h k = and_lt 8 a b h k
programmed_byte Low a b h k = or_lt 8 a b h k

-- the rule without a branch, chosen by the mark
pub merged_is : (c : Cell) (old new mark : ℕ) → old < 2 ^ 8 → new < 2 ^ 8 → mark ≡ marked c
    → bit_or (bit_and old (bit_or new mark)) (bit_and new mark) ≡ programmed c old new
unfolding programmed marked
merged_is High old new mark h k e = rw (e, or_zero_r new, and_zero_r new) (or_zero_r (bit_and old new))
merged_is Low old new mark h k e = rw (e, or_ones new k, and_ones old h, and_ones new k)
