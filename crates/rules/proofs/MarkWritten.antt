-- What a mark does to a state area that may hold anything: its own word is done, every other word is as it was; so the progress
-- passes it, and the state read is the same. Assumes nothing.
use mathlib.Core.Path.{◌≡◌, refl, sym, ap, ◌∙◌}
use mathlib.Core.Bool.{Bool, true, false}
use mathlib.Core.List.{List, [], ◌∷◌}
use Prim.Native.Nat.{ℕ, zero, suc, ◌+◌, ◌-◌, ◌*◌, ◌/◌, ◌≤◌, ◌<◌}
use native.Mathlib.Numerals.{add-one}
use native.Mathlib.Nat.{sub-zero, mul-le-mul_right, div-mul-le_self}
use native.Mathlib.Decide.{dec_lt}
use native.Mathlib.Omega.{arith}
use lib.ListN.{length, take, drop, replicate}
use lib.Seq.{drop_at, length-take-le}
use borrow.Author.Tests.{ne_eqb}
use Rattle.state.specs.declared.Cell.{Cell}
use Rattle.state.specs.Choice.{pick}
use Rattle.state.specs.Cells.{erased, marked}
use Rattle.state.specs.Magic.{throughout, holds, state_of}
use Rattle.geometry.specs.declared.StateSizes.{StateSizes}
use Rattle.geometry.specs.Geometry.{cell, words}
use Rattle.mem_flash.specs.Flash.{program, written_at}
use Rattle.state.proofs.Cells.{mark_stays}
use Rattle.mem_flash.proofs.Stretches.{length_written}
use Rattle.rules.specs.StateArea.{word, read_state, valid, mark_open, most_marks, first_open, marks_done, progress}
use Rattle.rules.proofs.StateWords.{open_turn, progress_valid, progress_invalid}

-- the bytes before a write are as they were
part_before : (c : Cell) (p n q : ℕ) (bs xs : List ℕ) → p + n ≤ q → take n (drop p (written_at c q bs xs)) ≡ take n (drop p xs)
unfolding written_at program
part_before c p zero q bs xs h = refl
part_before c p (suc n) zero bs xs h = absurd (omega arith)
part_before c zero (suc n) (suc q) bs [] h = refl
part_before c zero (suc n) (suc q) bs (x ∷ xs) h = ap (λ (l : List ℕ). x ∷ l) (part_before c zero n q bs xs (omega arith))
part_before c (suc p) (suc n) (suc q) bs [] h = refl
part_before c (suc p) (suc n) (suc q) bs (x ∷ xs) h = part_before c p (suc n) q bs xs (omega arith)

-- a word over which marks are written is done, whatever it held
program_marked : (c : Cell) (n : ℕ) (xs : List ℕ) → holds (erased c) (take n (program c xs (replicate n (marked c)))) ≡ false
unfolding program holds pick
program_marked c zero xs = refl
program_marked c (suc n) [] = refl
program_marked c (suc n) (x ∷ xs) = rw (ne_eqb _ _ (mark_stays c x), program_marked c n xs)

-- ---- the first open mark

differ : true ≡ false → ⊥
differ e = let z : ◌≡◌ {A = ℕ} 0 1 = cc in omega arith

-- the marks that the search has passed are done
passed : (z : StateSizes) (st : List ℕ) (n i q : ℕ) → i ≤ q → q < first_open z st n i → mark_open z st q ≡ false
unfolding first_open pick
passed z st zero i q lo hi = absurd (omega arith)
passed z st (suc n) i q lo hi = go (mark_open z st i) refl hi (λ l h. passed z st n (suc i) q l h)
  where
    go : (b : Bool) → mark_open z st i ≡ b → q < pick b i (first_open z st n (suc i))
        → (i < q → q < first_open z st n (suc i) → mark_open z st q ≡ false) → mark_open z st q ≡ false
    go true e h rest = absurd (omega arith)
    go false e h rest = later (dec_lt i q)
      where
        later : Dec (i < q) → mark_open z st q ≡ false
        later (yes l) = rest l h
        later (no l) = let o : q ≡ i = omega arith in rw o e

-- and it passes every mark that is done
passes : (z : StateSizes) (st : List ℕ) (n i j : ℕ) → j ≤ i + n → ((q : ℕ) → i ≤ q → q < j → mark_open z st q ≡ false)
    → j ≤ first_open z st n i
unfolding first_open pick
passes z st zero i j h d = omega arith
passes z st (suc n) i j h d =
    go (mark_open z st i) refl (passes z st n (suc i) j (omega arith) (λ q x y. d q (omega arith) y)) (dec_lt i j)
  where
    go : (b : Bool) → mark_open z st i ≡ b → j ≤ first_open z st n (suc i) → Dec (i < j) → j ≤ pick b i (first_open z st n (suc i))
    go true e rest (yes l) = absurd (differ (sym e ∙ d i (omega arith) l))
    go true e rest (no l) = omega arith
    go false e rest l = rest

-- it is nowhere before the mark from which it is searched, and marks that are done can be left out of the search
pub open_after : (z : StateSizes) (st : List ℕ) (n i : ℕ) → i ≤ first_open z st n i
open_after z st n i = passes z st n i i (omega arith) (λ q l h. absurd (omega arith))

opens_on : (z : StateSizes) (st : List ℕ) (most j : ℕ) → j ≤ most → ((q : ℕ) → q < j → mark_open z st q ≡ false)
    → first_open z st most 0 ≡ first_open z st (most - j) j
opens_on z st most zero h d = sym (rw sub-zero)
opens_on z st most (suc j) h d =
    opens_on z st most j (omega arith) (λ q l. d q (omega arith)) ∙ (rw add-one at (sym (open_turn z most j st (omega arith) (d j (omega arith)))))

-- ---- a mark written

unfoldable pub with_mark : StateSizes → ℕ → List ℕ → List ℕ
with_mark z i st = written_at (cell z) ((2 + i) * z.ws) (replicate z.ws (marked (cell z))) st

module _ (z : StateSizes) (i : ℕ) (st : List ℕ) where
  -- the words before it
  word_before : (j : ℕ) → j < 2 + i → word z j (with_mark z i st) ≡ word z j st
  unfolding word with_mark
  word_before j l =
      let m : suc j * z.ws ≤ (2 + i) * z.ws = mul-le-mul_right z.ws (omega arith) in
      part_before (cell z) (j * z.ws) z.ws ((2 + i) * z.ws) (replicate z.ws (marked (cell z))) st (omega arith)

  pub same_state : read_state z (with_mark z i st) ≡ read_state z st
  unfolding read_state
  same_state = ap state_of (word_before 0 (omega arith))

  same_length : length (with_mark z i st) ≡ length st
  unfolding with_mark
  same_length = length_written (cell z) ((2 + i) * z.ws) (replicate z.ws (marked (cell z))) st

  module _ (here : i < most_marks z st) where
    -- its own word
    own_done : mark_open z (with_mark z i st) i ≡ false
    unfolding mark_open word with_mark written_at most_marks words
    own_done =
        let t : 2 + i < length st / z.ws = omega arith in
        let h : (2 + i) * z.ws + z.ws ≤ length st =
        omega (arith, mul-le-mul_right {m = suc (2 + i)} z.ws t, div-mul-le_self (length st) z.ws) in
        let q : length (take ((2 + i) * z.ws) st) ≡ (2 + i) * z.ws = length-take-le ((2 + i) * z.ws) st (omega arith) in
        ap (λ (l : List ℕ). holds (erased (cell z)) (take z.ws l))
        (drop_at (take ((2 + i) * z.ws) st) (program (cell z) (drop ((2 + i) * z.ws) st) (replicate z.ws (marked (cell z)))) ((2 + i) * z.ws) q)
        ∙ program_marked (cell z) z.ws (drop ((2 + i) * z.ws) st)

    same_open : (q : ℕ) → q < i → mark_open z (with_mark z i st) q ≡ mark_open z st q
    unfolding mark_open
    same_open q l = ap (holds (erased (cell z))) (word_before (2 + q) (omega arith))

    same_valid : valid z (with_mark z i st) ≡ valid z st
    unfolding valid
    same_valid = ap (throughout (erased (cell z))) (word_before 1 (omega arith))

    same_most : most_marks z (with_mark z i st) ≡ most_marks z st
    unfolding most_marks
    same_most = ap (λ (n : ℕ). words z.ws n - 3) same_length

    module _ (e : progress z st ≡ i) where
      -- the step was the progress, so its marks count and those before it are done
      counts : valid z st ≡ true
      counts = go (valid z st) refl
        where
          go : (b : Bool) → valid z st ≡ b → valid z st ≡ true
          go true v = v
          go false v = absurd (omega (arith, here, e, progress_invalid z st v))

      below : (q : ℕ) → q < suc i → mark_open z (with_mark z i st) q ≡ false
      unfolding marks_done
      below q l = which (dec_lt q i)
        where
          f : first_open z st (most_marks z st) 0 ≡ i
          f = sym (progress_valid z st counts) ∙ e

          which : Dec (q < i) → mark_open z (with_mark z i st) q ≡ false
          which (yes m) = same_open q m ∙ passed z st (most_marks z st) 0 q (omega arith) (rw f m)
          which (no m) = let y : q ≡ i = omega arith in rw y own_done

      -- behind a step that was marked, the progress read afresh is the first open mark from the next one on
      pub progress_on : progress z (with_mark z i st) ≡ first_open z (with_mark z i st) (most_marks z (with_mark z i st) - (i + 1)) (i + 1)
      unfolding marks_done
      progress_on =
          progress_valid z (with_mark z i st) (same_valid ∙ counts)
          ∙ opens_on z (with_mark z i st) (most_marks z (with_mark z i st)) (i + 1) (omega (arith, here, same_most)) (λ q l. below q (omega arith))

      -- and it passes the mark
      pub mark_passes : i < progress z (with_mark z i st)
      mark_passes = rw progress_on (omega (arith, open_after z (with_mark z i st) (most_marks z (with_mark z i st) - (i + 1)) (i + 1)))
