-- Laws of an area's bytes: that bytes past the end of an area are passed over, for the calls that take the part that is there; what a
-- turn of the loop that writes over a part leaves to do. Assumes nothing.
use mathlib.Core.Path.{◌≡◌, refl, ap, ◌∙◌, sym}
use mathlib.Core.List.{List, [], ◌∷◌, ◌++◌, append-nil}
use Prim.Native.Nat.{ℕ, zero, suc, ◌+◌, ◌-◌, ◌≤◌, ◌<◌, min}
use native.Mathlib.Nat.{le_of_suc-le-suc, not-suc-le-zero}
use native.Mathlib.Numerals.{add-one}
use native.Mathlib.Omega.{arith}
use lib.ListN.{length, get_or, take, drop, set, replicate, take-append-drop, length-drop, drop_of_length-le}
use lib.Seq.{drop-cons, take_all}
use borrow.Rule.Slice.PartMut.{put_mid}
use Rattle.std.proofs.lemmas.Grind.{same_number_lists}
use Rattle.std.proofs.lemmas.List.{take_min, drop_min, get_or-replicate, length-replicate}
use Rattle.state.specs.declared.Cell.{Cell}
use Rattle.state.specs.Cells.{erased, programmed}
use Rattle.mem_flash.specs.Flash.{blank, program, erased_at, written_at}

-- the part that n bytes from an offset on have, by where it starts and ends: what comes before it, what it holds, and what comes behind
record Parts (from n start end : ℕ) (xs : List ℕ) : Type 0 where
  before : take start xs ≡ take from xs
  held : take (end - start) (drop start xs) ≡ take n (drop from xs)
  behind : drop (end - start) (drop start xs) ≡ drop n (drop from xs)

parts : (from n start end : ℕ) (xs : List ℕ) → start ≡ min from (length xs) → end ≡ start + min n (length xs - start)
    → Parts from n start end xs
parts from n start end xs s e =
    let d : drop start xs ≡ drop from xs = rw s (drop_min from xs) in
    let k : end - start ≡ min n (length (drop start xs)) = simp length-drop (omega arith) in
    record {
      before = rw s (take_min from xs);
      held = rw k (take_min n (drop start xs)) ∙ ap (take n) d;
      behind = rw k (drop_min n (drop start xs)) ∙ ap (drop n) d;
    }

pub all_set : (v : ℕ) (xs : List ℕ) → ((j : ℕ) → j < length xs → get_or xs j 0 ≡ v) → xs ≡ replicate (length xs) v
all_set v xs e =
    same_number_lists xs (replicate (length xs) v) (sym (length-replicate (length xs) v))
    (λ j h. e j h ∙ sym (get_or-replicate (length xs) j v 0 h))

module _ (c : Cell) where
  pub erase_none : (at : ℕ) (xs : List ℕ) → erased_at c at 0 xs ≡ xs
  unfolding erased_at blank
  erase_none = take-append-drop

  pub program_none : (xs : List ℕ) → program c xs [] ≡ xs
  unfolding program
  program_none [] = refl
  program_none (x ∷ xs) = refl

  -- an erase is a fill of the bytes that are there
  blank_fill : (n : ℕ) (xs : List ℕ) → blank c n xs ≡ replicate (length (take n xs)) (erased c) ++ drop n xs
  unfolding blank
  blank_fill zero xs = refl
  blank_fill (suc n) [] = refl
  blank_fill (suc n) (x ∷ xs) = ap (λ (l : List ℕ). erased c ∷ l) (blank_fill n xs)

  pub erase_part : (from n start end v : ℕ) (xs ys : List ℕ) → start ≡ min from (length xs) → end ≡ start + min n (length xs - start)
      → v ≡ erased c → ys ≡ replicate (length (take (end - start) (drop start xs))) v
      → put_mid start (end - start) xs ys ≡ erased_at c from n xs
  unfolding erased_at
  erase_part from n start end b xs ys s e v f =
      let p = parts from n start end xs s e in
      rw (f, v, p.held, p.before, p.behind, blank_fill n (drop from xs))

  -- a write changes as many bytes as it has, at most
  pub program_split : (xs bs : List ℕ) → program c xs bs ≡ program c (take (length bs) xs) bs ++ drop (length bs) xs
  unfolding program
  program_split xs [] = program_none xs
  program_split [] (b ∷ bs) = refl
  program_split (x ∷ xs) (b ∷ bs) = ap (λ (r : List ℕ). programmed c x b ∷ r) (program_split xs bs)

  pub write_part : (from start end : ℕ) (xs ys bs : List ℕ) → start ≡ min from (length xs) → end ≡ start + min (length bs) (length xs - start)
      → ys ≡ program c (take (end - start) (drop start xs)) bs
      → put_mid start (end - start) xs ys ≡ written_at c from bs xs
  unfolding written_at
  write_part from start end xs ys bs s e f =
      let p = parts from (length bs) start end xs s e in
      rw (f, p.held, p.before, p.behind, program_split (drop from xs) bs)

  -- a turn of the loop sets its byte to v: what is left to write, written to what is there, stays the same
  write_peel : (at b : ℕ) (bs xs : List ℕ) → at < length xs
      → written_at c at (b ∷ bs) xs ≡ written_at c (suc at) bs (set xs at (programmed c (get_or xs at 0) b))
  unfolding written_at program
  write_peel at b bs [] h = absurd (not-suc-le-zero h)
  write_peel zero b bs (x ∷ xs) h = refl
  write_peel (suc at) b bs (x ∷ xs) h = ap (λ (l : List ℕ). x ∷ l) (write_peel at b bs xs (le_of_suc-le-suc h))

  pub write_turn : (i v : ℕ) (bs xs : List ℕ) → i < length bs → i < length xs → v ≡ programmed c (get_or xs i 0) (get_or bs i 0)
      → written_at c (i + 1) (drop (i + 1) bs) (set xs i v) ≡ written_at c i (drop i bs) xs
  write_turn i v bs xs l k z = rw (drop-cons bs i 0 l, z) (simp add-one (sym (write_peel i _ _ xs k)))

  -- past the last byte nothing is left to write
  pub write_end : (i : ℕ) (bs xs : List ℕ) → length xs ≤ i → written_at c i bs xs ≡ xs
  unfolding written_at program
  write_end i bs xs h = rw (drop_of_length-le xs h, take_all i xs h, append-nil)
