-- Laws of gathering a line from the pieces of the input: each way out of `gather`. Assumes nothing.
use mathlib.Core.Path.{◌≡◌, refl, ap, sym, ◌∙◌}
use mathlib.Core.Logic.{inl, inr}
use mathlib.Core.Bool.{Bool, true, false}
use mathlib.Core.List.{List, [], ◌∷◌, append_assoc}
use Prim.Native.Nat.{ℕ, zero, suc, ◌+◌, ◌-◌, ◌≤◌, ◌<◌, min}
use native.Mathlib.Omega.{arith}
use lib.Dec.{eqb, leb, ltb}
use lib.ListN.{length, take, drop, length-drop, drop_of_length-le}
use lib.Seq.{paste, paste-zero, drop-drop, take-take, take_all}
use borrow.Author.Tests.{le-leb, lt-leb, lt-ltb, le-ltb, leb-true, leb-false, ltb-true, ltb-false}
use borrow.Rule.Slice.PartMut.{put_mid}
use Rattle.std.proofs.Common.{Option, None, Some, Bor, length-take}
use Rattle.std.specs.Option.{unwrap_or}
use Rattle.std.specs.Slice.{IsGetRangeResult}
use Rattle.state.specs.Choice.{pick}
use Rattle.numerals.specs.Text.{first}
use Rattle.numerals.proofs.Splits.{first_le}
use Rattle.lines.specs.declared.Taken.{Taken}
use Rattle.lines.specs.declared.Taken.TheVariants.{Line, Part, Long}
use Rattle.lines.specs.Lines.{line_feed, taken_at, held_then}

-- what is left of a piece, by what `get` and `unwrap_or` ensure
pub rest_is : (piece : List ℕ) (at : ℕ) (o : Option (Bor (List ℕ))) (none rest : Bor (List ℕ)) → IsGetRangeResult piece at (length piece) o
    → none.now ≡ [] → rest ≡ unwrap_or o none → rest.now ≡ drop at piece
rest_is piece at None none rest g n r =
    let l : length piece ≤ at = elim g.0 [ inl h ↦ omega arith | inr h ↦ omega arith ] in
    ap (λ (x : Bor (List ℕ)). x.now) r ∙ n ∙ sym (drop_of_length-le piece l)
rest_is piece at (Some x) none rest g n r =
    let l : length (drop at piece) ≤ length piece - at = omega (arith, length-drop at piece) in
    ap (λ (x : Bor (List ℕ)). x.now) r ∙ g.0.2 ∙ take_all (length piece - at) (drop at piece) l

-- what is promised of the answer and of what is held
abbrev pub Gathered : List ℕ → List ℕ → List ℕ → ℕ → ℕ → Taken → Type 0
Gathered before piece held n at r = (r ≡ taken_at (length before) n piece at) × (held ≡ held_then (length before) before n piece at)

-- more is held than a line has
pub over : (before piece : List ℕ) (n at : ℕ) → length before < n → Gathered before piece before n at Long
unfolding taken_at held_then pick
over before piece n at h =
    let f : length before < n + first line_feed (drop at piece) = omega arith in
    let q : min (first line_feed (drop at piece)) (length before - n) ≡ 0 = omega arith in
    (rw (lt-leb _ _ f) refl, rw q (paste-zero before n (drop at piece)))

near_by : (t : Bool) (a m f : ℕ) → a ≡ min m f → pick t 0 (suc a) ≡ min (suc m) (pick t 0 (suc f))
unfolding pick
near_by true a m f h = omega arith
near_by false a m f h = omega (arith, h)

-- a search in the bytes that come first ends where they do, at the latest
pub first_near : (c m : ℕ) (xs : List ℕ) → first c (take m xs) ≡ min m (first c xs)
unfolding first
first_near c zero xs = omega arith
first_near c (suc m) [] = omega arith
first_near c (suc m) (b ∷ bs) = near_by (eqb b c) (first c (take m bs)) m (first c bs) (first_near c m bs)

wrote : (before rest : List ℕ) (n k : ℕ) → put_mid n k before (take k rest) ≡ paste before n rest k
wrote before rest n k = rw (drop-drop k n before) (sym (append_assoc (take n before) (take k rest) (drop (n + k) before)))

-- k bytes come up to the line feed or the piece's end, and as many are copied as there is room for
module _ (before piece new : List ℕ) (n at k room fits len : ℕ) (ends : k ≡ first line_feed (drop at piece)) (most : n ≤ length before)
    (left : room ≡ length before - n) (fit : fits ≡ min k room) (count : len ≡ fits) (copied : new ≡ take fits (drop at piece)) where
  holds : put_mid n len before new ≡ held_then (length before) before n piece at
  unfolding held_then
  holds =
      let m : min (first line_feed (drop at piece)) (length before - n) ≡ fits = rw (← ends, ← left) (sym fit) in
      rw (copied, count, m) (wrote before (drop at piece) n fits)

  pub too_long : room < k → Gathered before piece (put_mid n len before new) n at Long
  unfolding taken_at pick
  too_long r =
      let f : length before < n + k = omega arith in
      (rw (← ends, lt-leb _ _ f) refl, holds)

  pub ends_line : k ≤ room → k < length (drop at piece) → Gathered before piece (put_mid n len before new) n at (Line (n + k) (at + k + 1))
  unfolding taken_at pick
  ends_line r l =
      let f : n + k ≤ length before = omega arith in
      let h : at + k < length piece = omega (arith, length-drop at piece) in
      (rw (← ends, le-leb _ _ f, lt-ltb _ _ h) refl, holds)

  pub ends_piece : k ≤ room → length (drop at piece) ≤ k → Gathered before piece (put_mid n len before new) n at (Part (n + k))
  unfolding taken_at pick
  ends_piece r l =
      let f : n + k ≤ length before = omega arith in
      let h : length piece ≤ at + k = omega (arith, length-drop at piece) in
      (rw (← ends, le-leb _ _ f, le-ltb _ _ h) refl, holds)

-- the same where no more of the piece is searched than there is room for, and one byte: `near` bytes, of which k come up to the line feed
module _ (before piece new : List ℕ) (n at k room fits len near : ℕ) (ends : k ≡ first line_feed (take near (drop at piece)))
    (most : n ≤ length before) (left : room ≡ length before - n) (enough : min (length (drop at piece)) (room + 1) ≤ near)
    (fit : fits ≡ min k room) (count : len ≡ fits) (copied : new ≡ take fits (take near (drop at piece))) where
  near_far : k ≡ min near (first line_feed (drop at piece))
  near_far = ends ∙ first_near line_feed near (drop at piece)

  far_most : first line_feed (drop at piece) ≤ length (drop at piece)
  far_most = first_le line_feed (drop at piece)

  whole : new ≡ take fits (drop at piece)
  whole = copied ∙ take-take fits near (drop at piece) (omega (arith, near_far, fit))

  pub near_long : room < k → Gathered before piece (put_mid n len before new) n at Long
  near_long r =
      too_long before piece new n at (first line_feed (drop at piece)) room fits len refl most left
      (omega (arith, fit, near_far, far_most, enough, r)) count whole (omega (arith, near_far, r))

  found : k ≤ room → k ≡ first line_feed (drop at piece)
  found r = omega (arith, near_far, far_most, enough, r)

  pub near_line : k ≤ room → k < length (take near (drop at piece))
      → Gathered before piece (put_mid n len before new) n at (Line (n + k) (at + k + 1))
  near_line r l =
      ends_line before piece new n at k room fits len (found r) most left fit count whole r
      (omega (arith, l, length-take near (drop at piece)))

  pub near_piece : k ≤ room → length (take near (drop at piece)) ≤ k
      → Gathered before piece (put_mid n len before new) n at (Part (n + k))
  near_piece r l =
      ends_piece before piece new n at k room fits len (found r) most left fit count whole r
      (omega (arith, l, r, enough, length-take near (drop at piece)))

-- ---- for whoever calls: what each answer tells, of k bytes up to the line feed

pub data Told (most n at k len : ℕ) : Taken → Type 0 where
  line : n + k ≤ most → at + k < len → Told most n at k len (Line (n + k) (at + k + 1))
  part : n + k ≤ most → len ≤ at + k → Told most n at k len (Part (n + k))
  long : most < n + k → Told most n at k len Long

told_by : (s t : Bool) (most n at k len : ℕ) → leb (n + k) most ≡ s → ltb (at + k) len ≡ t
    → Told most n at k len (pick s (pick t (Line (n + k) (at + k + 1)) (Part (n + k))) Long)
unfolding pick
told_by true true most n at k len e f = line (leb-true (n + k) most e) (ltb-true (at + k) len f)
told_by true false most n at k len e f = part (leb-true (n + k) most e) (ltb-false (at + k) len f)
told_by false t most n at k len e f = long (leb-false (n + k) most e)

pub told : (most n at : ℕ) (piece : List ℕ) → Told most n at (first line_feed (drop at piece)) (length piece) (taken_at most n piece at)
unfolding taken_at
told most n at piece = told_by _ _ most n at (first line_feed (drop at piece)) (length piece) refl refl

-- a whole line fits, and the next starts further on and within the piece
line_by : (most n at k len m next : ℕ) (r : Taken) → Told most n at k len r → r ≡ Line m next → (m ≤ most) × (at < next) × (next ≤ len)
line_by most n at k len m next r (line h l) e =
    let a : n + k ≡ m = cc in
    let b : at + k + 1 ≡ next = cc in
    omega arith
line_by most n at k len m next r (part h l) e = let z : ◌≡◌ {A = ℕ} 0 1 = cc in omega arith
line_by most n at k len m next r (long h) e = let z : ◌≡◌ {A = ℕ} 0 1 = cc in omega arith

pub taken_line : (most n at m next : ℕ) (piece : List ℕ) (r : Taken) → r ≡ taken_at most n piece at → r ≡ Line m next
    → (m ≤ most) × (at < next) × (next ≤ length piece)
taken_line most n at m next piece r e h = line_by most n at (first line_feed (drop at piece)) (length piece) m next _ (told most n at piece) (sym e ∙ h)
