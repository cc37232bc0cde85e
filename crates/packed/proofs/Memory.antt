-- The memory at the C boundary. What write_firmware remembers is what was remembered before, or a sector of DFU; so it stands in
-- 32 bits, no sector is taken for none, and what was written back is read again as the same memory. Assumes nothing.
use mathlib.Core.Path.{◌≡◌, refl, ap, sym}
use mathlib.Core.Bool.{Bool, true, false}
use mathlib.Core.List.{List, [], ◌∷◌, ◌++◌}
use Prim.Native.Nat.{ℕ, zero, suc, ◌+◌, ◌/◌, ◌^◌, ◌≤◌, ◌<◌, min}
use native.Mathlib.Nat.{div-add-mod', div-le_self}
use native.Mathlib.Decide.{dec_le}
use native.Mathlib.Omega.{arith}
use lib.Dec.{eqb}
use lib.ListN.{length, take, drop, length-drop, drop_of_length-le}
use borrow.Author.Tests.{ne_eqb, eqb-true}
use Rattle.state.specs.declared.Cell.{Cell}
use Rattle.state.specs.Choice.{pick}
use Rattle.geometry.specs.declared.Sizes.{Sizes}
use Rattle.geometry.specs.Geometry.{cell}
use Rattle.geometry.specs.Refusals.{most_length}
use Rattle.geometry.proofs.Rows.{updater_admits}
use Rattle.mem_flash.specs.Flash.{Area, Flash, Op, erase, write}
use Rattle.rules.specs.FirmwareUpdater.{Sector}
use Rattle.std.specs.Prelude.{None, Some}
use Rattle.rules.specs.FirmwareUpdater.{room, Piece, pieces_from, pieces, remembers, pieces_ops, remembered_op, remembered, updater_call, write_firmware, memory}
use Rattle.firmware_pieces.proofs.Ranges.{range_in}
use Rattle.packed.specs.Packed.{no_sector, sector_of, last_number}

-- ---- what is remembered

-- the memory m became: itself, or a sector that is at most l
pub data Remembers (l : ℕ) (m : Sector) : Sector → Type 0 where
  same : Remembers l m m
  other : {s : ℕ} → s ≤ l → Remembers l m (Some s)

then : {l : ℕ} {m m₁ m₂ : Sector} → Remembers l m m₁ → Remembers l m₁ m₂ → Remembers l m m₂
then same y = y
then (other h) same = other h
then (other h) (other k) = other k

-- the erases of a list start at l or before
data Erases (l : ℕ) : List Op → Type 0 where
  none : Erases l []
  erased : {c : Cell} {a : Area} {from n : ℕ} {os : List Op} → from ≤ l → Erases l os → Erases l (erase c a from n ∷ os)
  written : {c : Cell} {a : Area} {at : ℕ} {bs : List ℕ} {os : List Op} → Erases l os → Erases l (write c a at bs ∷ os)

remembers_one : {l : ℕ} {os : List Op} (k ed : ℕ) (m : Sector) → Erases l os → Remembers l m (remembered ed (take k os) m)
unfolding remembered remembered_op
remembers_one zero ed m e = same
remembers_one (suc k) ed m none = same
remembers_one (suc k) ed m (erased {from = from} h e) =
    then (other (let d = div-le_self from ed in omega arith)) (remembers_one k ed (Some (from / ed)) e)
remembers_one (suc k) ed m (written e) = remembers_one k ed m e

-- ---- the erases of write_firmware

data Starts (l : ℕ) : List Piece → Type 0 where
  none : Starts l []
  one : {p : Piece} {ps : List Piece} → p.at ≤ l → Starts l ps → Starts l (p ∷ ps)

starts_none : (l n ed at : ℕ) → Starts l (pieces_from n ed at [])
unfolding pieces_from
starts_none l zero ed at = none
starts_none l (suc n) ed at = none

starts : (l n ed at : ℕ) (xs : List ℕ) → at + length xs ≤ l → Starts l (pieces_from n ed at xs)
unfolding pieces_from
starts l zero ed at xs h = none
starts l (suc n) ed at [] h = none
starts l (suc n) ed at (x ∷ xs) h =
    let i : at ≤ l = omega arith in
    one i
    (go
    (λ q. starts l n ed (at + room ed at) (drop (room ed at) (x ∷ xs)) (omega (arith, length-drop (room ed at) (x ∷ xs), q)))
    (dec_le (room ed at) (length (x ∷ xs))))
  where
    go : (room ed at ≤ length (x ∷ xs) → Starts l (pieces_from n ed (at + room ed at) (drop (room ed at) (x ∷ xs))))
        → Dec (room ed at ≤ length (x ∷ xs))
        → Starts l (pieces_from n ed (at + room ed at) (drop (room ed at) (x ∷ xs)))
    go further (yes q) = further q
    go further (no q) =
        let j : length (x ∷ xs) ≤ room ed at = omega (arith, q) in
        rw (drop_of_length-le (x ∷ xs) j) (starts_none l n ed (at + room ed at))

erases_pick : {l : ℕ} (b : Bool) {os ps : List Op} → Erases l os → Erases l ps → Erases l (pick b [] os ++ ps)
unfolding pick
erases_pick true x y = y
erases_pick false none y = y
erases_pick false (erased h x) y = erased h (erases_pick false x y)
erases_pick false (written x) y = written (erases_pick false x y)

erases : {l : ℕ} {ps : List Piece} (c : Cell) (ed : ℕ) (m : Sector) → Starts l ps → Erases l (pieces_ops c ed m ps)
unfolding pieces_ops
erases c ed m none = none
erases c ed m (one {p} h s) =
    erases_pick (remembers m (p.at / ed))
    (erased (let d = div-add-mod' p.at ed in omega arith) none)
    (written (erases c ed (Some (p.at / ed)) s))

module _ (k : ℕ) (z : Sizes) (m : Sector) (offset : ℕ) (bytes : List ℕ) (f : Flash) where
  -- data that is not empty lies in DFU, and DFU is no longer than the longest area
  starts_in : (bs : List ℕ) → (0 < length bs → offset + length bs ≤ length f.dfu) → length f.dfu ≤ most_length
      → Starts most_length (pieces z.ed offset bs)
  unfolding pieces
  starts_in [] h l = starts_none most_length 0 z.ed offset
  starts_in (b ∷ bs) h l =
      let i = h (omega arith) in
      starts most_length (length (b ∷ bs)) z.ed offset (b ∷ bs) (omega arith)

  -- the memory after write_firmware is the memory before or a sector of DFU, and none is left unless none was there
  pub memory_one : Remembers most_length m (memory k z m offset bytes f)
  unfolding memory write_firmware updater_call pick
  memory_one = go _ refl
    where
      go : (b : Bool) → eqb (write_firmware z m offset bytes f).refusal 0 ≡ b
          → Remembers most_length m (pick b (remembered z.ed (take k (pieces_ops (cell z.state) z.ed m (pieces z.ed offset bytes))) m) m)
      go true e =
          let a = updater_admits z (length f.dfu) (length f.state) _ _ (eqb-true _ _ e) in
          remembers_one k z.ed m
          (erases (cell z.state) z.ed m (starts_in bytes (range_in z.wd (length f.dfu) offset (length bytes) a.1) a.0.dfu_most))
      go false e = same

-- ---- in 32 bits

-- a caller's number stands for a memory whose number it is
pub last_sector : (n : ℕ) → n < 2 ^ 32 → last_number (sector_of n) ≡ n
unfolding sector_of last_number pick no_sector
last_sector n h = go _ refl
  where
    go : (b : Bool) → eqb n no_sector ≡ b → last_number (pick b None (Some n)) ≡ n
    go true e = sym (eqb-true _ _ e)
    go false e = omega arith

-- what is written back stands for the memory itself, so that a caller who hands it in again goes on with that memory
pub memory_again : (k : ℕ) (z : Sizes) (n offset : ℕ) (bytes : List ℕ) (f : Flash) → n < 2 ^ 32
    → sector_of (last_number (memory k z (sector_of n) offset bytes f)) ≡ memory k z (sector_of n) offset bytes f
unfolding sector_of last_number pick no_sector most_length
memory_again k z n offset bytes f l = go (memory_one k z (sector_of n) offset bytes f)
  where
    go : {m : Sector} → Remembers most_length (sector_of n) m → sector_of (last_number m) ≡ m
    go same = ap sector_of (last_sector n l)
    go (other {s} h) =
        let e : min s 4294967295 ≡ s = omega arith in
        rw (e, ne_eqb s 4294967295 (λ q. omega (arith, h, q)))

-- a refusal leaves the caller's number as it came
pub memory_refused : (k : ℕ) (z : Sizes) (n offset : ℕ) (bytes : List ℕ) (f : Flash) → n < 2 ^ 32
    → ((write_firmware z (sector_of n) offset bytes f).refusal ≡ 0 → ⊥) → last_number (memory k z (sector_of n) offset bytes f) ≡ n
unfolding memory pick
memory_refused k z n offset bytes f l h = rw (ne_eqb _ _ h) (last_sector n l)
