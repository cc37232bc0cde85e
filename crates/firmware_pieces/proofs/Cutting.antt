-- Laws of the data's pieces: the first piece and the rest, and that a piece's sector lies in DFU. `write_pieces` cites them.
-- Assumes nothing.
use mathlib.Core.Path.{◌≡◌, refl, ap, sym}
use mathlib.Core.List.{List, [], ◌∷◌, ◌++◌, append_assoc}
use Prim.Native.Nat.{ℕ, zero, suc, ◌+◌, ◌*◌, ◌/◌, ◌%◌, ◌≤◌, ◌<◌, min}
use native.Mathlib.Nat.{not-suc-le-zero, le_of_suc-le-suc, mod-lt, div-add-mod', div-lt_iff_lt-mul, mul-le-mul_right}
use native.Mathlib.Decide.{dec_le}
use native.Mathlib.Omega.{arith}
use lib.ListN.{length, take, drop, length-drop, drop_of_length-le}
use lib.Seq.{take_all}
use Rattle.state.specs.declared.Cell.{Cell}
use Rattle.state.specs.Choice.{pick}
use Rattle.mem_flash.specs.Flash.{dfu, erase, write}
use Rattle.std.specs.Prelude.{Some}
use Rattle.rules.specs.FirmwareUpdater.{Sector, room, Piece, pieces_from, pieces, remembers, pieces_ops}
use Rattle.firmware_pieces.specs.Wrote.{piece_ops}

-- a piece has a byte or more
room_some : (ed at : ℕ) → 0 < ed → 0 < room ed at
unfolding room
room_some ed at h = omega (arith, mod-lt at h)

none_from : (n ed at : ℕ) → pieces_from n ed at [] ≡ []
unfolding pieces_from
none_from zero ed at = refl
none_from (suc n) ed at = refl

pub no_pieces : (ed at : ℕ) → pieces ed at [] ≡ []
unfolding pieces
no_pieces ed at = none_from 0 ed at

-- how many pieces are allowed makes no difference, once it is the data's length
enough : (n m ed at : ℕ) (xs : List ℕ) → 0 < ed → length xs ≤ n → length xs ≤ m → pieces_from n ed at xs ≡ pieces_from m ed at xs
unfolding pieces_from
enough zero m ed at [] p h k = sym (none_from m ed at)
enough zero m ed at (x ∷ xs) p h k = absurd (not-suc-le-zero h)
enough (suc n) m ed at [] p h k = sym (none_from m ed at)
enough (suc n) zero ed at (x ∷ xs) p h k = absurd (not-suc-le-zero k)
enough (suc n) (suc m) ed at (x ∷ xs) p h k =
    let r = room_some ed at p in
    let d = length-drop (room ed at) (x ∷ xs) in
    let i : length (drop (room ed at) (x ∷ xs)) ≤ n = omega (arith, d, r, le_of_suc-le-suc h) in
    let j : length (drop (room ed at) (x ∷ xs)) ≤ m = omega (arith, d, r, le_of_suc-le-suc k) in
    ap
    (λ (ps : List Piece). record { at = at; bytes = take (room ed at) (x ∷ xs) } ∷ ps)
    (enough n m ed (at + room ed at) (drop (room ed at) (x ∷ xs)) p i j)

-- the first piece has n bytes, those up to the sector's end or all that are left; the rest is cut as data of its own
pub pieces_next : (ed at n : ℕ) (xs : List ℕ) → 0 < ed → 0 < length xs → n ≡ min (length xs) (room ed at)
    → pieces ed at xs ≡ record { at = at; bytes = take n xs } ∷ pieces ed (at + n) (drop n xs)
unfolding pieces pieces_from
pieces_next ed at n [] p h e = absurd (not-suc-le-zero h)
pieces_next ed at n (x ∷ xs) p h e = go (dec_le (room ed at) (length (x ∷ xs)))
  where
    r : 0 < room ed at
    r = room_some ed at p

    go : Dec (room ed at ≤ length (x ∷ xs))
        → pieces_from (length (x ∷ xs)) ed at (x ∷ xs)
        ≡ record { at = at; bytes = take n (x ∷ xs) } ∷ pieces_from (length (drop n (x ∷ xs))) ed (at + n) (drop n (x ∷ xs))
    go (yes q) =
        let z : n ≡ room ed at = omega arith in
        rw z
        (ap
        (λ (ps : List Piece). record { at = at; bytes = take (room ed at) (x ∷ xs) } ∷ ps)
        (enough (length xs) (length (drop (room ed at) (x ∷ xs))) ed (at + room ed at) (drop (room ed at) (x ∷ xs)) p
        (omega (arith, r, length-drop (room ed at) (x ∷ xs)))
        (omega arith)))
    go (no q) =
        let i : length (x ∷ xs) ≤ n = omega (arith, q) in
        let j : length (x ∷ xs) ≤ room ed at = omega (arith, q) in
        rw (drop_of_length-le (x ∷ xs) i, drop_of_length-le (x ∷ xs) j, take_all n (x ∷ xs) i, take_all (room ed at) (x ∷ xs) j)
        (ap (λ (ps : List Piece). record { at = at; bytes = x ∷ xs } ∷ ps) (none_from (length xs) ed (at + room ed at)))

-- the sector of an offset in DFU lies in DFU
pub sector_in : (ed at n : ℕ) → 0 < ed → n % ed ≡ 0 → at < n → at / ed * ed + ed ≤ n
sector_in ed at n p e h =
    let q : n / ed * ed ≡ n = omega (arith, div-add-mod' n ed) in
    let l : at / ed < n / ed = (div-lt_iff_lt-mul p).1 (rw q h) in
    let m : (at / ed + 1) * ed ≤ n / ed * ed = mul-le-mul_right ed (omega arith) in
    omega (arith, m, q)

-- the operations of a first piece and of the rest
pub pieces_ops_lem : (c : Cell) (ed at : ℕ) (m : Sector) (bytes : List ℕ) (ps : List Piece)
    → pieces_ops c ed m (record { at = at; bytes = bytes } ∷ ps) ≡ piece_ops c ed m at bytes ++ pieces_ops c ed (Some (at / ed)) ps
unfolding pieces_ops piece_ops
pieces_ops_lem c ed at m bytes ps =
    sym (append_assoc (pick (remembers m (at / ed)) [] (erase c dfu (at / ed * ed) ed ∷ [])) (write c dfu at bytes ∷ []) (pieces_ops c ed (Some (at / ed)) ps))
