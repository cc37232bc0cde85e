-- The loop of `write_pieces`: what is left of the data, written from here, is the whole. Assumes nothing.
use mathlib.Core.Path.{◌≡◌}
use mathlib.Core.List.{List, [], ◌∷◌}
use Prim.Native.Nat.{ℕ, ◌+◌, ◌/◌, ◌<◌, min}
use native.Mathlib.Omega.{arith}
use lib.ListN.{length, take, drop}
use Rattle.std.specs.Prelude.{Ok, Some}
use Rattle.state.specs.declared.Cell.{Cell}
use Rattle.mem_flash.specs.declared.Budget.{Budget}
use Rattle.mem_flash.specs.Run.{Flow, cut, on}
use Rattle.rules.specs.FirmwareUpdater.{Sector, room, pieces, pieces_ops}
use Rattle.firmware_pieces.specs.Wrote.{piece_ops, WroteBy}
use Rattle.firmware_pieces.proofs.Cutting.{no_pieces, pieces_next, pieces_ops_lem}
use Rattle.firmware_pieces.proofs.Writes.{wrote_on, wrote_cut, wrote_none}

-- a turn: the next piece has n bytes
module _ {k ed n : ℕ} (c : Cell) (at : ℕ) (rest : List ℕ) {m m₁ : Sector} {xs xs₁ : List ℕ} {r : Flow} (p : 0 < ed) (some : 0 < length rest)
    (size : n ≡ min (length rest) (room ed at))
    (w : WroteBy k ed (piece_ops c ed m at (take n rest)) m m₁ xs xs₁ r) where
  pub rest_cut : r ≡ cut → WroteBy k ed (pieces_ops c ed m (pieces ed at rest)) m m₁ xs xs₁ cut
  rest_cut o = rw (pieces_next ed at n rest p some size, pieces_ops_lem c ed at m (take n rest)) (wrote_cut w _ o)

  pub rest_on : {l : Budget} {m₂ : Sector} {xs₂ : List ℕ} {q : Flow} → r ≡ Ok l → m₁ ≡ Some (at / ed)
      → WroteBy l.0 ed (pieces_ops c ed m₁ (pieces ed (at + n) (drop n rest))) m₁ m₂ xs₁ xs₂ q
      → WroteBy k ed (pieces_ops c ed m (pieces ed at rest)) m m₂ xs xs₂ q
  rest_on o e v = rw (pieces_next ed at n rest p some size, pieces_ops_lem c ed at m (take n rest), ← e) (wrote_on w o v)

-- no data is left
pub rest_end : {k ed : ℕ} (c : Cell) (at : ℕ) (rest : List ℕ) {m : Sector} {xs : List ℕ} → length rest ≡ 0
    → WroteBy k ed (pieces_ops c ed m (pieces ed at rest)) m m xs xs (on k)
unfolding pieces_ops
rest_end {k} {ed} c at [] {m} {xs} h = rw (no_pieces ed at) (wrote_none k ed m xs)
rest_end c at (x ∷ rest) h = absurd (omega (arith, h))
