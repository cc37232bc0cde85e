-- Laws of runs that remember: two runs one after the other, an erase, a write, and a whole piece. Assumes nothing.
use mathlib.Core.Path.{◌≡◌, refl, ap, ◌∙◌, sym}
use mathlib.Core.Bool.{Bool, true, false, not}
use mathlib.Core.List.{List, [], ◌∷◌, ◌++◌}
use Prim.Native.Nat.{ℕ, zero, suc, ◌+◌, ◌-◌, ◌*◌, ◌/◌, ◌≤◌, ◌<◌}
use native.Mathlib.Nat.{mul-div_cancel}
use native.Mathlib.Omega.{arith}
use lib.Dec.{eqb}
use lib.ListN.{length, take}
use lib.Seq.{take_all, take-append-add, take-append-le}
use borrow.Author.Tests.{leb-false}
use Rattle.std.specs.Option.{option_eq}
use Rattle.std.specs.Prelude.{Ok, None, Some}
use Rattle.state.specs.declared.Cell.{Cell}
use Rattle.state.specs.Choice.{pick}
use Rattle.mem_flash.specs.declared.Budget.{Budget}
use Rattle.mem_flash.specs.Flash.{dfu, Op, write, change, erase_ops}
use Rattle.mem_flash.specs.Run.{Flow, cut, flash, on, ended, run, placed, InArea, unit_op, write_ops}
use Rattle.mem_flash.proofs.Runs.{then_on, then_cut, ran, erase_one}
use Rattle.rules.specs.FirmwareUpdater.{Sector, remembers, remembered_op, remembered}
use Rattle.rules.proofs.Did.{ran_count, ran_over}
use Rattle.firmware_pieces.specs.Wrote.{piece_ops, WroteBy}
use Rattle.firmware_pieces.proofs.Verdicts.{inverse}

remembered_append : (ed : ℕ) (os ps : List Op) (m : Sector) → remembered ed (os ++ ps) m ≡ remembered ed ps (remembered ed os m)
unfolding remembered
remembered_append ed [] ps m = refl
remembered_append ed (o ∷ os) ps m = remembered_append ed os ps (remembered_op ed o m)

-- ---- two runs

module _ {k ed : ℕ} {os : List Op} {m m₁ : Sector} {xs xs₁ : List ℕ} {r : Flow} (w : WroteBy k ed os m m₁ xs xs₁ r) where
  done_all : (l : Budget) → r ≡ Ok l → (length os ≤ k) × (l.0 ≡ k - length os)
  done_all l o = ran_count k os (flash [] xs []) (flash [] xs₁ []) r (ran _ _ _ _ _ (w.flash [] [])) l o

  cut_short : r ≡ cut → k < length os
  cut_short o = leb-false _ _ (ran_over k os (flash [] xs []) (flash [] xs₁ []) r (ran _ _ _ _ _ (w.flash [] [])) o)

  pub wrote_on : {ps : List Op} {l : Budget} {m₂ : Sector} {xs₂ : List ℕ} {q : Flow} → r ≡ Ok l → WroteBy l.0 ed ps m₁ m₂ xs₁ xs₂ q
      → WroteBy k ed (os ++ ps) m m₂ xs xs₂ q
  wrote_on {ps} {l} o v =
      let n = done_all l o in
      let e : k ≡ length os + l.0 = omega arith in
      let t : take k (os ++ ps) ≡ os ++ take l.0 ps = ap (λ i. take i (os ++ ps)) e ∙ take-append-add os ps l.0 in
      let b : m₁ ≡ remembered ed os m = w.memory ∙ ap (λ (z : List Op). remembered ed z m) (take_all k os n.0) in
      record {
        flash = λ a s. then_on k os ps _ _ r (w.flash a s) l o ∙ v.flash a s;
        memory = v.memory ∙ rw (t, remembered_append ed os (take l.0 ps) m, b);
      }

  pub wrote_cut : (ps : List Op) → r ≡ cut → WroteBy k ed (os ++ ps) m m₁ xs xs₁ cut
  wrote_cut ps o =
      let n = cut_short o in
      record {
        flash = λ a s. then_cut k os ps _ _ r (w.flash a s) o;
        memory = w.memory ∙ ap (λ (z : List Op). remembered ed z m) (sym (take-append-le k os ps (omega arith)));
      }

-- no operation
pub wrote_none : (k ed : ℕ) (m : Sector) (xs : List ℕ) → WroteBy k ed [] m m xs xs (on k)
unfolding run remembered
wrote_none zero ed m xs = record { flash = λ a s. refl; memory = refl }
wrote_none (suc k) ed m xs = record { flash = λ a s. refl; memory = refl }

-- ---- one operation

none_kept : (k ed : ℕ) (m : Sector) → m ≡ remembered ed (take k []) m
unfolding remembered
none_kept zero ed m = refl
none_kept (suc k) ed m = refl

-- a write remembers nothing new
wrote_write : (k : ℕ) {c : Cell} {ed at : ℕ} {bs : List ℕ} {m : Sector} {xs xs' : List ℕ} {r : Flow} → InArea k (write_ops c at bs) xs xs' r
    → WroteBy k ed (write c dfu at bs ∷ []) m m xs xs' r
unfolding remembered remembered_op placed change
wrote_write zero {xs = xs} w = record { flash = λ a s. w dfu (flash a xs s); memory = refl }
wrote_write (suc k) {ed} {m = m} {xs = xs} w = record { flash = λ a s. w dfu (flash a xs s); memory = none_kept k ed m }

module _ (c : Cell) (k ed s : ℕ) (m : Sector) (xs xs' : List ℕ) (r : Flow) (p : 0 < ed)
    (w : InArea k (λ a. erase_ops c ed a (s * ed) (s * ed + ed - s * ed)) xs xs' r) where
  abbrev unit : List Op
  unit = unit_op c (s * ed) ed dfu

  erases : (a b : List ℕ) → run k unit (flash a xs b) ≡ ended (flash a xs' b) r
  unfolding placed change
  erases a b = erase_one c k ed (s * ed) _ xs xs' r p (omega arith) w dfu (flash a xs b)

  -- an erase that is done is remembered
  wrote_erase : (l : Budget) → r ≡ Ok l → WroteBy k ed unit m (Some s) xs xs' r
  unfolding remembered remembered_op
  wrote_erase l o =
      let n = ran_count k unit (flash [] xs []) (flash [] xs' []) r (ran _ _ _ _ _ (erases [] [])) l o in
      record { flash = erases; memory = sym (rw (take_all k unit n.0) (ap Some (mul-div_cancel s p))) }

  -- one that is cut is not
  wrote_erase_cut : r ≡ cut → WroteBy k ed unit m m xs xs' r
  unfolding remembered
  wrote_erase_cut o =
      let n = ran_over k unit (flash [] xs []) (flash [] xs' []) r (ran _ _ _ _ _ (erases [] [])) o in
      let h : k < 1 = leb-false 1 k n in
      let z : k ≡ 0 = omega arith in
      record { flash = erases; memory = rw z }

-- ---- a piece

-- the code asks whether another sector was erased last
pub other_sector : (m : Sector) (s : ℕ) {found : Bool} → found ≡ not (option_eq eqb m (Some s)) → remembers m s ≡ not found
unfolding remembers
other_sector None s e = inverse false e
other_sector (Some t) s e = inverse (eqb t s) e

module _ {k : ℕ} (c : Cell) (ed at : ℕ) (bytes : List ℕ) {m : Sector} {xs : List ℕ} (xs' : List ℕ) {r : Flow} where
  -- the sector was erased last
  pub piece_again : remembers m (at / ed) ≡ true → InArea k (write_ops c at bytes) xs xs' r → WroteBy k ed (piece_ops c ed m at bytes) m m xs xs' r
  unfolding piece_ops pick
  piece_again e w = rw e (wrote_write k w)

  -- it was not: the erase first
  module _ (e : remembers m (at / ed) ≡ false) (p : 0 < ed)
      (w : InArea k (λ a. erase_ops c ed a (at / ed * ed) (at / ed * ed + ed - at / ed * ed)) xs xs' r) where
    pub piece_cut : r ≡ cut → WroteBy k ed (piece_ops c ed m at bytes) m m xs xs' cut
    unfolding piece_ops pick
    piece_cut o = rw e (wrote_cut (wrote_erase_cut c k ed (at / ed) m xs xs' r p w o) (write c dfu at bytes ∷ []) o)

    pub piece_on : {l : Budget} {xs₂ : List ℕ} {q : Flow} → r ≡ Ok l → InArea l.0 (write_ops c at bytes) xs' xs₂ q
        → WroteBy k ed (piece_ops c ed m at bytes) m (Some (at / ed)) xs xs₂ q
    unfolding piece_ops pick
    piece_on {l} o v = rw e (wrote_on (wrote_erase c k ed (at / ed) m xs xs' r p w l o) o (wrote_write l.0 v))
