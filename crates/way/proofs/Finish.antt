-- The operations that end a revert, on a state area that may hold anything: invalidate, erase the state area unit by unit, write the
-- magic; all but the first are those of every mark, and of a confirmation that a boot finishes. Serves `power`, `confirmed`,
-- `settles`, `marking` and `every_count`. Assumes nothing.
use mathlib.Core.Path.{◌≡◌, refl, sym, ap, ◌∙◌}
use mathlib.Core.List.{List, [], ◌∷◌}
use mathlib.Core.Logic.{◌⊎◌, inl, inr}
use Prim.Native.Nat.{ℕ, suc, ◌+◌, ◌-◌, ◌*◌, ◌/◌, ◌≤◌, ◌<◌}
use native.Mathlib.Omega.{arith}
use native.Mathlib.Nat.{eq-or-lt_of_le}
use lib.ListN.{length, replicate, length-append, length-replicate, replicate-append-replicate}
use Rattle.state.specs.declared.Cell.{Cell}
use Rattle.state.specs.declared.State.{State}
use Rattle.state.specs.declared.State.TheVariants.{Revert}
use Rattle.state.specs.Cells.{erased, marked}
use Rattle.state.specs.Magic.{magic}
use Rattle.geometry.specs.declared.Geometry.{Geometry}
use Rattle.geometry.specs.declared.StateSizes.{StateSizes}
use Rattle.geometry.specs.Geometry.{cell}
use Rattle.mem_flash.specs.Flash.{state, Flash, Op, blank, erased_at, written_at, change, apply, apply_all, erase_ops, after}
use Rattle.mem_flash.specs.Run.{placed}
use Rattle.mem_flash.proofs.Stretches.{bytes_replicate, blank_all, written_erased, length_written}
use Rattle.mem_flash.proofs.Areas.{flash_path}
use Rattle.mem_flash.proofs.After.{apply_append, after_within, after_next, after_between}
use Rattle.mem_flash.proofs.Erases.{erase_count, state_part, erase_whole, erase_units}
use Rattle.rules.specs.StateArea.{invalidate_op, magic_op}
use Rattle.rules.specs.Boot.{renew_ops, finish_ops}
use Rattle.rules.specs.Power.{magic_area}
use Rattle.rules.proofs.Spread.{magic_byte}

-- the images A and R with the state area st
unfoldable pub closed : List ℕ → List ℕ → List ℕ → Flash
closed A R st = record { active = A; dfu = R; state = st }

-- the operations, for a state area of S bytes
unfoldable pub close_ops : Geometry → ℕ → List Op
close_ops g S = invalidate_op g.state ∷ renew_ops g.state S (magic Revert)

pub finish_close : (g : Geometry) (f : Flash) (S : ℕ) → length f.state ≡ S → finish_ops g f ≡ close_ops g S
unfolding finish_ops close_ops
finish_close g f S e = ap (close_ops g) e

pub renew_count : (z : StateSizes) (n m : ℕ) → length (renew_ops z n m) ≡ 1 + n / z.es
unfolding renew_ops
renew_count z n m = length-append (erase_ops (cell z) z.es state 0 n) (magic_op z m ∷ []) ∙ omega (arith, erase_count (cell z) z.es state 0 n)

pub close_count : (g : Geometry) (S : ℕ) → length (close_ops g S) ≡ 2 + S / g.state.es
unfolding close_ops
close_count g S = omega (arith, renew_count g.state S (magic Revert))

pub finish_count : (g : Geometry) (f : Flash) → length (finish_ops g f) ≡ 2 + length f.state / g.state.es
finish_count g f = ap length (finish_close g f (length f.state) refl) ∙ close_count g (length f.state)

module _ (A R : List ℕ) where
  pub closed_void : (z : StateSizes) (st : List ℕ)
      → apply (invalidate_op z) (closed A R st) ≡ closed A R (written_at (cell z) z.ws (replicate z.ws (marked (cell z))) st)
  unfolding invalidate_op apply change closed
  closed_void z st = refl

  -- the state area erased
  wiped : (c : Cell) (unit n : ℕ) (st : List ℕ) → n / unit * unit ≡ n → length st ≡ n
      → apply_all (erase_ops c unit state 0 n) (closed A R st) ≡ closed A R (replicate n (erased c))
  unfolding placed change closed erased_at
  wiped c unit n st whole e =
      erase_whole c unit state 0 n whole st (closed A R st) ∙ ap (closed A R) (blank_all c n st e)

  pub signed : (s : State) (z : StateSizes) (n : ℕ) → z.ws ≤ n
      → apply (magic_op z (magic s)) (closed A R (replicate n (erased (cell z)))) ≡ closed A R (magic_area z s n)
  unfolding magic_op apply change closed magic_area
  signed s z n h =
      let r : ℕ = n - z.ws in
      let e : n ≡ z.ws + r = omega arith in
      flash_path refl refl
      (ap (written_at (cell z) 0 (replicate z.ws (magic s)))
      (ap (λ (o : ℕ). replicate o (erased (cell z))) e ∙ sym (replicate-append-replicate z.ws r (erased (cell z))))
      ∙ written_erased (cell z) [] (replicate z.ws (magic s)) (replicate r (erased (cell z))) 0 z.ws refl (length-replicate z.ws (magic s))
      (bytes_replicate z.ws (magic s) (magic_byte s)))

  -- the erase and the magic of any state, then all operations of a revert's end
  pub renewed : (s : State) (z : StateSizes) (n : ℕ) (st : List ℕ) → n / z.es * z.es ≡ n → length st ≡ n → z.ws ≤ n
      → apply_all (renew_ops z n (magic s)) (closed A R st) ≡ closed A R (magic_area z s n)
  unfolding renew_ops apply_all
  renewed s z n st whole e h =
      apply_append (erase_ops (cell z) z.es state 0 n) (magic_op z (magic s) ∷ []) (closed A R st)
      ∙ ap (apply (magic_op z (magic s))) (wiped (cell z) z.es n st whole e) ∙ signed s z n h

  pub finished : (g : Geometry) (n : ℕ) (st : List ℕ) → n / g.state.es * g.state.es ≡ n → length st ≡ n → g.state.ws ≤ n
      → apply_all (close_ops g n) (closed A R st) ≡ closed A R (magic_area g.state Revert n)
  unfolding apply_all close_ops
  finished g n st whole e h =
      ap (apply_all (renew_ops g.state n (magic Revert))) (closed_void g.state st)
      ∙ renewed Revert g.state n (written_at (cell g.state) g.state.ws (replicate g.state.ws (marked (cell g.state))) st) whole
      (length_written (cell g.state) g.state.ws (replicate g.state.ws (marked (cell g.state))) st ∙ e) h

  -- cut inside the erase: its first units are erased, and the rest is as it was
  renew_erasing : (z : StateSizes) (n m j : ℕ) (st : List ℕ) → j < n / z.es
      → after j (renew_ops z n m) (closed A R st) ≡ closed A R (blank (cell z) (j * z.es) st)
  unfolding renew_ops placed change closed
  renew_erasing z n m j st h =
      after_within j (erase_ops (cell z) z.es state 0 n) (magic_op z m ∷ []) (closed A R st) (omega (arith, erase_count (cell z) z.es state 0 n))
      ∙ state_part (cell z) z.es n j st (closed A R st) h

  -- cut at the magic: all units are
  renew_unsigned : (z : StateSizes) (n m : ℕ) (st : List ℕ)
      → after (n / z.es) (renew_ops z n m) (closed A R st) ≡ closed A R (blank (cell z) (n / z.es * z.es) st)
  unfolding renew_ops placed change closed erased_at
  renew_unsigned z n m st =
      ap (λ (i : ℕ). after i (renew_ops z n m) (closed A R st)) (sym (erase_count (cell z) z.es state 0 n))
      ∙ after_between (erase_ops (cell z) z.es state 0 n) (magic_op z m ∷ []) (closed A R st)
      ∙ erase_units (cell z) z.es state 0 n st (closed A R st)

  -- so, with j operations: the first j units. Here alone the two cuts are joined
  pub renew_part : (z : StateSizes) (n m j : ℕ) (st : List ℕ) → j ≤ n / z.es
      → after j (renew_ops z n m) (closed A R st) ≡ closed A R (blank (cell z) (j * z.es) st)
  renew_part z n m j st h = go (eq-or-lt_of_le h)
    where
      go : (j ≡ n / z.es) ⊎ (j < n / z.es) → after j (renew_ops z n m) (closed A R st) ≡ closed A R (blank (cell z) (j * z.es) st)
      go (inl e) = rw e (renew_unsigned z n m st)
      go (inr l) = renew_erasing z n m j st l

  -- with the invalidation first: the rest on an area that is invalid, cut wherever it is
  pub void_first : (z : StateSizes) (n m j : ℕ) (st : List ℕ)
      → after (suc j) (invalidate_op z ∷ renew_ops z n m) (closed A R st)
      ≡ after j (renew_ops z n m) (closed A R (written_at (cell z) z.ws (replicate z.ws (marked (cell z))) st))
  void_first z n m j st =
      after_next j (invalidate_op z) (renew_ops z n m) (closed A R st) ∙ ap (after j (renew_ops z n m)) (closed_void z st)
