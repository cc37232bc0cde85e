-- Operations on the state area alone: they leave the images as they were, and what they leave of the state area does not depend on the
-- images. So what is known of a run with any images is known with all. Assumes nothing.
use mathlib.Core.Path.{◌≡◌, refl}
use mathlib.Core.List.{List, [], ◌∷◌, ◌++◌}
use Prim.Native.Nat.{ℕ, zero, suc, ◌+◌, ◌/◌}
use lib.ListN.{take}
use Rattle.state.specs.declared.Cell.{Cell}
use Rattle.mem_flash.specs.Flash.{state, Op, erase, write, change, apply, apply_all, after, unit_ops, erase_ops}
use Rattle.mem_flash.specs.Run.{flash}

pub data OnState : List Op → Type 0 where
  nothing : OnState []
  erases : {c : Cell} {from n : ℕ} {os : List Op} → OnState os → OnState (erase c state from n ∷ os)
  writes : {c : Cell} {at : ℕ} {bs : List ℕ} {os : List Op} → OnState os → OnState (write c state at bs ∷ os)

pub on_append : {os ps : List Op} → OnState os → OnState ps → OnState (os ++ ps)
on_append nothing q = q
on_append (erases p) q = erases (on_append p q)
on_append (writes p) q = writes (on_append p q)

on_units : (c : Cell) (n unit from : ℕ) → OnState (unit_ops c n unit state from)
unfolding unit_ops
on_units c zero unit from = nothing
on_units c (suc n) unit from = erases (on_units c n unit (from + unit))

pub on_erase : (c : Cell) (unit from n : ℕ) → OnState (erase_ops c unit state from n)
unfolding erase_ops
on_erase c unit from n = on_units c (n / unit) unit from

on_take : (k : ℕ) {os : List Op} → OnState os → OnState (take k os)
on_take zero p = nothing
on_take (suc k) nothing = nothing
on_take (suc k) (erases p) = erases (on_take k p)
on_take (suc k) (writes p) = writes (on_take k p)

alone : {os : List Op} → OnState os → (a d b e st : List ℕ) → apply_all os (flash b e st) ≡ flash b e (apply_all os (flash a d st)).state
unfolding apply_all apply change
alone nothing a d b e st = refl
alone (erases p) a d b e st = alone p a d b e _
alone (writes p) a d b e st = alone p a d b e _

pub after_alone : (k : ℕ) {os : List Op} → OnState os → (a d b e st : List ℕ)
    → after k os (flash b e st) ≡ flash b e (after k os (flash a d st)).state
unfolding after
after_alone k p a d b e st = alone (on_take k p) a d b e st
