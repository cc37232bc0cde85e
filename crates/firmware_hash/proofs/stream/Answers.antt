-- `stream`: what was added so far, and what is to come, are all the bytes. Assumes nothing.
use mathlib.Core.Path.{◌≡◌, sym, ap, ◌∙◌}
use mathlib.Core.List.{List, [], ◌∷◌, ◌++◌, append_assoc}
use Prim.Native.Nat.{ℕ}
use native.Mathlib.Omega.{arith}
use lib.ListN.{length}
use Rattle.std.proofs.lemmas.List.{append-nil}
use Rattle.sha512.specs.Streams.{holding}
use Rattle.firmware_hash.proofs.stream.Goals as goal

none_left : (m rest : List ℕ) {all : List ℕ} → length rest ≡ 0 → m ++ rest ≡ all → m ≡ all
none_left m [] h e = sym (append-nil m) ∙ e
none_left m (x ∷ rest) h e = absurd (omega (arith, h))

pub loop-piece-init : goal.loop-piece-init
loop-piece-init c = ([], c.begin-s.ensures, rw c.into_iter-piece-iterator.ensures.into_iter_gives c.chunks-piece-items.ensures.rest)

pub loop-piece-preserved : goal.loop-piece-preserved
loop-piece-preserved c =
    let v = c.loop-piece.invariant in
    let p = c.in-Some.piece.now in
    (v.0 ++ p, c.add-s.ensures.holds v.0 v.1, append_assoc v.0 p _ ∙ ap (λ (xs : List ℕ). v.0 ++ xs) (sym c.in-Some.ensures.steps.1.0) ∙ v.2)

pub returns : goal.returns
returns c =
    let v = c.loop-piece.invariant in
    v.1 ∙ ap holding (none_left v.0 _ c.in-None.ensures.steps.1.0 v.2)
