-- Row 6 of hash: its tests in their order, and what a call may count on of which none holds. Assumes nothing.
use mathlib.Core.Path.{◌≡◌}
use mathlib.Core.Bool.{true, false}
use Prim.Native.Nat.{ℕ, ◌≤◌, ◌<◌}
use native.Mathlib.Omega.{arith}
use lib.Dec.{eqb}
use borrow.Author.Tests.{ltb-false, eqb-false, not-false}
use Rattle.geometry.proofs.Tests.{any_none}
use Rattle.firmware_hash.specs.Hash.{bad_hash}

module _ (ld len chunk n : ℕ) where
  pub asked_in : bad_hash ld len chunk n ≡ false → (len ≤ ld) × (0 < chunk) × (eqb n 64 ≡ true)
  unfolding bad_hash
  asked_in e =
      let a = any_none _ _ e in
      let b = any_none _ _ a.1 in
      let some = eqb-false chunk 0 b.0 in
      let c = any_none _ _ b.1 in
      (ltb-false ld len a.0, omega (arith, some), not-false _ c.0)
