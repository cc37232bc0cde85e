use mathlib.Core.Path.{◌≡◌}
use mathlib.Core.List.{List, ◌++◌}
use Prim.Native.Nat.{ℕ}
use Rattle.std.specs.Slice.Iter.{chunks_rest}
use Rattle.sha512.specs.Streams.{holding}
use Rattle.firmware_hash.proofs.stream.Given as goal

-- the bytes that were added, and those to come, are all
abbrev pub invariant-loop-piece : goal.invariant-loop-piece
invariant-loop-piece l = (m : List ℕ) × (l.s ≡ holding m) × (m ++ chunks_rest l.piece-iterator ≡ l.bytes)
