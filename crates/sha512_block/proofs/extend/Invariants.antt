use Rattle.std.proofs.Common.{◌≡◌, ℕ, List, length, take}
use Rattle.sha512_block.specs.Rounds.{schedule}
use Rattle.sha512_block.proofs.extend.Given as goal

abbrev pub invariant-loop-t : goal.invariant-loop-t
invariant-loop-t l = (length l.w ≡ 80) × ((b : List ℕ) → take l.u (schedule b) ≡ take l.u l.initial.w → take l.t (schedule b) ≡ take l.t l.w)
