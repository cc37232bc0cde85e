use Rattle.std.proofs.Common.{◌≡◌, length, take}
use Rattle.sha512_block.specs.Rounds.{schedule}
use Rattle.sha512_block.proofs.load.Given as goal

abbrev pub invariant-loop-t : goal.invariant-loop-t
invariant-loop-t l = (length l.w ≡ 80) × (take l.t (schedule l.b) ≡ take l.t l.w)
