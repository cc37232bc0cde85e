use Rattle.std.proofs.Common.{◌≡◌, ℕ, ◌+◌, ◌*◌, ◌≤◌, take}
use Rattle.sha512_block.specs.Constants.{ks}
use Rattle.sha512_block.specs.Rounds.{schedule, rounds}
use Rattle.sha512_block.specs.Partly.{rounds_from}
use Rattle.sha512_block.proofs.compress.Given as goal

abbrev pub invariant-loop-turn : goal.invariant-loop-turn
invariant-loop-turn l = ((n : ℕ) → n ≤ 80 → n ≤ 8 * l.turn + 16 → take n (schedule l.b) ≡ take n l.w) × (rounds_from (8 * l.turn) (schedule l.b) l.x ≡ rounds ks (schedule l.b) l.s)
