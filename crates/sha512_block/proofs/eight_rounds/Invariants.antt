use Rattle.sha512_block.specs.Partly.{Passed}
use Rattle.sha512_block.proofs.eight_rounds.Given as goal

abbrev pub invariant-loop-i : goal.invariant-loop-i
invariant-loop-i l = Passed l.t l.i l.w l.fn.s l.x
