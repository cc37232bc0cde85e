use Rattle.log_steps.specs.Code.{plain}
use Rattle.log_steps.proofs.Reading.{Going}
use Rattle.log_steps.proofs.Step.read.Given as goal

abbrev pub invariant-loop-i : goal.invariant-loop-i
invariant-loop-i l = Going l.log (plain l.self) l.i l.done
