use Rattle.log_steps.specs.Code.{to_read}
use Rattle.log_steps.proofs.Turns.{Still, to_go}
use Rattle.log_steps.proofs.Reader.finish.Given as goal

abbrev pub invariant-loop-reached : goal.invariant-loop-reached
invariant-loop-reached l = Still (to_read l.fn.self) l.reached

abbrev pub decreases-loop-reached : goal.decreases-loop-reached
decreases-loop-reached l = to_go l.reached
