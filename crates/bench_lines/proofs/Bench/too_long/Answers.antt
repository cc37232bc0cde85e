-- `too_long`: by the phase. Assumes nothing.
use Rattle.bench_lines.proofs.Steps.{by_phase, long_does, over_does, same_step}
use Rattle.bench_lines.proofs.Bench.too_long.Goals as goal

pub returns-in-Over : goal.returns-in-Over
returns-in-Over c = λ room line long. by_phase _ c.in-Over.is (over_does _ _ _) (c.after_all.ensures room)

pub returns-in_default : goal.returns-in_default
returns-in_default c = λ room line long. same_step (long_does _ _ _ _ c.in_default.not-Over long) (c.bad_line.ensures room)
