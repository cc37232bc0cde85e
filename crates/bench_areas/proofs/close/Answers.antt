-- `close`: by the phase. Assumes nothing.
use Rattle.bench_areas.proofs.Tails.{lacks_line, areas_come, nothing_comes}
use Rattle.bench_areas.proofs.close.Goals as goal

pub returns-in-Sizes : goal.returns-in-Sizes
returns-in-Sizes c = λ sound counted held. lacks_line _ sound counted held _ c.bad_line_text.ensures c.in-Sizes.is

pub returns-in-Commands : goal.returns-in-Commands
returns-in-Commands c = λ sound counted held. areas_come _ sound counted held _ _ _ c.in-Commands.is c.named.ensures.0 c.named.ensures.1

pub returns-in-Over : goal.returns-in-Over
returns-in-Over c = λ sound counted held. nothing_comes _ sound counted held _ _ c.in-Over.is c.named-in-Over.ensures.0 c.named-in-Over.ensures.1
