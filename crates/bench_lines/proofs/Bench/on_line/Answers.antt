-- `on_line`: by the phase. Assumes nothing.
use Rattle.bench_lines.proofs.Steps.{by_phase, fits_in, first_does, second_does, further_does, over_does}
use Rattle.bench_lines.proofs.Bench.on_line.Goals as goal

pub returns-in-Sizes : goal.returns-in-Sizes
returns-in-Sizes c = λ room fits short. by_phase _ c.in-Sizes.is (first_does _ _ _ short) (c.on_sizes.ensures room)

pub returns-in-Lengths : goal.returns-in-Lengths
returns-in-Lengths c = λ room fits short. by_phase _ c.in-Lengths.is (second_does _ _ _ short _) (c.on_lengths.ensures room)

pub returns-in-Commands : goal.returns-in-Commands
returns-in-Commands c = λ room fits short.
    by_phase _ c.in-Commands.is (further_does _ _ _ short _) (c.on_command.ensures room (fits_in c.in-Commands.is fits))

pub returns-in-Over : goal.returns-in-Over
returns-in-Over c = λ room fits short. by_phase _ c.in-Over.is (over_does _ _ _) (c.after_all.ensures room)
