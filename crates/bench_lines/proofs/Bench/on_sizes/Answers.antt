use Rattle.std.proofs.Common.{refl, sym, ◌∙◌, ap}
use Rattle.bench_output.specs.Output.{on_sizes}
use Rattle.bench_lines.proofs.Steps.{stepped, says_sizes, no_sizes, same_step}
use Rattle.bench_lines.proofs.Bench.on_sizes.Goals as goal

pub returns-in_default : goal.returns-in_default
returns-in_default c = λ room. same_step (no_sizes _ _ (sym c.in_default.is ∙ c.read_sizes.ensures)) (c.bad_line.ensures room)

pub returns : goal.returns
returns c = λ room.
    same_step (ap (on_sizes _) (sym c.read_sizes.ensures ∙ c.in-Some.is))
    (stepped _ _ _ _ _ _ c.pass.ensures refl room tt (says_sizes _ _ _ _ c.new.ensures))
