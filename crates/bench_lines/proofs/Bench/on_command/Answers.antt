use Rattle.std.proofs.Common.{refl, sym, ◌∙◌, ap}
use Rattle.bench_output.specs.Output.{on_command}
use Rattle.bench_lines.proofs.Steps.{stepped, says_command, no_command, same_step}
use Rattle.bench_lines.proofs.Bench.on_command.Goals as goal

pub returns-in_default : goal.returns-in_default
returns-in_default c = λ room fit. same_step (no_command _ _ _ _ _ (sym c.in_default.is ∙ c.read_command.ensures)) (c.bad_line.ensures room)

pub returns : goal.returns
returns c = λ room fit.
    same_step (ap (on_command _ _ _ _) (sym c.read_command.ensures ∙ c.in-Some.is))
    (stepped _ _ _ _ _ _ c.pass.ensures refl room fit (says_command _ _ _ _ _ _ _ (c.obey-answer.ensures fit) c.command_text.ensures))
