use Rattle.std.proofs.Common.{refl, sym, ◌∙◌, ap}
use Rattle.bench_output.specs.Output.{on_lengths}
use Rattle.bench_lines.proofs.Steps.{stepped, says_lengths, no_lengths, lengths_fit, same_step}
use Rattle.bench_lines.proofs.Bench.on_lengths.Goals as goal

pub returns-in_default : goal.returns-in_default
returns-in_default c = λ room. same_step (no_lengths _ _ _ (sym c.in_default.is ∙ c.read_lengths.ensures)) (c.bad_line.ensures room)

pub returns : goal.returns
returns c = λ room.
    let e = sym c.read_lengths.ensures ∙ c.in-Some.is in
    let fit = lengths_fit _ _ e in
    same_step (ap (on_lengths _ _) e)
    (stepped _ _ _ _ _ _ c.pass.ensures refl room (rw c.set_up-setup.ensures.1 fit) (says_lengths _ _ _ _ _ _ c.set_up-setup.ensures fit c.new.ensures))
