use mathlib.Core.Path.{sym, ap, ◌∙◌}
use Rattle.log_steps.specs.Reader.{tried}
use Rattle.log_steps.proofs.Reading.{going_on}
use Rattle.log_steps.proofs.Step.read.Goals as goal

pub loop-i-preserved : goal.loop-i-preserved
loop-i-preserved c =
    going_on c.loop-i.invariant c.loop-i-test.true _
    (sym c.in_ok-done.ensures.ok_part ∙ c.tried.ensures ∙ ap (tried _ _) c.in_ok-try_from.ensures)
    (λ z. c.if-done-size.false (z ∙ sym c.size-size.ensures))
