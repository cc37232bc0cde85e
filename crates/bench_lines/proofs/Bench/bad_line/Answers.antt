use Rattle.std.proofs.Common.{◌+◌, ◌^◌, ap, ◌∙◌, refl, mod-eq_of_lt}
use Rattle.answer_text.specs.Answers.{bad_line_text}
use Rattle.bench_lines.proofs.Steps.{stepped, says_bad}
use Rattle.bench_lines.proofs.Bench.bad_line.Goals as goal

pub returns : goal.returns
returns c = λ room.
    stepped _ _ _ _ _ _ c.pass.ensures refl room tt
    (says_bad _ _ _ (c.bad_line_text-text.ensures ∙ ap bad_line_text (mod-eq_of_lt {n = c.args.self.now.lines + 1} {m = 2 ^ 64} room)))
