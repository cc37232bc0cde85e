-- `last`: the line that is held. Assumes nothing.
use Rattle.std.proofs.Common.{rules}
use Rattle.bench_lines.proofs.Steps.{goes_last}
use Rattle.bench_lines.proofs.Machine.last.Goals as goal

pub returns-clause-goes : goal.returns-clause-goes
returns-clause-goes c = goes_last _ _ _ (search rules) c.pass.ensures.line c.pass.ensures.held c.pass.ensures.stepped
