use Rattle.std.proofs.Common.{refl}
use Rattle.bench_lines.proofs.Steps.{stepped, says_nothing}
use Rattle.bench_lines.proofs.Bench.after_all.Goals as goal

pub returns : goal.returns
returns c = λ room. stepped _ _ _ _ _ _ c.pass.ensures refl room tt (says_nothing _ _ c.new.ensures)
