-- `next`: by what the piece holds. Assumes nothing.
use Rattle.std.proofs.Common.{refl}
use Rattle.lines.specs.Lines.{most_bytes}
use Rattle.lines.proofs.Gathered.{taken_line}
use Rattle.bench_lines.proofs.Steps.{goes_line, goes_part, goes_long}
use Rattle.bench_lines.proofs.Machine.next.Goals as goal

pub returns-in-Line-clause-at_lt_at : goal.returns-in-Line-clause-at_lt_at
returns-in-Line-clause-at_lt_at c = λ h.
    (taken_line most_bytes _ c.args.at _ _ c.args.piece.now c.take_line.result c.take_line.ensures.0 c.in-Line.is).1

pub returns-in-Line-clause-by_index : goal.returns-in-Line-clause-by_index
returns-in-Line-clause-by_index c =
    let p = c.pass-text.ensures in
    goes_line _ _ _ _ _ _ c.take_line.ensures.0 c.take_line.ensures.1 _ _ _ c.in-Line.is p.line p.held p.stepped

pub returns-in-Part-clause-by_index : goal.returns-in-Part-clause-by_index
returns-in-Part-clause-by_index c =
    rw c.new.ensures (goes_part _ c.args.self.now _ _ _ _ c.take_line.ensures.0 c.take_line.ensures.1 _ c.in-Part.is)

pub returns-in-Long-clause-by_index : goal.returns-in-Long-clause-by_index
returns-in-Long-clause-by_index c = goes_long _ _ _ _ _ _ c.take_line.ensures.0 c.take_line.ensures.1 _ c.in-Long.is refl refl c.too_long.ensures
