-- `sha512::finish` meets its contract: what the stream of some bytes keeps, and their padding. Assumes nothing.
use Rattle.std.proofs.Common.{ap, ◌∙◌}
use Rattle.sha512_bytes.specs.Bytes.{bytes_of}
use Rattle.sha512.specs.Streams.{finished}
use Rattle.sha512.proofs.Pieces.{refuses, finishes}
use Rattle.sha512.proofs.finish.Goals as goal

pub returns-then-out-ne64 : goal.returns-then-out-ne64
returns-then-out-ne64 c = refuses c.args.s c.args.out.now c.if-out-ne64.true

pub returns : goal.returns
unfolding finished
returns c = finishes c.args.s c.args.out.now _ c.if-out-ne64.false (c.put_all.ensures ∙ ap bytes_of c.last.ensures)
