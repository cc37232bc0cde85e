-- `sha512_bytes::put_all` meets its contract. The loop's invariant: the first i words are stored. Assumes nothing.
use Rattle.std.proofs.Common.{arith}
use Rattle.sha512_bytes.proofs.Stores.{stored_all}
use Rattle.sha512_bytes.proofs.put_all.Goals as goal

pub returns : goal.returns
returns c =
    let r = c.loop-i in
    stored_all c.args.s r.dst r.i (omega arith) r.invariant.0 r.invariant.1
