-- `sha512_block::eight_rounds` meets its contract: one round more a turn. Assumes nothing.
use Rattle.std.proofs.Common.{arith}
use Rattle.sha512_block.specs.Constants.{ks}
use Rattle.sha512_block.proofs.Rounds.{passed_none, passed_more}
use Rattle.sha512_block.proofs.eight_rounds.Goals as goal

pub loop-i-init : goal.loop-i-init
loop-i-init c = passed_none c.args.w.now c.args.t c.args.s

pub loop-i-preserved : goal.loop-i-preserved
unfolding ks
loop-i-preserved c =
    let a = c.args in
    let r = c.loop-i in
    passed_more a.w.now a.t r.i a.s r.x c.round-x.result (omega arith) r.invariant
    c.round-x.ensures
