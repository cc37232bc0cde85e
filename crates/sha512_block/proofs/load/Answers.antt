-- `sha512_block::load` meets its contract. The loop's invariant: the first t words are the schedule's. Assumes nothing.
use Rattle.std.proofs.Common.{take, sym, ◌∙◌, arith}
use lib.ListN.{length-set}
use Rattle.sha512_block.proofs.Rounds.{next_own, word_more}
use Rattle.sha512_block.proofs.load.Goals as goal

pub loop-t-preserved : goal.loop-t-preserved
loop-t-preserved c =
    let r = c.loop-t in
    let b = c.args.b.now in
    (simp length-set (omega arith), word_more b r.w r.t c.word_at.result (omega arith) (omega arith) (c.word_at.ensures ∙ sym (next_own b r.t (take r.t r.w) (omega arith))) r.invariant.1)
