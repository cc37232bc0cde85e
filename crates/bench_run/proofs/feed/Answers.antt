use Rattle.std.proofs.Common.{drop}
use Rattle.bench_run.proofs.Writes.{wrote_then, wrote_over}
use Rattle.bench_run.proofs.feed.Goals as goal

pub returns-then-is_over : goal.returns-then-is_over
returns-then-is_over g c = λ rest s k.
    wrote_over _ _ _ _ _ (drop c.loop-at.at c.args.piece.now) rest (c.loop-at.invariant rest s k) (c.is_over.ensures.0 c.if-is_over.true)

pub loop-at-preserved : goal.loop-at-preserved
loop-at-preserved g c = λ rest s k.
    wrote_then _ _ _ _ _ _ _ _ _ _ (c.loop-at.invariant rest s k) (rw c.as_slice.ensures.value at c.in_ok-say.ensures) (c.next-turn.ensures.by_index rest)
