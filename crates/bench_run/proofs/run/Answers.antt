use Rattle.std.proofs.Common.{arith, rules}
use Rattle.bench_run.proofs.Writes.{running_none, running_on, ran, ran_out, when_known}
use Rattle.bench_run.proofs.run.Goals as goal

pub loop-init : goal.loop-init
loop-init g c = λ xs e few.
    let s = c.start-machine.ensures in
    running_none _ _ _ xs (record { phase = s.0; lines = s.1; none = s.2; room = omega arith }) e few

pub returns-then-is_over : goal.returns-then-is_over
returns-then-is_over g c =
    let s = c.start-machine.ensures in
    when_known _ _ _
    (λ xs e few. ran _ _ _ _ _ _ xs (record { phase = s.0; lines = s.1; none = s.2; room = omega arith }) (c.loop.invariant xs e few)
    (c.is_over.ensures.0 c.if-is_over.true))

pub loop-preserved : goal.loop-preserved
loop-preserved g c = λ xs e few.
    let r = c.loop.invariant xs e few in
    running_on _ _ _ _ _ _ _ _ _ _ xs (omega (arith, c.loop-test.true)) (λ over. absurd (search (rules, c.is_over.ensures.1 over))) r
    (c.in_ok-turn.ensures r.rest r.is_left r.wrote.gone.sound r.wrote.gone.counted)

pub returns : goal.returns
returns g c =
    let s = c.start-machine.ensures in
    when_known _ _ _
    (λ xs e few. ran_out _ _ _ _ _ _ xs (record { phase = s.0; lines = s.1; none = s.2; room = omega arith }) (c.loop.invariant xs e few)
    (omega arith))
