-- `more`: one law for each area. Assumes nothing.
use Rattle.std.proofs.Common.{arith}
use Rattle.bench_areas.proofs.Tails.{active_more, dfu_more, state_more, over_more}
use Rattle.bench_areas.proofs.more.Goals as goal

pub returns-in-Active : goal.returns-in-Active
returns-in-Active c =
    let m = active_more _ _ _ _ _ _ _ c.next.ensures c.in-Active.is (omega arith) c.part.ensures in
    record { tail_bound = m.0; room = m.1 }

pub returns-in-Dfu : goal.returns-in-Dfu
returns-in-Dfu c =
    let m = dfu_more _ _ _ _ _ _ _ c.next-in-Dfu.ensures c.in-Dfu.is (omega arith) c.part-in-Dfu.ensures in
    record { tail_bound = m.0; room = m.1 }

pub returns-in-State : goal.returns-in-State
returns-in-State c =
    let m = state_more _ _ _ _ _ _ _ c.next-in-State.ensures c.in-State.is (omega arith) c.part-in-State.ensures in
    record { tail_bound = m.0; room = m.1 }

pub returns-in-Over : goal.returns-in-Over
returns-in-Over c =
    let m = over_more _ _ _ _ c.in-Over.is c.named.ensures.0 c.named.ensures.1 in
    record { tail_bound = m.0; room = m.1 }
