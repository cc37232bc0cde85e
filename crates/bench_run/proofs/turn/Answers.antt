use Rattle.std.proofs.Common.{ℕ, ◌<◌, length, take, arith, ap, length-take-le}
use Rattle.bench_run.proofs.Writes.{on_ok, was_ok, turned_over, turned_on}
use Rattle.bench_run.proofs.turn.Goals as goal

pub returns-then-n-eq0 : goal.returns-then-n-eq0
returns-then-n-eq0 g c =
    let is = was_ok c.read.result c.map_err.result c.in_ok-n.n _ c.map_err.ensures.cases c.map_err.ensures.variant c.in_ok-n.was in
    let b = rw is at c.read.ensures.bytes in
    on_ok c.finish.result c.finish.ensures
    (λ h xs e s k. turned_over _ _ _ _ _ _ _ _ e b.0 (ap (λ (n : ℕ). take n c.read.new.buf) c.if-n-eq0.true) (b.1 c.if-n-eq0.true (omega arith))
    h.0 h.1 s k)

pub returns : goal.returns
returns g c =
    let is = was_ok c.read.result c.map_err.result c.in_ok-n.n _ c.map_err.ensures.cases c.map_err.ensures.variant c.in_ok-n.was in
    let b = rw is at c.read.ensures.bytes in
    let bound = rw is at c.read.ensures.bound in
    let l : 0 < length (take c.in_ok-n.n c.read.new.buf) = omega (arith, length-take-le c.in_ok-n.n c.read.new.buf bound.0, c.if-n-eq0.false) in
    on_ok c.feed.result c.feed.ensures (λ h xs e s k. turned_on _ _ _ _ _ _ _ _ e b.0 l h s k)
