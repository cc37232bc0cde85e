use native.Mathlib.Omega.{arith}
use Rattle.geometry.proofs.PageSize.{page_some}
use Rattle.boot_steps.proofs.Room.{mark_in, pages_few}
use Rattle.boot_steps.proofs.Going.{going_start, going_end, going_cut, going_turn, below, further}
use Rattle.boot_steps.proofs.steps.Goals as goal

pub nonzero_div-page_count : goal.nonzero_div-page_count
nonzero_div-page_count c = omega (arith, page_some c.requires.0.numbers)

pub loop-next-init : goal.loop-next-init
loop-next-init c =
    let s = c.requires in
    going_start _ _ _ _ _ c.page_size.ensures s.0 s.1 s.2

pub run_step-requires : goal.run_step-requires
run_step-requires c = let i = c.loop-next.invariant in (i.admitted, i.count, below i c.loop-next-test.true)

pub returns-in_default : goal.returns-in_default
returns-in_default c =
    going_cut c.loop-next.invariant
    c.loop-next-test.true
    c.run_step.ensures c.in_default.is

pub overflow_add-next : goal.overflow_add-next
overflow_add-next c =
    let i = c.loop-next.invariant in
    let h = c.loop-next-test.true in
    record { fits = omega (arith, below i h, pages_few i.admitted, i.count) }

pub first_open-next-requires : goal.first_open-next-requires
first_open-next-requires c =
    let i = c.loop-next.invariant in
    let h = c.loop-next-test.true in
    (i.admitted.numbers.ws.some, rw c.run_step.auto.state (mark_in i.admitted i.count _ (omega (arith, below i h))))

pub loop-next-smaller : goal.loop-next-smaller
loop-next-smaller c =
    let h = c.loop-next-test.true in
    omega
    (arith, h, further c.loop-next.invariant h c.run_step.ensures c.in-Ok.is c.first_open-next.ensures)

pub loop-next-preserved : goal.loop-next-preserved
loop-next-preserved c =
    let i = c.loop-next.invariant in
    going_turn i
    c.loop-next-test.true
    c.run_step.ensures c.in-Ok.is c.first_open-next.ensures c.run_step.auto.active c.run_step.auto.dfu
    c.run_step.auto.state

pub returns : goal.returns
returns c = going_end c.loop-next.invariant c.loop-next-test.false
