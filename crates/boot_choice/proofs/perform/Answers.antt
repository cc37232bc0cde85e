use Rattle.mem_flash.specs.Run.{flash}
use native.Mathlib.Omega.{arith}
use Rattle.geometry.proofs.PageSize.{page_some}
use Rattle.boot_choice.proofs.Choices.{counts_fit, does_nothing, confirms, swaps, reverts, swap_next, revert_next}
use Rattle.boot_choice.proofs.perform.Goals as goal

pub nonzero_div-page_count : goal.nonzero_div-page_count
nonzero_div-page_count c = omega (arith, page_some c.requires.numbers)

pub task-requires : goal.task-requires
task-requires c = counts_fit _ _ c.requires.active_most

pub swap-requires : goal.swap-requires
swap-requires c =
    let f = flash c.args.active.now c.args.dfu.now c.args.state.now in
    (c.requires, swap_next _ _ f c.page_size.ensures c.task.ensures c.in-Swap.is)

pub revert_to_end-requires : goal.revert_to_end-requires
revert_to_end-requires c =
    let f = flash c.args.active.now c.args.dfu.now c.args.state.now in
    let n = revert_next _ _ f c.page_size.ensures c.task.ensures c.in-Revert.is in
    (c.requires, n.0, n.1)

pub returns-in-Nothing : goal.returns-in-Nothing
returns-in-Nothing c = does_nothing _ _ _ c.page_size.ensures c.task.ensures c.in-Nothing.is

pub returns-in-Confirm : goal.returns-in-Confirm
returns-in-Confirm c =
    confirms _ _ _ c.page_size.ensures
    c.task.ensures c.in-Confirm.is
    c.renew.ensures

pub returns-in-Swap : goal.returns-in-Swap
returns-in-Swap c =
    swaps _ _ _
    c.page_size.ensures
    c.task.ensures
    c.in-Swap.is
    c.swap.ensures

pub returns-in-Revert : goal.returns-in-Revert
returns-in-Revert c =
    reverts _ _ _
    c.page_size.ensures
    c.task.ensures
    c.in-Revert.is
    c.revert_to_end.ensures
