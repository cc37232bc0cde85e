use Rattle.boot_plan.proofs.Plans.{idle, confirms, swaps, reverts}
use Rattle.boot_plan.proofs.task.Goals as goal

pub returns-in_default : goal.returns-in_default
returns-in_default c = idle _ _ _ _ c.in_default.not-Swap

pub returns-then-is_confirming : goal.returns-then-is_confirming
returns-then-is_confirming c = confirms _ _ _ c.in-Swap.is c.is_confirming.ensures c.if-is_confirming.true

pub returns-then-next-page_count : goal.returns-then-next-page_count
returns-then-next-page_count c =
    swaps _ _ _ c.in-Swap.is c.is_confirming.ensures
    c.if-is_confirming.false c.progress-next.ensures c.if-next-page_count.true

pub returns : goal.returns
returns c =
    reverts _ _ _ c.in-Swap.is c.is_confirming.ensures
    c.if-is_confirming.false c.progress-next.ensures c.if-next-page_count.false
