use mathlib.Core.Path.{sym, ◌∙◌}
use Rattle.boot_plan.proofs.Plans.{counts_still, swap_unfinished, revert_asked}
use Rattle.boot_plan.proofs.is_confirming.Goals as goal

pub returns-then-is_valid : goal.returns-then-is_valid
returns-then-is_valid c = counts_still _ _ _ (sym c.is_valid.ensures ∙ c.if-is_valid.true)

pub returns-then-done-page_count : goal.returns-then-done-page_count
returns-then-done-page_count c = swap_unfinished _ _ _ (sym c.is_valid.ensures ∙ c.if-is_valid.false) _ c.marks_done-done.ensures c.if-done-page_count.true

pub returns : goal.returns
returns c = revert_asked _ _ _ (sym c.is_valid.ensures ∙ c.if-is_valid.false) _ c.marks_done-done.ensures c.if-done-page_count.false
