use Rattle.boot_plan.proofs.Plans.{swap_to_dfu, swap_to_active, revert_to_dfu, revert_to_active}
use Rattle.boot_plan.proofs.step.Goals as goal

pub returns-then-i-eq0 : goal.returns-then-i-eq0
returns-then-i-eq0 c = swap_to_dfu _ _ c.if-i-n.true c.if-i-eq0.true

pub returns-then-i-n : goal.returns-then-i-n
returns-then-i-n c = swap_to_active _ _ c.if-i-n.true c.if-i-eq0.false

pub returns-then-i-eq0-2 : goal.returns-then-i-eq0-2
returns-then-i-eq0-2 c = revert_to_dfu _ _ c.if-i-n.false c.requires.0 c.if-i-eq0-2.true

pub returns : goal.returns
returns c = revert_to_active _ _ c.if-i-n.false c.requires.0 c.if-i-eq0-2.false
