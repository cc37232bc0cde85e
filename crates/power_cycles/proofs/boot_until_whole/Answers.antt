-- `power_cycles::boot_until_whole` meets its contract: each turn of the loop adds one boot to those made, all of which were cut. Demand 3
-- then follows from the theorem `power`. Assumes nothing.
use mathlib.Core.Logic.{inl, inr}
use mathlib.Core.Path.{◌≡◌}
use native.Mathlib.Omega.{arith}
use lib.ListN.{length}
use borrow.Author.Rules.{rules}
use Rattle.power_cycles.proofs.Made.{cutting_none, made_next, whole, cut_number}
use Rattle.power_cycles.proofs.Demand.{cycles}
use Rattle.power_cycles.proofs.boot_until_whole.Goals as goal

pub loop-cut-init : goal.loop-cut-init
loop-cut-init c = cutting_none _ _ _

pub loop-cut-preserved : goal.loop-cut-preserved
loop-cut-preserved c =
    record {
      made = made_next c.loop-cut.invariant c.loop-cut-test.true c.prepare_boot-answer.ensures;
      cut = search (rules, cut_number);
      active = search rules;
      dfu = search rules;
      state = search rules;
    }

pub returns-in_default : goal.returns-in_default
returns-in_default c = cycles (made_next c.loop-cut.invariant c.loop-cut-test.true c.prepare_boot-answer.ensures) (inl (search (rules, whole)))

pub returns : goal.returns
returns c =
    let n : length c.args.budgets.now ≡ c.loop-cut.cut = omega arith in
    rw n (cycles c.loop-cut.invariant.made (inr (omega arith)))
