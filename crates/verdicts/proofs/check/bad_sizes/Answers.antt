use Rattle.geometry.specs.Refusals.{state_numbers}
use Rattle.verdicts.proofs.check.bad_sizes.Goals as goal

pub returns : goal.returns
unfolding state_numbers
returns c =
    λ bs e. c.or-3.ensures _ _ c.bad_number.ensures
    (c.or-2.ensures _ _ c.bad_number-2.ensures (c.or.ensures _ bs c.bad_value.ensures e))
