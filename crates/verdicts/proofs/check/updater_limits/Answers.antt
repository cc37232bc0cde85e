use Rattle.geometry.specs.Refusals.{outside, updater_numbers}
use Rattle.verdicts.proofs.check.updater_limits.Goals as goal

pub returns : goal.returns
unfolding outside updater_numbers
returns c =
    let lengths = c.or-lengths.ensures _ _ c.too_long.ensures (c.last.ensures _ c.too_long-2.ensures) in
    c.or-2.ensures _ _ c.bad_number.ensures (c.or.ensures _ _ c.bad_number-2.ensures (c.bad_sizes.ensures _ lengths))
