use Rattle.geometry.specs.Refusals.{outside, boot_numbers}
use Rattle.verdicts.proofs.check.boot_limits.Goals as goal

pub returns : goal.returns
unfolding outside boot_numbers
returns c =
    let last = c.or.ensures _ _ c.too_long-2.ensures (c.last.ensures _ c.too_long-3.ensures) in
    let lengths = c.or-lengths.ensures _ _ c.too_long.ensures last in
    let state = c.or-state.ensures _ _ c.bad_number.ensures (c.bad_sizes.ensures _ lengths) in
    let dfu = c.or-dfu.ensures _ _ c.bad_number-2.ensures (c.or-2.ensures _ _ c.bad_number-3.ensures state) in
    c.or-4.ensures _ _ c.bad_number-4.ensures (c.or-3.ensures _ _ c.bad_number-5.ensures dfu)
