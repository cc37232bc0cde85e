-- `copy_out`: the buffer holds what the source has from the offset on. Assumes nothing.
use Rattle.std.proofs.Common.{length, arith, ◌≡◌}
use Rattle.firmware_pieces.proofs.Ranges.{copied}
use Rattle.firmware_pieces.proofs.range.copy_out.Goals as goal

pub returns : goal.returns
returns c =
    let e : length c.loop-i.buf ≡ length c.args.buf.now = omega arith in
    rw (← e) (copied c.args.from.0 c.loop-i.buf c.args.source.now (omega (arith, c.requires)) (λ j h. c.loop-i.invariant j (omega arith)))
