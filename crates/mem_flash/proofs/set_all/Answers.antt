-- `set_all`: every byte is the value. Assumes nothing.
use Rattle.std.proofs.Common.{length, arith, ◌≡◌}
use Rattle.mem_flash.proofs.Bytes.{all_set}
use Rattle.mem_flash.proofs.set_all.Goals as goal

pub returns : goal.returns
returns c =
    let e : length c.loop-byte.part ≡ length c.args.part.now = omega arith in
    rw (← e) (all_set c.args.value c.loop-byte.part (λ j h. c.loop-byte.invariant j (omega arith)))
