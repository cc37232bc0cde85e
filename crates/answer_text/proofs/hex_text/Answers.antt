-- `hex_text`: the bytes passed stand in hexadecimal. Assumes nothing.
use Rattle.std.proofs.Common.{arith, length-take}
use Rattle.answer_text.specs.Answers.{hex_of}
use Rattle.answer_text.proofs.Texts.{hex_count, hex_turn, hex_end}
use Rattle.answer_text.proofs.hex_text.Goals as goal

pub loop-b-init : goal.loop-b-init
unfolding hex_of
loop-b-init c = c.new-text.ensures

pub put_bytes-requires : goal.put_bytes-requires
put_bytes-requires c =
    let n = hex_count _ _ _ c.loop-b.invariant c.loop-b.auto.b-index-end in
    omega (arith, n, c.loop-b-test.true, length-take c.min.result c.args.bytes.now, c.min.ensures)

pub loop-b-preserved : goal.loop-b-preserved
loop-b-preserved c =
    hex_turn _ _ _ c.loop-b.invariant _ _ _ c.loop-b-test.true c.digit.ensures c.digit-in-loop-b.ensures c.put_bytes.ensures

pub returns : goal.returns
returns c = hex_end c.args.bytes.now _ c.min.result _ c.min.ensures c.loop-b-test.false c.loop-b.invariant
