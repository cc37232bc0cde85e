-- `command_text`: the parts one after the other. Assumes nothing.
use Rattle.answer_text.proofs.Texts.{line_answered}
use Rattle.answer_text.proofs.command_text.Goals as goal

pub returns : goal.returns
returns c =
    let t = c.tell-told.ensures in
    let name = rw c.name.ensures at c.put_bytes.ensures in
    let number = rw (c.from.ensures, t.number) at c.put_number.ensures.items in
    let state = rw t.state at c.put_bytes-3.ensures in
    let count = rw (c.from-2.ensures, t.count) at c.put_number-2.ensures.items in
    line_answered c.args.command _ _ _ _ _ _ _ _ c.new-text.ensures name c.put_bytes-2.ensures number state count c.put_bytes-4.ensures
