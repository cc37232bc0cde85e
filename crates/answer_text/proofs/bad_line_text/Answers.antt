-- `bad_line_text`: the parts one after the other. Assumes nothing.
use Rattle.answer_text.proofs.Texts.{line_bad}
use Rattle.answer_text.proofs.bad_line_text.Goals as goal

pub returns : goal.returns
returns c = line_bad _ _ _ _ _ c.new-text.ensures c.put_bytes.ensures c.put_number.ensures.items c.put_bytes-2.ensures
