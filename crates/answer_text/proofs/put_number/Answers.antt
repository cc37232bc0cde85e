-- `put_number`: the digits are the number's decimal. Assumes nothing.
use Rattle.std.proofs.Common.{◌∙◌, ◌++◌, ap}
use Rattle.answer_text.proofs.Texts.{decimal_is}
use Rattle.answer_text.proofs.put_number.Goals as goal

pub returns-clause-items : goal.returns-clause-items
returns-clause-items c =
    c.put_bytes.ensures ∙ ap (λ d. c.args.text.now.items ++ d) (c.decimal-k.ensures.digits ∙ decimal_is c.decimal-k.result c.args.x c.decimal-k.ensures.len)
