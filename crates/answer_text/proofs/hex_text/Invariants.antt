use Rattle.std.proofs.Common.{◌≡◌, take}
use Rattle.answer_text.specs.Answers.{hex_of}
use Rattle.answer_text.proofs.hex_text.Given as goal

abbrev pub invariant-loop-b : goal.invariant-loop-b
invariant-loop-b l = l.text.items ≡ hex_of (take l.b-index l.part)
