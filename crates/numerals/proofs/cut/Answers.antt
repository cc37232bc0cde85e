-- `cut`: the word ends where the first space stands. Assumes nothing.
use Rattle.std.proofs.Common.{arith, ◌<◌, length, sym, ◌∙◌}
use Rattle.numerals.specs.Text.{first}
use Rattle.numerals.proofs.Splits.{cut_on, cut_all}
use Rattle.numerals.proofs.cut.Goals as goal

pub returns-then-end-line : goal.returns-then-end-line
returns-then-end-line c = cut_all _ _ (sym c.find-end.ensures.value ∙ c.if-end-line.true)

pub returns-else-end-line : goal.returns-else-end-line
returns-else-end-line c =
    let l : first 32 c.args.line.now < length c.args.line.now = omega (arith, c.find-end.ensures.value) in
    rw c.find-end.ensures.value (cut_on 32 c.args.line.now l)
