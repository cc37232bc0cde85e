-- `row`: the numbers put so far, ahead of those that the rest of the line is, are those that the whole line is. Assumes nothing.
use Rattle.std.proofs.Common.{rules, arith, ◌∙◌}
use Rattle.std.proofs.lemmas.List.{length-replicate}
use Rattle.numerals.proofs.Rows.{row_begins, words_cut, row_few, row_all, row_many, row_not, row_turn}
use Rattle.numerals.proofs.row.Goals as goal

pub loop-n-init : goal.loop-n-init
loop-n-init g c = (length-replicate _ _, search rules, row_begins _ _)

pub returns-in_err-left : goal.returns-in_err-left
returns-in_err-left g c =
    let i = c.loop-n.invariant in
    let r = rw c.in_err-left.was at i.2 in
    c.from_residual.ensures ∙ row_few _ i.0 r (omega arith)

pub returns-in_err-n : goal.returns-in_err-n
returns-in_err-n g c =
    let r = rw c.in_ok-left.was at c.loop-n.invariant.2 in
    c.from_residual-in_err-n.ensures ∙ row_not _ _ _ r (words_cut _ _ _ c.cut.ensures) _ c.in_err-n.ensures

pub loop-n-preserved : goal.loop-n-preserved
loop-n-preserved g c =
    let i = c.loop-n.invariant in
    let r = rw c.in_ok-left.was at i.2 in
    (search rules, search rules, row_turn _ _ _ r (words_cut _ _ _ c.cut.ensures) _ c.in_ok-n.ensures (omega arith))

pub returns-in-Some : goal.returns-in-Some
returns-in-Some g c =
    let i = c.loop-n.invariant in
    let r = rw c.in-Some.is at i.2 in
    row_many _ _ i.0 r (omega arith)

pub returns-in-None : goal.returns-in-None
returns-in-None g c =
    let i = c.loop-n.invariant in
    let r = rw c.in-None.is at i.2 in
    row_all _ i.0 r (omega arith)
