use Rattle.state_area.proofs.Marks.{not_counting}
use Rattle.rules.proofs.StateWords.{progress_valid}
use borrow.Author.Tests.{not-true, not-false}
use mathlib.Core.Path.{◌∙◌, sym}
use Rattle.std.proofs.lemmas.Bool.{not_from_true, not_from_false}
use Rattle.state_area.proofs.progress.Goals as goal

pub returns-then-not-is_valid : goal.returns-then-not-is_valid
returns-then-not-is_valid c =
    let a = c.args in
    not_counting a.z _ a.state.now c.most_marks.ensures (sym c.is_valid.ensures ∙ not-true _ (not_from_false _ c.if-not-is_valid.true))

pub returns : goal.returns
returns c =
    let a = c.args in
    c.marks_done.ensures ∙ sym (progress_valid a.z a.state.now (sym c.is_valid.ensures ∙ not-false _ (not_from_true _ c.if-not-is_valid.false)))
