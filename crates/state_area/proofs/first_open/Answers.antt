use Rattle.state_area.proofs.Marks.{is_erased, marks_fit, start_low, end_low, found_at, found_low, found_first}
use mathlib.Core.Path.{refl, ◌∙◌}
use borrow.Author.Rules.{rules}
use Rattle.state_area.proofs.first_open.Goals as goal

pub overflow_add-start : goal.overflow_add-start
overflow_add-start c = let n = start_low _ _ _ c.requires in search rules

pub overflow_mul-start : goal.overflow_mul-start
overflow_mul-start c = let n = start_low _ _ _ c.requires in search rules

pub bounds-state-start : goal.bounds-state-start
bounds-state-start c = let n = start_low _ _ _ c.requires in search rules

pub returns-then-state-start : goal.returns-then-state-start
returns-then-state-start c = found_first c.args.z _ c.args.state.now refl _ c.requires (c.if-state-start.true ∙ is_erased c.args.z c.cell.ensures c.erased-erased.ensures)

pub overflow_add-end : goal.overflow_add-end
overflow_add-end c =
    let n = end_low _ _ _ c.requires.0 (marks_fit _ _ _ _ c.most_marks.ensures c.requires).1 in
    search rules

pub overflow_mul-end : goal.overflow_mul-end
overflow_mul-end c = let n = marks_fit _ _ _ _ c.most_marks.ensures c.requires in search rules

pub slice_bounds-first-count : goal.slice_bounds-first-count
slice_bounds-first-count c = let n = marks_fit _ _ _ _ c.most_marks.ensures c.requires in search rules

pub slice_bounds-first-start : goal.slice_bounds-first-start
slice_bounds-first-start c = let n = marks_fit _ _ _ _ c.most_marks.ensures c.requires in search rules

pub slice_bounds-first-end : goal.slice_bounds-first-end
slice_bounds-first-end c = let n = marks_fit _ _ _ _ c.most_marks.ensures c.requires in search rules

pub nonzero_div-result : goal.nonzero_div-result
nonzero_div-result c = c.requires.0

pub overflow_add-result : goal.overflow_add-result
overflow_add-result c =
    let v = is_erased c.args.z c.cell.ensures c.erased-erased.ensures in
    let n = found_low c.args.z _ c.args.state.now c.most_marks.ensures _ c.requires _ v c.first.ensures in
    let o = marks_fit _ _ _ _ c.most_marks.ensures c.requires in
    let l = end_low _ _ _ c.requires.0 o.1 in
    search rules

pub returns : goal.returns
returns c =
    let v = is_erased c.args.z c.cell.ensures c.erased-erased.ensures in
    found_at c.args.z _ c.args.state.now c.most_marks.ensures _ c.requires _ v c.first.ensures
