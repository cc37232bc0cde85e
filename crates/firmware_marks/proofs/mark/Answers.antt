use mathlib.Core.Path.{ap, sym, ◌∙◌}
use mathlib.Core.List.{[]}
use Rattle.mem_flash.proofs.Runs.{ran}
use Rattle.rules.specs.FirmwareState.{set_magic_ops}
use Rattle.rules.proofs.Did.{did_stopped, on_low}
use Rattle.firmware_marks.proofs.Answers.{mark_cut, mark_done}
use Rattle.firmware_marks.proofs.mark.Goals as goal

pub returns-in_err-judged : goal.returns-in_err-judged
returns-in_err-judged c = λ k a d e s x. did_stopped k _ _ _ e c.in_err-judged.was _ c.from_residual.ensures.1

pub overflow_sub-result : goal.overflow_sub-result
overflow_sub-result c = on_low _ _ _ _ _ (ran _ _ _ _ _ (c.set_magic.ensures [] [])) _ c.in-Ok.is

pub returns-in-Ok : goal.returns-in-Ok
returns-in-Ok c =
    λ k a d e s x.
    let g = c.args in
    let m = ap (λ m. set_magic_ops g.z m g.state.now) (sym c.magic.ensures) in
    mark_done k _ _ _ a d _ _ _ e c.in_ok-judged.was s (x ∙ m) c.set_magic.ensures _ c.in-Ok.is

pub returns-in-Err : goal.returns-in-Err
returns-in-Err c =
    λ k a d e s x.
    let g = c.args in
    let m = ap (λ m. set_magic_ops g.z m g.state.now) (sym c.magic.ensures) in
    mark_cut k _ _ _ a d _ _ _ e c.in_ok-judged.was s (x ∙ m) c.set_magic.ensures c.in-Err.is
