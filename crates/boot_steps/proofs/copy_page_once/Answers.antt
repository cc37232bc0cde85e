use Rattle.boot_steps.proofs.Copies.{step_cut, step_on}
use Rattle.boot_steps.proofs.copy_page_once.Goals as goal

pub returns-in_default : goal.returns-in_default
returns-in_default c =
    let a = c.args in
    step_cut _ a.g a.unit a.c a.source.now _ _ a.state.now _ c.copy_page.ensures c.in_default.is

pub returns : goal.returns
returns c =
    let a = c.args in
    step_on _ a.g a.unit a.c a.source.now _ _ a.state.now _
    c.copy_page.ensures _ _ _
    c.in-Ok.is
    c.update_progress.ensures
