use Rattle.mem_flash.proofs.Runs.{cut_of}
use Rattle.state_area.proofs.Changes.{renew_cut, renew_on}
use Rattle.state_area.proofs.renew.Goals as goal

pub returns-in_err-rest : goal.returns-in_err-rest
returns-in_err-rest c =
    let a = c.args in
    rw (cut_of _ c.from_residual.ensures.0) (renew_cut _ a.z a.magic a.state.now _ _ _ c.cell-cell.ensures c.erase.ensures c.in_err-rest.was)

pub returns : goal.returns
returns c =
    let a = c.args in
    renew_on _ a.z a.magic a.state.now _ _ _ c.cell-cell.ensures c.erase.ensures _ _ _ c.in_ok-rest.was c.offset-at.ensures c.write_word.ensures
