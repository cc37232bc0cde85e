use Rattle.state_area.proofs.Marks.{is_valid}
use Rattle.state_area.proofs.is_valid.Goals as goal

pub returns : goal.returns
returns c =
    let a = c.args in
    is_valid a.z c.cell.ensures c.erased.ensures a.state.now c.word_is.ensures
