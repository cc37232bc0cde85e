use Rattle.state_area.proofs.Changes.{invalidated}
use Rattle.state_area.proofs.invalidate.Goals as goal

pub returns : goal.returns
returns c = invalidated _ c.args.z _ _ _ c.cell-cell.ensures c.offset-at.ensures c.marked.ensures c.write_word.ensures
