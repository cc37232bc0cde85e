use Rattle.boot_steps.proofs.Copies.{marks}
use Rattle.boot_steps.proofs.update_progress.Goals as goal

pub returns : goal.returns
returns c = marks _ c.args.g.state _ _ _ _ _ c.cell-cell.ensures c.marked.ensures c.offset.ensures c.write_word.ensures
