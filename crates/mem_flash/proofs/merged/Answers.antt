use Rattle.state.proofs.Cells.{merged_is}
use Rattle.mem_flash.proofs.merged.Goals as goal

pub returns : goal.returns
returns c = λ k e. merged_is k _ _ _ c.ranges.old.fits c.ranges.new.fits e
