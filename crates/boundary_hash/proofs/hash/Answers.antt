-- `hash` meets its contract: the updater's promise of answer and output, with the caller's sizes. Assumes nothing.
use Rattle.boundary_hash.proofs.Tells.{tells_hash}
use Rattle.boundary_hash.proofs.hash.Goals as goal

pub returns : goal.returns
returns c = tells_hash _ (rw c.new-updater.ensures.sizes at c.hash-answer.ensures) c.pack.ensures
