use Rattle.geometry.proofs.Values.{cell_low, cell_high}
use Rattle.geometry.proofs.StateSizes.cell.Goals as goal

pub returns-then-self-eq0 : goal.returns-then-self-eq0
returns-then-self-eq0 c = cell_low _ c.if-self-eq0.true

pub returns-else-self-eq0 : goal.returns-else-self-eq0
returns-else-self-eq0 c = cell_high _ c.if-self-eq0.false
