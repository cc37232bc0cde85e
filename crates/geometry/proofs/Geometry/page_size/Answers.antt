use Rattle.geometry.specs.Geometry.{page}
use Rattle.geometry.proofs.Geometry.page_size.Goals as goal

pub returns : goal.returns
unfolding page
returns c = c.least_common.ensures
