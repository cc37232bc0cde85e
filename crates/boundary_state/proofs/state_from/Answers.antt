-- `state_from` meets its contract: the number of the state that the bytes read as.
-- Assumes nothing.
use mathlib.Core.Path.{ap, ◌∙◌}
use Rattle.state.specs.Magic.{state_number}
use Rattle.boundary_state.proofs.state_from.Goals as goal

pub returns : goal.returns
returns c = c.state_number.ensures.0 ∙ ap state_number c.from.ensures
