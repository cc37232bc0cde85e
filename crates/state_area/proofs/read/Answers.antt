use mathlib.Core.Path.{◌∙◌, ap}
use Rattle.state.specs.Magic.{state_of}
use Rattle.rules.specs.StateArea.{read_state}
use Rattle.state_area.proofs.read.Goals as goal

pub returns : goal.returns
unfolding read_state
returns c = c.from.ensures ∙ ap state_of c.word_of.ensures
