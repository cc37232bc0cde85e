use mathlib.Core.Path.{◌∙◌, ap}
use Rattle.state.specs.Magic.{throughout}
use Rattle.state_area.proofs.word_is.Goals as goal

pub returns : goal.returns
returns c = c.all_are.ensures ∙ ap (throughout _) c.word_of.ensures
