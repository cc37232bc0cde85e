use Rattle.state_area.proofs.Marks.{no_words}
use Rattle.geometry.specs.Geometry.{words}
use mathlib.Core.Path.{sym}
use borrow.Author.Rules.{rules}
use Rattle.state_area.proofs.most_marks.Goals as goal

pub returns-then-ws-eq0 : goal.returns-then-ws-eq0
returns-then-ws-eq0 c = sym (no_words _ _ c.if-ws-eq0.true)

pub returns-else-ws-eq0 : goal.returns-else-ws-eq0
unfolding words
returns-else-ws-eq0 c = search rules
