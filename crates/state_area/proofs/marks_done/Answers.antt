use Rattle.state_area.proofs.Marks.{no_words, few_words, enough, no_mark, all_marks}
use native.Mathlib.Omega.{arith}
use Rattle.state_area.proofs.marks_done.Goals as goal

pub returns-then-ws-eq0 : goal.returns-then-ws-eq0
returns-then-ws-eq0 c = let a = c.args in no_mark a.z a.state.now (no_words _ _ c.if-ws-eq0.true)

pub returns-then-state-ws : goal.returns-then-state-ws
returns-then-state-ws c = let a = c.args in no_mark a.z a.state.now (few_words _ _ (omega (arith, c.if-ws-eq0.false)) c.if-state-ws.true)

pub first_open-requires : goal.first_open-requires
first_open-requires c = (omega (arith, c.if-ws-eq0.false), enough _ _ c.if-state-ws.false)

pub returns : goal.returns
returns c = let a = c.args in all_marks a.z a.state.now c.first_open.ensures
