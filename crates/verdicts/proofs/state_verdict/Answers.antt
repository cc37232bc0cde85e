use Rattle.geometry.proofs.Rows.{state_limit, state_short, state_admitted, state_numbers_lem}
use mathlib.Core.Path.{◌∙◌, sym}
use Rattle.verdicts.proofs.state_verdict.Goals as goal

pub returns-then-state_limits : goal.returns-then-state_limits
returns-then-state_limits c = state_limit _ _ (sym c.state_limits.ensures ∙ c.if-state_limits.true)

pub bad_state-requires : goal.bad_state-requires
bad_state-requires c = state_numbers_lem _ _ (sym c.state_limits.ensures ∙ c.if-state_limits.false)

pub returns-then-bad_state : goal.returns-then-bad_state
returns-then-bad_state c = state_short _ _ (sym c.state_limits.ensures ∙ c.if-state_limits.false) (sym c.bad_state.ensures ∙ c.if-bad_state.true)

pub returns : goal.returns
returns c = state_admitted _ _ (sym c.state_limits.ensures ∙ c.if-state_limits.false) (sym c.bad_state.ensures ∙ c.if-bad_state.false)
