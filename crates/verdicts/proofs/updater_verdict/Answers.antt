use Rattle.geometry.proofs.Rows.{updater_limit, updater_numbers_lem, updater_page, updater_area, updater_state, updater_admitted}
use mathlib.Core.Path.{◌∙◌, sym}
use Rattle.verdicts.proofs.updater_verdict.Goals as goal

pub returns-then-updater_limits : goal.returns-then-updater_limits
returns-then-updater_limits c = updater_limit _ _ _ (sym c.updater_limits.ensures ∙ c.if-updater_limits.true)

pub uneven-requires : goal.uneven-requires
uneven-requires c = (updater_numbers_lem _ _ _ (sym c.updater_limits.ensures ∙ c.if-updater_limits.false)).1

pub returns-then-uneven : goal.returns-then-uneven
returns-then-uneven c = updater_page _ _ _ (sym c.updater_limits.ensures ∙ c.if-updater_limits.false) (sym c.uneven.ensures ∙ c.if-uneven.true)

pub uneven-requires-2 : goal.uneven-requires-2
uneven-requires-2 c = (updater_numbers_lem _ _ _ (sym c.updater_limits.ensures ∙ c.if-updater_limits.false)).0

pub returns-then-uneven-2 : goal.returns-then-uneven-2
returns-then-uneven-2 c =
    updater_area _ _ _ (sym c.updater_limits.ensures ∙ c.if-updater_limits.false) (sym c.uneven.ensures ∙ c.if-uneven.false)
    (sym c.uneven-2.ensures ∙ c.if-uneven-2.true)

pub bad_state-requires : goal.bad_state-requires
bad_state-requires c =
    let n = updater_numbers_lem _ _ _ (sym c.updater_limits.ensures ∙ c.if-updater_limits.false) in
    (n.2, n.3)

pub returns-then-bad_state : goal.returns-then-bad_state
returns-then-bad_state c =
    updater_state _ _ _ (sym c.updater_limits.ensures ∙ c.if-updater_limits.false) (sym c.uneven.ensures ∙ c.if-uneven.false)
    (sym c.uneven-2.ensures ∙ c.if-uneven-2.false) (sym c.bad_state.ensures ∙ c.if-bad_state.true)

pub returns : goal.returns
returns c =
    updater_admitted _ _ _ (sym c.updater_limits.ensures ∙ c.if-updater_limits.false) (sym c.uneven.ensures ∙ c.if-uneven.false)
    (sym c.uneven-2.ensures ∙ c.if-uneven-2.false) (sym c.bad_state.ensures ∙ c.if-bad_state.false)
