use mathlib.Core.Path.{◌∙◌, sym}
use Rattle.geometry.proofs.Rows.{limits_in, boot_limit, boot_page, boot_area, boot_state, boot_admitted}
use Rattle.verdicts.proofs.boot_verdict.Goals as goal

pub returns-then-boot_limits : goal.returns-then-boot_limits
returns-then-boot_limits c = boot_limit _ _ _ _ (sym c.boot_limits.ensures ∙ c.if-boot_limits.true)

pub uneven_page-requires : goal.uneven_page-requires
uneven_page-requires c = (limits_in _ _ _ _ (sym c.boot_limits.ensures ∙ c.if-boot_limits.false)).numbers

pub returns-then-uneven_page : goal.returns-then-uneven_page
returns-then-uneven_page c = boot_page _ _ _ _ (sym c.boot_limits.ensures ∙ c.if-boot_limits.false) (sym c.uneven_page.ensures ∙ c.if-uneven_page.true)

pub uneven_areas-requires : goal.uneven_areas-requires
uneven_areas-requires c = let l = limits_in _ _ _ _ (sym c.boot_limits.ensures ∙ c.if-boot_limits.false) in (l.numbers, l.active)

pub returns-then-uneven_areas : goal.returns-then-uneven_areas
returns-then-uneven_areas c =
    boot_area _ _ _ _ (sym c.boot_limits.ensures ∙ c.if-boot_limits.false) (sym c.uneven_page.ensures ∙ c.if-uneven_page.false)
    (sym c.uneven_areas.ensures ∙ c.if-uneven_areas.true)

pub bad_boot_state-requires : goal.bad_boot_state-requires
bad_boot_state-requires c = let l = limits_in _ _ _ _ (sym c.boot_limits.ensures ∙ c.if-boot_limits.false) in (l.numbers, l.active)

pub returns-then-bad_boot_state : goal.returns-then-bad_boot_state
returns-then-bad_boot_state c =
    boot_state _ _ _ _ (sym c.boot_limits.ensures ∙ c.if-boot_limits.false) (sym c.uneven_page.ensures ∙ c.if-uneven_page.false)
    (sym c.uneven_areas.ensures ∙ c.if-uneven_areas.false) (sym c.bad_boot_state.ensures ∙ c.if-bad_boot_state.true)

pub returns : goal.returns
returns c =
    boot_admitted _ _ _ _ (sym c.boot_limits.ensures ∙ c.if-boot_limits.false) (sym c.uneven_page.ensures ∙ c.if-uneven_page.false)
    (sym c.uneven_areas.ensures ∙ c.if-uneven_areas.false) (sym c.bad_boot_state.ensures ∙ c.if-bad_boot_state.false)
