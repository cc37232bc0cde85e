use mathlib.Core.Path.{sym, ◌∙◌}
use Rattle.mem_flash.proofs.Runs.{cut_of}
use Rattle.firmware_marks.proofs.Answers.{magic_there, magic_renew, magic_cut, magic_on}
use Rattle.firmware_marks.proofs.set_magic.Goals as goal

pub returns-then-magic_is : goal.returns-then-magic_is
returns-then-magic_is c = magic_there _ _ _ _ (sym c.magic_is.ensures ∙ c.if-magic_is.true)

pub returns-in_err-rest : goal.returns-in_err-rest
returns-in_err-rest c =
    rw (cut_of _ c.from_residual.ensures.0)
    (magic_cut _ _ _ (sym c.magic_is.ensures ∙ c.if-magic_is.false) _ (sym c.is_valid.ensures ∙ c.if-is_valid.true) _ _
    c.invalidate.ensures c.in_err-rest.was)

pub returns-then-is_valid : goal.returns-then-is_valid
returns-then-is_valid c =
    magic_on _ _ _ (sym c.magic_is.ensures ∙ c.if-magic_is.false) _ (sym c.is_valid.ensures ∙ c.if-is_valid.true)
    _ _ c.invalidate.ensures _ _ _ c.in_ok-rest.was c.invalidate.auto.state c.renew.ensures

pub returns : goal.returns
returns c =
    magic_renew _ _ _ (sym c.magic_is.ensures ∙ c.if-magic_is.false) _ _ _ (sym c.is_valid.ensures ∙ c.if-is_valid.false)
    c.renew-2.ensures
