use mathlib.Core.Path.{◌∙◌}
use Rattle.mem_flash.proofs.Runs.{cut_of}
use Rattle.boot_choice.proofs.Choices.{revert_cut, invalid_cut, reverted}
use Rattle.boot_choice.proofs.revert_to_end.Goals as goal

pub revert-requires : goal.revert-requires
revert-requires c = c.requires

pub returns-in_err-second : goal.returns-in_err-second
returns-in_err-second c = rw (cut_of _ c.from_residual.ensures.0) (revert_cut _ c.revert.ensures c.in_err-second.was)

pub returns-in_err-third : goal.returns-in_err-third
returns-in_err-third c =
    rw (cut_of _ c.from_residual-in_err-third.ensures.0)
    (invalid_cut _ c.revert.ensures c.in_ok-second.was c.invalidate.ensures c.in_err-third.was)

pub returns : goal.returns
returns c =
    reverted _ c.revert.ensures c.in_ok-second.was
    c.invalidate.ensures c.in_ok-third.was (c.invalidate.auto.state ∙ c.revert.auto.state) c.renew.ensures
