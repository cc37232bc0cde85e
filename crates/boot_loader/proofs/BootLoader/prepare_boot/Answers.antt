use Rattle.mem_flash.specs.Run.{flash}
use Rattle.rules.proofs.Did.{on_low}
use Rattle.boot_loader.proofs.Boots.{boot_ran, boot_refused, boot_admits, boot_cut, boot_found}
use Rattle.boot_loader.proofs.BootLoader.prepare_boot.Goals as goal

pub returns-in_err-boot_verdict : goal.returns-in_err-boot_verdict
returns-in_err-boot_verdict c = boot_refused _ _ c.boot_verdict.ensures c.in_err-boot_verdict.was _ c.from_residual.ensures.1

pub perform-requires : goal.perform-requires
perform-requires c =
    let a = c.args in
    boot_admits _ (flash a.active.now a.dfu.now a.state.now) c.boot_verdict.ensures c.in_ok-boot_verdict.was

pub overflow_sub-result : goal.overflow_sub-result
overflow_sub-result c = on_low _ _ _ _ _ c.perform.ensures _ c.in-Ok.is

pub returns-in-Ok : goal.returns-in-Ok
returns-in-Ok c = boot_found (boot_ran _ _ c.boot_verdict.ensures c.in_ok-boot_verdict.was c.read-found.ensures c.perform.ensures) c.in-Ok.is

pub returns-in-Err : goal.returns-in-Err
returns-in-Err c = boot_cut (boot_ran _ _ c.boot_verdict.ensures c.in_ok-boot_verdict.was c.read-found.ensures c.perform.ensures) c.in-Err.is
