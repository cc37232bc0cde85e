use Rattle.mem_flash.specs.Run.{flash}
use Rattle.power_cycles.proofs.Made.{Cutting}
use Rattle.power_cycles.proofs.boot_until_whole.Given as goal

abbrev pub invariant-loop-cut : goal.invariant-loop-cut
invariant-loop-cut l =
    Cutting l.loader.geometry l.budgets (flash l.initial.active l.initial.dfu l.initial.state) (flash l.active l.dfu l.state) l.cut l.answer
