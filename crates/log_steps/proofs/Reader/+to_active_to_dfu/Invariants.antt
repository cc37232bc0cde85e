use lib.ListN.{length}
use Rattle.log_steps.proofs.Reader.+to_active_to_dfu.Given as goal

-- the entries left, of either
abbrev pub decreases-to_active : goal.decreases-to_active
decreases-to_active l = length l.self.log.now

abbrev pub decreases-to_dfu : goal.decreases-to_dfu
decreases-to_dfu l = length l.self.log.now
