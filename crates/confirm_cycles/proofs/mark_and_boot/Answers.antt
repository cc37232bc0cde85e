-- `confirm_cycles::mark_and_boot` meets its contract: mark_booted's, of the flash with this active image, then boot_until_whole's.
-- Assumes nothing.
use Rattle.confirm_cycles.proofs.Confirms.{confirmation}
use Rattle.confirm_cycles.proofs.mark_and_boot.Goals as goal

pub returns : goal.returns
returns g c =
    let a = c.args in
    let m = g.met.M.MarksBooted in
    confirmation _ _ _ _ _ _ _ _ _ _ (m.confirms a.firmware _ _) (c.mark_booted-marked.ensures a.active.now)
    c.boot_until_whole-booted.ensures
