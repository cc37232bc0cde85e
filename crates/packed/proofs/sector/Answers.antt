-- `sector` meets its contract: the test is the definition's.
-- Assumes nothing.
use mathlib.Core.Path.{sym}
use borrow.Author.Tests.{eq-eqb, ne_eqb}
use Rattle.state.specs.Choice.{pick}
use Rattle.packed.specs.Packed.{no_sector, sector_of}
use Rattle.packed.proofs.sector.Goals as goal

pub returns-then-last-eq-NO_SECTOR : goal.returns-then-last-eq-NO_SECTOR
unfolding sector_of no_sector pick
returns-then-last-eq-NO_SECTOR c = sym (rw (eq-eqb _ _ c.if-last-eq-NO_SECTOR.true))

pub returns : goal.returns
unfolding sector_of no_sector pick
returns c = sym (rw (ne_eqb _ _ c.if-last-eq-NO_SECTOR.false))
