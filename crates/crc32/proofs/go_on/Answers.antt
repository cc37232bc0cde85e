-- `go_on` meets its contract. Its table passes the test: computed here, once, over all 256 words. Assumes nothing.
use mathlib.Core.Path.{refl}
use Rattle.state.specs.Choice.{pick}
use Rattle.crc32.specs.Crc.{bit, bits, go_on}
use Rattle.crc32.specs.Table.{tabled}
use Rattle.crc32.proofs.go_on.Goals as goal

pub run-requires : goal.run-requires
unfolding bit bits tabled pick
run-requires c = refl

pub returns : goal.returns
unfolding go_on
returns c = cc
