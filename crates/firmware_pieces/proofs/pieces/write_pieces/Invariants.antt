use mathlib.Core.Path.{◌≡◌}
use mathlib.Core.List.{List}
use Prim.Native.Nat.{ℕ, ◌+◌, ◌<◌, ◌≤◌}
use lib.ListN.{length}
use Rattle.mem_flash.specs.Run.{Flow}
use Rattle.rules.specs.FirmwareUpdater.{Sector, pieces, pieces_ops}
use Rattle.firmware_pieces.specs.Wrote.{WroteBy}
use Rattle.firmware_pieces.proofs.pieces.write_pieces.Given as goal

-- what is left of the data lies in DFU; and the rest, written from here, is the whole
abbrev pub invariant-loop-rest : goal.invariant-loop-rest
invariant-loop-rest l =
    record {
      units : length l.dfu ≡ length l.initial.dfu;
      rest_in : 0 < length l.rest → l.at + length l.rest ≤ length l.dfu;
      whole : (m : Sector) (xs : List ℕ) (q : Flow) → WroteBy l.still.0 l.ed (pieces_ops l.cell l.ed l.last (pieces l.ed l.at l.rest)) l.last m l.dfu xs q
          → WroteBy l.initial.still.0 l.ed (pieces_ops l.cell l.ed l.initial.last (pieces l.ed l.initial.at l.initial.rest)) l.initial.last m l.initial.dfu xs q;
    }

abbrev pub decreases-loop-rest : goal.decreases-loop-rest
decreases-loop-rest l = length l.rest
