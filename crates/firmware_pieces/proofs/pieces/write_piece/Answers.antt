-- `write_piece`: the write alone where the sector was erased last, else the erase and the write. Assumes nothing.
use mathlib.Core.Path.{ap, ◌∙◌}
use mathlib.Core.Bool.{not}
use Rattle.mem_flash.proofs.Runs.{cut_of}
use Rattle.firmware_pieces.proofs.Writes.{other_sector, piece_again, piece_cut, piece_on}
use Rattle.firmware_pieces.proofs.pieces.write_piece.Goals as goal
use Rattle.firmware_pieces.proofs.pieces.write_piece.Goals.{then-ne+in_ok-rest, else-ne}

pub returns-in_err-rest-clause-wrote : goal.returns-in_err-rest-clause-wrote
returns-in_err-rest-clause-wrote c =
    let a = c.args in
    rw (cut_of _ c.from_residual.ensures.0)
    (piece_cut _ a.ed a.offset.0 a.piece.now _ (other_sector _ _ c.ne.ensures ∙ ap not c.if-ne.true) c.requires.unit_some
    c.erase.ensures c.in_err-rest.was)

pub returns-clause-wrote : goal.returns-clause-wrote
returns-clause-wrote c =
    let a = c.args in
    let asked = other_sector _ _ c.ne.ensures in
    elim c.if-ne.branch [
      | then-ne+in_ok-rest w ↦ rw w.last-is
          (piece_on _ a.ed a.offset.0 a.piece.now _ (asked ∙ ap not w.if-ne.true) c.requires.unit_some
          w.erase.ensures w.in_ok-rest.was (rw (w.dfu-is, w.rest-is) at c.write.ensures))
      | else-ne w ↦ rw w.last-is
          (piece_again _ _ _ _ _ (asked ∙ ap not w.if-ne.false) (rw (w.dfu-is, w.rest-is) at c.write.ensures))
    ]
