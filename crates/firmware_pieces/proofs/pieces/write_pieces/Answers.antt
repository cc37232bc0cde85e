-- `write_pieces`: what is left of the data, written from here, is the whole; so at the end, and at a cut. Assumes nothing.
use mathlib.Core.Path.{ap, ◌∙◌}
use Prim.Native.Nat.{◌%◌, ◌<◌}
use native.Mathlib.Omega.{arith}
use lib.ListN.{length}
use Rattle.std.proofs.lemmas.Bool.Decides.{nat_tests}
use Rattle.mem_flash.proofs.Runs.{cut_of}
use Rattle.firmware_pieces.proofs.Cutting.{sector_in}
use Rattle.firmware_pieces.proofs.Loop.{rest_cut, rest_on, rest_end}
use Rattle.firmware_pieces.proofs.pieces.write_pieces.Goals as goal

pub write_piece-requires-clause-sector_in : goal.write_piece-requires-clause-sector_in
write_piece-requires-clause-sector_in c =
    let v = c.loop-rest.invariant in
    let some : 0 < length c.loop-rest.rest.now = grind (arith, nat_tests) in
    sector_in _ _ _ c.requires.unit_some (ap (λ n. n % c.args.ed) v.units ∙ c.requires.whole_units) (omega (arith, some, v.rest_in some))

pub returns-in_err-still : goal.returns-in_err-still
returns-in_err-still c =
    let some : 0 < length c.loop-rest.rest.now = grind (arith, nat_tests) in
    rw (cut_of _ c.from_residual.ensures.0)
    (c.loop-rest.invariant.whole _ _ _
    (rest_cut _ _ c.loop-rest.rest.now c.requires.unit_some some c.piece_length-n.ensures.least
    (rw c.split_at.ensures.front at c.write_piece.ensures.wrote) c.in_err-still.was))

pub loop-rest-preserved : goal.loop-rest-preserved
loop-rest-preserved c =
    let some : 0 < length c.loop-rest.rest.now = grind (arith, nat_tests) in
    record {
      units = omega arith;
      rest_in = λ h. omega (arith, c.loop-rest.invariant.rest_in some, c.split_at.ensures.back_len);
      whole = λ m xs q v. c.loop-rest.invariant.whole _ _ _
          (rest_on _ _ c.loop-rest.rest.now c.requires.unit_some some c.piece_length-n.ensures.least
          (rw c.split_at.ensures.front at c.write_piece.ensures.wrote) c.in_ok-still.was c.in_ok-still.ensures.ok
          (rw c.split_at.ensures.back at v));
    }

pub returns : goal.returns
returns c =
    c.loop-rest.invariant.whole _ _ _ (rest_end _ _ c.loop-rest.rest.now (grind (arith, nat_tests)))
