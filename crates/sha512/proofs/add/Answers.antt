-- `sha512::add` meets its contract: a piece that does not fill the block is stored; one that does goes on through whole blocks to what
-- is left. Assumes nothing.
use Rattle.std.proofs.Common.{◌≡◌, length, refl, ap, ◌∙◌, arith, rules}
use Rattle.std.specs.List.{fold}
use Rattle.sha512_block.specs.Rounds.{compress}
use Rattle.sha512.proofs.Adding.{short, long}
use Rattle.sha512.proofs.add.Goals as goal

pub returns-then-piece-room : goal.returns-then-piece-room
returns-then-piece-room c =
    let b : length c.args.s.block ≡ 128 = search rules in
    short c.args.s c.args.piece.now b _ _ _ (omega arith) (omega arith) c.block_of-block.ensures c.copy_from_slice.ensures.after

pub returns : goal.returns
returns c =
    let b : length c.args.s.block ≡ 128 = search rules in
    long c.args.s c.args.piece.now b _ _ _ _ _ _ (omega (arith, c.if-piece-room)) c.copy_from_slice-2.ensures.after refl
    c.compress-one.ensures (c.whole-all.ensures ∙ ap (fold compress c.compress-one.result) c.as_chunks.ensures.front)
    c.as_chunks.ensures.back c.block_of-block-2.ensures
