-- `gather`: what the copied part of the piece makes of what is held. Assumes nothing.
use Rattle.std.proofs.Common.{arith, ◌≡◌, ◌<◌, ◌≤◌, ◌-◌, ◌+◌, length, refl}
use Rattle.lines.proofs.Gathered.{rest_is, over, near_long, near_line, near_piece}
use Rattle.lines.proofs.gather.Goals as goal

pub returns-in_default : goal.returns-in_default
returns-in_default c =
    let l : length c.args.held.now < c.args.n = omega (arith, c.in_default.ensures) in
    over _ _ _ _ l

pub returns-then-k-room : goal.returns-then-k-room
returns-then-k-room c =
    let r = rest_is c.args.piece.now c.args.at c.get.result _ c.unwrap_or-rest.result c.get.ensures.lookup refl c.unwrap_or-rest.ensures in
    let w : c.args.n + c.min-fits.result - c.args.n ≡ c.min-fits.result = omega arith in
    near_long _ c.args.piece.now _ _ c.args.at c.find-k.result _ _ _ c.min.result (rw r at c.find-k.ensures.value) c.in-Some.ensures.0
    c.in-Some.ensures.1 (omega (arith, rw r at c.min.ensures, c.saturating_add.ensures, c.in-Some.ensures.1)) c.min-fits.ensures w (rw r at c.copy_from_slice.ensures.after) c.if-k-room.true

pub returns-then-k-near : goal.returns-then-k-near
returns-then-k-near c =
    let r = rest_is c.args.piece.now c.args.at c.get.result _ c.unwrap_or-rest.result c.get.ensures.lookup refl c.unwrap_or-rest.ensures in
    let w : c.args.n + c.min-fits.result - c.args.n ≡ c.min-fits.result = omega arith in
    near_line _ c.args.piece.now _ _ c.args.at c.find-k.result _ _ _ c.min.result (rw r at c.find-k.ensures.value) c.in-Some.ensures.0
    c.in-Some.ensures.1 (omega (arith, rw r at c.min.ensures, c.saturating_add.ensures, c.in-Some.ensures.1)) c.min-fits.ensures w (rw r at c.copy_from_slice.ensures.after) c.if-k-room.false (rw r at c.if-k-near.true)

pub returns-else-k-near : goal.returns-else-k-near
returns-else-k-near c =
    let r = rest_is c.args.piece.now c.args.at c.get.result _ c.unwrap_or-rest.result c.get.ensures.lookup refl c.unwrap_or-rest.ensures in
    let w : c.args.n + c.min-fits.result - c.args.n ≡ c.min-fits.result = omega arith in
    near_piece _ c.args.piece.now _ _ c.args.at c.find-k.result _ _ _ c.min.result (rw r at c.find-k.ensures.value) c.in-Some.ensures.0
    c.in-Some.ensures.1 (omega (arith, rw r at c.min.ensures, c.saturating_add.ensures, c.in-Some.ensures.1)) c.min-fits.ensures w (rw r at c.copy_from_slice.ensures.after) c.if-k-room.false (rw r at c.if-k-near.false)
