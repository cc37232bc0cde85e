-- `sha512_block::compress` meets its contract. The loop's invariant: the words that the next rounds need are the schedule's, and the rounds that are left, after those taken, are all of them. Assumes nothing.
use Rattle.std.proofs.Common.{◌≡◌, ℕ, ◌+◌, ◌*◌, take, sym, ap, ◌∙◌, arith}
use Rattle.sha512_words.specs.declared.Eight.{Eight}
use Rattle.sha512_block.specs.Rounds.{schedule, compress, plus}
use Rattle.sha512_block.specs.Partly.{Passed, rounds_from}
use Rattle.sha512_block.proofs.Rounds.{fewer, schedule_length, rounds_none, rounds_done}
use Rattle.sha512_block.proofs.compress.Goals.{then-t-lt64, else-t-lt64}
use Rattle.sha512_block.proofs.compress.Goals as goal

pub loop-turn-init : goal.loop-turn-init
loop-turn-init c =
    let w = schedule c.args.b.now in
    (λ n h k. fewer n 16 w c.load-w.result (omega arith) c.load-w.ensures, rounds_none w c.args.s)

pub loop-turn-preserved : goal.loop-turn-preserved
unfolding Passed
loop-turn-preserved c =
    let r = c.loop-turn in
    let b = c.args.b.now in
    let w = schedule b in
    let t : ℕ = 8 * r.turn in
    let next : 8 * (r.turn + 1) ≡ t + 8 = omega arith in (
      λ n h k. elim c.if-t-lt64.branch [
        | then-t-lt64 p ↦ fewer n (t + 16 + 8) w c.if-t-lt64.w (omega arith) (p.extend.ensures.more b (r.invariant.0 (t + 16) (omega arith) (omega arith)) ∙ ap (take (t + 16 + 8)) (sym p.w-is))
        | else-t-lt64 p ↦ r.invariant.0 n h (omega arith) ∙ ap (take n) (sym p.w-is)
      ],
      ap (λ (i : ℕ). rounds_from i w c.eight_rounds-x.result) next
          ∙ c.eight_rounds-x.ensures w (schedule_length b) (r.invariant.0 (t + 8) (omega arith) (omega arith)) ∙ r.invariant.1,
    )

pub returns : goal.returns
unfolding compress
returns c =
    let r = c.loop-turn in
    let a = c.args in
    c.plus.ensures ∙ ap (λ (y : Eight). plus y a.s) (sym (rounds_done (schedule a.b.now) (8 * r.turn) r.x (omega arith)) ∙ r.invariant.1)
