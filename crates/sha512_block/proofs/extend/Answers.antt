-- `sha512_block::extend` meets its contract. The loop's invariant: the first t words are the schedule's, if the first u were. Assumes nothing.
use Rattle.std.proofs.Common.{◌≡◌, ℕ, ◌+◌, take, sym, ap, ◌∙◌, arith}
use lib.ListN.{length-set}
use Rattle.sha512_block.specs.Rounds.{schedule}
use Rattle.sha512_block.proofs.Rounds.{next_mixed, word_more}
use Rattle.sha512_block.proofs.extend.Goals as goal

pub loop-t-preserved : goal.loop-t-preserved
loop-t-preserved c =
    let r = c.loop-t in
    (simp length-set (omega arith), λ b e. word_more b r.w r.t c.mixed.result (omega arith) (omega arith) (c.mixed.ensures ∙ sym (next_mixed b r.t r.w (omega arith))) (r.invariant.1 b e))

pub returns : goal.returns
returns c =
    let r = c.loop-t in
    let k : r.t ≡ c.args.u + 8 = omega arith in
    record { long = omega arith; more = λ b e. ap (λ (i : ℕ). take i (schedule b)) (sym k) ∙ r.invariant.1 b e ∙ ap (λ (i : ℕ). take i r.w) k }
