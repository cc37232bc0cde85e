-- `number`: what is left of the word, read on from the number so far, is what the whole word is. Assumes nothing.
use Rattle.std.proofs.Common.{arith, ◌≡◌, ◌+◌, ◌*◌, ◌≤◌, ◌∙◌, sym, eqb-true}
use lib.ListN.{drop_of_length-le}
use Rattle.numerals.specs.Text.{digits, value, most_number}
use Rattle.numerals.proofs.Numbers.{digit_is_std, digits_turn, digits_not, value_turn, value_reaches, number_empty, number_not, number_over, number_is}
use Rattle.numerals.proofs.number.Goals as goal

pub returns-then-is_empty : goal.returns-then-is_empty
returns-then-is_empty c = number_empty _ (eqb-true _ _ (sym c.is_empty.ensures ∙ c.if-is_empty.true))

pub returns-then-not-is_ascii_digit : goal.returns-then-not-is_ascii_digit
returns-then-not-is_ascii_digit c =
    let d = sym (digit_is_std _) ∙ sym c.is_ascii_digit.ensures.value ∙ c.if-not-is_ascii_digit.true in
    number_not _ (c.loop-b.invariant.2 ∙ digits_not _ _ c.loop-b-test.true d)

pub returns-in_err-checked_mul : goal.returns-in_err-checked_mul
returns-in_err-checked_mul c =
    let v = value_reaches c.args.word.now _ c.loop-b.n c.loop-b-test.true c.loop-b.invariant.3 in
    c.from_residual.ensures ∙ number_over _ (omega (arith, c.in_err-checked_mul.ensures, v))

pub returns-in_err-n : goal.returns-in_err-n
returns-in_err-n c =
    let v = value_reaches c.args.word.now _ c.loop-b.n c.loop-b-test.true c.loop-b.invariant.3 in
    let m = c.in_ok-checked_mul.ensures in
    c.from_residual-in_err-n.ensures ∙ number_over _ (omega (arith, c.in_err-n.ensures, c.from.ensures, m.1, v))

pub loop-b-preserved : goal.loop-b-preserved
loop-b-preserved c =
    let t = c.loop-b-test.true in
    let m = c.in_ok-checked_mul.ensures in
    let n : c.in_ok-n.n ≡ c.loop-b.n * 10 + c.from.result = omega (arith, c.in_ok-n.ensures, m) in
    let l : c.in_ok-n.n ≤ most_number = omega (arith, c.in_ok-n.ensures) in
    let d = sym (digit_is_std _) ∙ sym c.is_ascii_digit.ensures.value ∙ c.if-not-is_ascii_digit.false in (
      c.loop-b.invariant.0,
      l,
      c.loop-b.invariant.2 ∙ digits_turn _ _ t d,
      c.loop-b.invariant.3 ∙ rw (n, c.from.ensures) (value_turn _ _ t _),
    )

pub returns : goal.returns
unfolding digits value
returns c =
    let e = drop_of_length-le c.args.word.now c.loop-b-test.false in
    number_is _ _ c.loop-b.invariant.0 (c.loop-b.invariant.2 ∙ rw e) (c.loop-b.invariant.3 ∙ rw e) c.loop-b.invariant.1
