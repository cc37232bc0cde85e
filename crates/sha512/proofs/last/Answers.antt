-- `sha512::last` meets its contract: the padding goes into one block where there is room for the length, else into two. Assumes nothing.
use Rattle.std.proofs.Common.{◌≡◌, ℕ, ◌%◌, List, length, take, set, ap, ◌∙◌, arith, length-take-le, rules}
use Rattle.sha512.specs.Streams.{pending}
use Rattle.sha512.proofs.Ending.{in_one, in_two}
use Rattle.sha512.proofs.last.Goals as goal

pub block_of-block-requires : goal.block_of-block-requires
block_of-block-requires c =
    let l : length c.args.s.block ≡ 128 = search rules in
    omega arith

pub returns-then-at-lt112 : goal.returns-then-at-lt112
unfolding pending
returns-then-at-lt112 c =
    let s = c.args.s in
    let l : length s.block ≡ 128 = search rules in
    c.compress.ensures
    ∙ in_one (take (s.count % 128) s.block) _ s.count s.hash (length-take-le (s.count % 128) s.block (omega arith)) (ap (λ (y : List ℕ). set y (s.count % 128) 0x80) c.block_of-block.ensures) (omega (arith, c.if-at-lt112)) _ c.with_length-end.ensures

pub returns : goal.returns
unfolding pending
returns c =
    let s = c.args.s in
    let l : length s.block ≡ 128 = search (rules, c.well_formed) in
    c.compress-2.ensures
    ∙ in_two (take (s.count % 128) s.block) _ s.count s.hash (length-take-le (s.count % 128) s.block (omega arith)) (ap (λ (y : List ℕ). set y (s.count % 128) 0x80) c.block_of-block.ensures) (omega (arith, c.if-at-lt112)) _ _ c.compress-one.ensures c.with_length-end-2.ensures
