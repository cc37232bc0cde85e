-- `find`: std's search ends where the first c stands. Assumes nothing.
use Rattle.std.proofs.Common.{rules, tests, nat_eq}
use Rattle.std.proofs.lemmas.Iterator.{YieldsList-from_slice}
use Rattle.std.proofs.lemmas.Iterator.Search.{position_from_yields_List}
use Rattle.numerals.proofs.Splits.{first_le, first_found}
use Rattle.numerals.proofs.find.Goals as goal

pub returns : goal.returns
returns c =
    let y = YieldsList-from_slice c.args.s.now c.iter.ensures.rest in
    let p = position_from_yields_List (λ b. nat_eq b c.args.c) _ _ c.position.result c.position.ensures.ran y (λ x b q k. search (rules, tests)) in
    let f = first_found c.args.c c.args.s.now c.position.result c.unwrap_or.result p c.unwrap_or.ensures in
    record { value = f; bound = rw f (first_le c.args.c c.args.s.now) }
