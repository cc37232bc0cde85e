use lib.Dec.{eqb}
use Rattle.std.proofs.Common.{rules, tests}
use Rattle.std.proofs.lemmas.Iterator.{YieldsList-from_slice}
use Rattle.std.proofs.lemmas.Iterator.Search.{all_from_yields_List}
use Rattle.state.proofs.Words.{by_all}
use Rattle.state.proofs.word.all_are.Goals as goal

pub returns : goal.returns
returns c =
    let a = c.args in
    by_all a.value a.word.now (all_from_yields_List (λ x. eqb x a.value) _ _ _ c.all.ensures.ran (YieldsList-from_slice a.word.now cc) (λ x b q k. search (rules, tests)))
