use native.Mathlib.Omega.{arith}
use Rattle.geometry.specs.Refusals.{most_length, boot_words}
use borrow.Author.Rules.{rules}
use Rattle.verdicts.proofs.check.boot_words.Goals as goal

pub overflow_mul-result : goal.overflow_mul-result
unfolding most_length
overflow_mul-result c = record { fits = omega arith }

pub overflow_add-result : goal.overflow_add-result
unfolding most_length
overflow_add-result c = record { fits = omega arith }

pub returns : goal.returns
unfolding boot_words
returns c = search rules
