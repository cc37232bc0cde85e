use Rattle.geometry.proofs.PageSize.{page_some}
use Rattle.geometry.specs.Geometry.{pages}
use native.Mathlib.Nat.{div-le_self}
use native.Mathlib.Omega.{arith}
use Rattle.verdicts.proofs.check.bad_boot_state.Goals as goal

pub nonzero_div-n : goal.nonzero_div-n
nonzero_div-n c = omega (arith, page_some c.requires.0)

pub boot_words-requires : goal.boot_words-requires
boot_words-requires c = omega (arith, div-le_self c.args.la c.page_size.result, c.requires.1)

pub returns : goal.returns
unfolding pages
returns c = rw (← c.page_size.ensures, ← c.boot_words.ensures) c.bad_state.ensures
