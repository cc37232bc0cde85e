use native.Mathlib.Omega.{arith}
use Rattle.geometry.specs.Geometry.{pages}
use Rattle.geometry.proofs.PageSize.{page_some}
use Rattle.boot_steps.proofs.Room.{steps_few}
use Rattle.boot_steps.proofs.Going.{revert_whole}
use Rattle.boot_steps.proofs.revert.Goals as goal

pub nonzero_div-page_count : goal.nonzero_div-page_count
nonzero_div-page_count c = omega (arith, page_some c.requires.0.numbers)

pub overflow_mul-page_count : goal.overflow_mul-page_count
overflow_mul-page_count c = record { fits = omega (arith, steps_few c.requires.0 c.page_size.ensures) }

pub steps-requires : goal.steps-requires
unfolding pages
steps-requires c =
    let p = c.requires in
    (p.0, p.1, rw c.page_size.ensures (omega arith))

pub returns : goal.returns
returns c =
    let p = c.requires in
    revert_whole _ c.page_size.ensures p.1 p.2
    c.steps.ensures
