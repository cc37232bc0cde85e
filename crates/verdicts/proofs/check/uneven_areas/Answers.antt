use mathlib.Core.Path.{refl}
use native.Mathlib.Omega.{arith}
use Rattle.geometry.specs.Refusals.{uneven_areas, most_number, most_length}
use Rattle.geometry.proofs.PageSize.{page_some, page_fits}
use Rattle.verdicts.proofs.check.uneven_areas.Goals as goal

pub uneven-requires : goal.uneven-requires
uneven-requires c = omega (arith, page_some c.requires.0)

pub uneven-requires-2 : goal.uneven-requires-2
uneven-requires-2 c = omega (arith, page_some c.requires.0)

pub overflow_add-la : goal.overflow_add-la
unfolding most_number most_length
overflow_add-la c = record { fits = omega (arith, page_fits c.requires.0) }

pub returns : goal.returns
unfolding uneven_areas
returns c =
    rw (← c.page_size-p.ensures)
    (c.or-2.ensures _ _ c.uneven.ensures (c.or.ensures _ _ c.uneven-2.ensures (c.last.ensures _ refl)))
