use Rattle.geometry.specs.Refusals.{most_page, uneven_page}
use mathlib.Core.Path.{refl}
use Rattle.verdicts.proofs.check.uneven_page.Goals as goal

pub returns : goal.returns
unfolding uneven_page most_page
returns c =
    let chunk = c.or-chunk.ensures _ _ c.uneven.ensures (c.or.ensures _ _ c.uneven-2.ensures (c.last.ensures _ refl)) in
    let page = c.or-2.ensures _ _ c.uneven-5.ensures chunk in
    let writes = c.or-writes.ensures _ _ c.uneven-3.ensures (c.or-3.ensures _ _ c.uneven-4.ensures page) in
    rw (← c.page_size-p.ensures) (c.or-4.ensures _ _ refl writes)
