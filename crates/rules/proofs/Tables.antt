-- Laws of a table of steps: none left, the first step with the rest on the flash that it left, and whether that step runs. Assumes
-- nothing.
use mathlib.Core.Path.{◌≡◌, refl}
use mathlib.Core.List.{List, [], ◌∷◌, ◌++◌}
use Prim.Native.Nat.{◌≤◌, ◌<◌}
use borrow.Author.Tests.{le-leb, lt-leb}
use Rattle.state.specs.Choice.{pick}
use Rattle.geometry.specs.declared.Geometry.{Geometry}
use Rattle.mem_flash.specs.Flash.{Flash, apply_all}
use Rattle.rules.specs.StateArea.{progress}
use Rattle.rules.specs.Steps.{Copy, copy_ops, once_ops, copies_ops}

pub copies_none : (g : Geometry) (f : Flash) → copies_ops g [] f ≡ []
unfolding copies_ops
copies_none g f = refl

-- the progress is read afresh: the later steps see the marks of the earlier ones
pub copies_next : (g : Geometry) (c : Copy) (cs : List Copy) (f : Flash)
    → copies_ops g (c ∷ cs) f ≡ once_ops g c f ++ copies_ops g cs (apply_all (once_ops g c f) f)
unfolding copies_ops
copies_next g c cs f = refl

pub once_skip : (g : Geometry) (c : Copy) (f : Flash) → c.mark < progress g.state f.state → once_ops g c f ≡ []
unfolding once_ops pick
once_skip g c f h = rw (lt-leb (progress g.state f.state) c.mark h)

pub once_do : (g : Geometry) (c : Copy) (f : Flash) → progress g.state f.state ≤ c.mark → once_ops g c f ≡ copy_ops g c f
unfolding once_ops pick
once_do g c f h = rw (le-leb (progress g.state f.state) c.mark h)

pub copies_skip : (g : Geometry) (c : Copy) (cs : List Copy) (f : Flash) → c.mark < progress g.state f.state
    → copies_ops g (c ∷ cs) f ≡ copies_ops g cs f
unfolding apply_all
copies_skip g c cs f h = rw (copies_next, once_skip g c f h)

pub copies_do : (g : Geometry) (c : Copy) (cs : List Copy) (f : Flash) → progress g.state f.state ≤ c.mark
    → copies_ops g (c ∷ cs) f ≡ copy_ops g c f ++ copies_ops g cs (apply_all (copy_ops g c f) f)
copies_do g c cs f h = rw (copies_next, once_do g c f h)
