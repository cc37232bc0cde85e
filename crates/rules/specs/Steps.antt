-- Document 01, "Steps": the swap and the revert as tables of page copies, and the operations of a copy. Assumes nothing.
use Rattle.std.specs.Prelude.{List, [], ◌∷◌, ◌++◌, ℕ, zero, suc, ◌+◌, ◌*◌, ◌/◌, leb, length, get_or, take, drop}
use Rattle.state.specs.declared.Cell.{Cell}
use Rattle.state.specs.Choice.{pick}
use Rattle.geometry.specs.declared.Geometry.{Geometry}
use Rattle.geometry.specs.Geometry.{cell, page, pages}
use Rattle.mem_flash.specs.Flash.{Area, active, dfu, state, Flash, Op, write, apply_all, erase_ops}
use Rattle.rules.specs.StateArea.{progress, mark_op}

-- a step: a page of one image is copied to a page of the other, and the step's mark is written
pub record Copy : Type 0 where
  pub to : Area
  pub source : ℕ
  pub target : ℕ
  pub mark : ℕ

-- step i: DFU page `target` from active page `source`, and the other way
unfoldable pub to_dfu : ℕ → ℕ → ℕ → Copy
to_dfu i source target = record { to = dfu; source = source; target = target; mark = i }

unfoldable pub to_active : ℕ → ℕ → ℕ → Copy
to_active i source target = record { to = active; source = source; target = target; mark = i }

-- the swap, k from N - 1 down to 0: the pages below k + 1, with step i first
unfoldable pub swap_from : ℕ → ℕ → List Copy
swap_from zero i = []
swap_from (suc k) i = to_dfu i k (k + 1) ∷ to_active (i + 1) k k ∷ swap_from k (i + 2)

-- the revert, k from 0 up: n pages from page k on, with step i first
unfoldable pub revert_from : ℕ → ℕ → ℕ → List Copy
revert_from zero k i = []
revert_from (suc n) k i = to_dfu i k k ∷ to_active (i + 1) (k + 1) k ∷ revert_from n (k + 1) (i + 2)

-- the steps of the swap are 0 to 2N - 1, those of the revert 2N to 4N - 1
unfoldable pub swap_steps : ℕ → List Copy
swap_steps n = swap_from n 0

unfoldable pub revert_steps : ℕ → List Copy
revert_steps n = revert_from n 0 (2 * n)

-- all steps of n pages, each at its number, and step i
unfoldable pub all_steps : ℕ → List Copy
all_steps n = swap_steps n ++ revert_steps n

unfoldable pub step_at : ℕ → ℕ → Copy
step_at n i = get_or (all_steps n) i (to_dfu 0 0 0)

-- where a copy's bytes come from, and how large an erase unit of its target is
unfoldable pub source_of : Area → Flash → List ℕ
source_of active f = f.dfu
source_of dfu f = f.active
source_of state f = f.state

unfoldable pub unit_of : Geometry → Area → ℕ
unit_of g active = g.ea
unit_of g dfu = g.ed
unit_of g state = g.state.es

-- n chunks of b bytes each, in rising order
unfoldable pub chunk_ops : Cell → ℕ → Area → ℕ → ℕ → ℕ → List ℕ → List Op
chunk_ops c zero a at from b source = []
chunk_ops c (suc n) a at from b source =
    write c a at (take b (drop from source)) ∷ chunk_ops c n a (at + b) (from + b) b source

-- a page of p bytes filled: erased, then written in chunks
unfoldable pub fill_ops : Cell → ℕ → ℕ → ℕ → ℕ → ℕ → List ℕ → Area → List Op
fill_ops c unit p b at from source a = erase_ops c unit a at p ++ chunk_ops c (p / b) a at from b source

-- one copy: the page filled, the step marked
unfoldable pub copy_ops : Geometry → Copy → Flash → List Op
copy_ops g c f =
    fill_ops
    (cell g.state)
    (unit_of g c.to)
    (page g)
    g.b
    (c.target * page g)
    (c.source * page g)
    (source_of c.to f)
    c.to
    ++ (mark_op g.state c.mark ∷ [])

-- a step runs only if the progress, read afresh, is at most its number
unfoldable pub once_ops : Geometry → Copy → Flash → List Op
once_ops g c f = pick (leb (progress g.state f.state) c.mark) (copy_ops g c f) []

-- a table of steps, each on the flash that those before it left
unfoldable pub copies_ops : Geometry → List Copy → Flash → List Op
copies_ops g [] f = []
copies_ops g (c ∷ cs) f = once_ops g c f ++ copies_ops g cs (apply_all (once_ops g c f) f)

-- N of a flash
unfoldable pub page_count : Geometry → Flash → ℕ
page_count g f = pages g (length f.active)

unfoldable pub swap_ops : Geometry → Flash → List Op
swap_ops g f = copies_ops g (swap_steps (page_count g f)) f

unfoldable pub revert_ops : Geometry → Flash → List Op
revert_ops g f = copies_ops g (revert_steps (page_count g f)) f
