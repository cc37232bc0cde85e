-- Document 01, "What the power may do": freshly marked, the swap table and the revert's images. Every byte is named here
-- without running a step. Assumes nothing.
use Rattle.std.specs.Prelude.{◌≡◌, List, ◌++◌, ℕ, ◌+◌, ◌-◌, ◌*◌, ◌/◌, ◌%◌, max, eqb, length, take, drop, replicate}
use Rattle.state.specs.declared.State.{State}
use Rattle.state.specs.declared.State.TheVariants.{Swap, Revert}
use Rattle.state.specs.Choice.{pick}
use Rattle.state.specs.Cells.{erased, marked}
use Rattle.state.specs.Magic.{magic}
use Rattle.geometry.specs.declared.StateSizes.{StateSizes}
use Rattle.geometry.specs.declared.Geometry.{Geometry}
use Rattle.geometry.specs.Geometry.{cell, page}
use Rattle.mem_flash.specs.Flash.{Area, active, dfu, Flash, blank}
use Rattle.rules.specs.StateArea.{progress}
use Rattle.rules.specs.Steps.{page_count, unit_of}

-- a state area of n bytes: a magic in every byte of word 0, every other byte erased
unfoldable pub magic_area : StateSizes → State → ℕ → List ℕ
magic_area z s n = replicate z.ws (magic s) ++ replicate (n - z.ws) (erased (cell z))

-- freshly marked for an update
unfoldable pub Fresh : Geometry → Flash → Type 0
Fresh g f = f.state ≡ magic_area g.state Swap (length f.state)

-- the state area of n bytes after the swap of `count` pages: the swap's marks done, the rest as freshly marked
unfoldable pub swap_marks : StateSizes → ℕ → ℕ → List ℕ
swap_marks z count n =
    replicate z.ws (magic Swap)
    ++ (replicate z.ws (erased (cell z))
    ++ (replicate (2 * count * z.ws) (marked (cell z)) ++ replicate (n - (2 + 2 * count) * z.ws) (erased (cell z))))

-- the swap table: active page k holds the old DFU page k, DFU page k + 1 the old active page k, the rest of DFU is as it was
unfoldable pub swap_table : Geometry → Flash → Flash
swap_table g f =
    record {
      active = take (length f.active) f.dfu;
      dfu = take (page g) f.dfu ++ (f.active ++ drop (page g + length f.active) f.dfu);
      state = swap_marks g.state (page_count g f) (length f.state);
    }

-- page k of an image of pages of p bytes, and the image with other bytes there
unfoldable pub page_at : ℕ → ℕ → List ℕ → List ℕ
page_at p k xs = take p (drop (k * p) xs)

unfoldable pub with_page : ℕ → ℕ → List ℕ → List ℕ → List ℕ
with_page p k bytes xs = take (k * p) xs ++ (bytes ++ drop (k * p + p) xs)

-- the revert's two images, of the flash f before the swap, with the state area st: active as before the swap, DFU as
-- before the swap but for page N, which holds the old active page N - 1
unfoldable pub revert_images : Geometry → List ℕ → Flash → Flash
revert_images g st f =
    record {
      active = f.active;
      dfu = with_page (page g) (page_count g f) (page_at (page g) (page_count g f - 1) f.active) f.dfu;
      state = st;
    }

-- the state area after the revert: Revert's magic
unfoldable pub reverted : Geometry → Flash → Flash
reverted g f = revert_images g (magic_area g.state Revert (length f.state)) f

-- or all erased, where a cut fell after the state's erase
unfoldable pub reverted_erased : Geometry → Flash → Flash
reverted_erased g f = revert_images g (replicate (length f.state) (erased (cell g.state))) f

-- a state area of n bytes with m marks done whose progress does not count
unfoldable pub void_marks : StateSizes → ℕ → ℕ → List ℕ
void_marks z m n =
    replicate z.ws (magic Swap)
    ++ (replicate ((1 + m) * z.ws) (marked (cell z)) ++ replicate (n - (2 + m) * z.ws) (erased (cell z)))

-- what the revert of `count` pages begins to erase: invalid, every mark of swap and revert done
unfoldable pub revert_marks : StateSizes → ℕ → ℕ → List ℕ
revert_marks z count n = void_marks z (4 * count) n

-- or, where a cut fell inside the state's erase, its first units erased and the rest as they were
unfoldable pub reverted_part : Geometry → ℕ → Flash → Flash
reverted_part g units f =
    revert_images g (blank (cell g.state) (units * g.state.es) (revert_marks g.state (page_count g f) (length f.state))) f

-- the erase units of the state area
unfoldable pub state_units : Geometry → Flash → ℕ
state_units g f = length f.state / g.state.es

-- what a run needs to gain a step: the units of the target's page, its chunks and the mark
unfoldable pub step_cost : Geometry → Area → ℕ
step_cost g a = page g / unit_of g a + page g / g.b + 1

-- the dearer of the two
unfoldable pub dearer_cost : Geometry → ℕ
dearer_cost g = max (step_cost g dfu) (step_cost g active)

-- step i, of the swap or the revert, writes DFU if i is even, and active if it is odd
unfoldable pub step_to : ℕ → Area
step_to i = pick (eqb (i % 2) 0) dfu active

-- what the next step of a flash costs
unfoldable pub next_cost : Geometry → Flash → ℕ
next_cost g f = step_cost g (step_to (progress g.state f.state))
