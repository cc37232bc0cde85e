-- The tables of specs/Power read page by page, as document 01 words them, and what follows for the image that starts: it is never
-- mixed. Proved in proofs/ByPages. Assumes nothing.
use Rattle.std.specs.Prelude.{◌≡◌, List, ℕ, ◌+◌, ◌-◌, ◌*◌, ◌<◌, length, take, drop}
use Rattle.geometry.specs.declared.Geometry.{Geometry}
use Rattle.geometry.specs.Geometry.{page}
use Rattle.mem_flash.specs.Flash.{Flash, Supply}
use Rattle.rules.specs.Steps.{page_count}
use Rattle.rules.specs.Power.{page_at, swap_table}
use Rattle.power.specs.Power.{ran, runs, FirstWhole}

-- x is what a swap makes of f: active page k holds the old DFU page k, DFU page k + 1 the old active page k, every other DFU byte
-- is as it was
pub record SwappedPages (g : Geometry) (f x : Flash) : Type 0 where
  pub active : (k : ℕ) → k < page_count g f → page_at (page g) k x.active ≡ page_at (page g) k f.dfu
  pub dfu : (k : ℕ) → k < page_count g f → page_at (page g) (k + 1) x.dfu ≡ page_at (page g) k f.active
  pub dfu_first : take (page g) x.dfu ≡ take (page g) f.dfu
  pub dfu_rest : drop (page g + length f.active) x.dfu ≡ drop (page g + length f.active) f.dfu
  pub active_length : length x.active ≡ length f.active
  pub dfu_length : length x.dfu ≡ length f.dfu

-- x is what a revert makes of a swapped f: active as before the swap, DFU as before the swap but for page N, which holds the old
-- active page N - 1
pub record RevertedPages (g : Geometry) (f x : Flash) : Type 0 where
  pub active : x.active ≡ f.active
  pub dfu_page : page_at (page g) (page_count g f) x.dfu ≡ page_at (page g) (page_count g f - 1) f.active
  pub dfu_before : take (page_count g f * page g) x.dfu ≡ take (page_count g f * page g) f.dfu
  pub dfu_rest : drop (page_count g f * page g + page g) x.dfu ≡ drop (page_count g f * page g + page g) f.dfu
  pub dfu_length : length x.dfu ≡ length f.dfu

-- whatever is cut: the image that the first run without a cut hands over has all its pages from the new firmware, and after the
-- revert all of them from the old
pub record NeverMixed (g : Geometry) (f : Flash) : Type 0 where
  pub swapped : (ks : List Supply) (k : Supply) → FirstWhole g ks k f → SwappedPages g f (ran g k (runs g ks f))
  pub reverted : (ks : List Supply) (k : Supply) → FirstWhole g ks k (swap_table g f)
      → RevertedPages g f (ran g k (runs g ks (swap_table g f)))
