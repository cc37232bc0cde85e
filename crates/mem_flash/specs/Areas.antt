-- Words for what is said of areas: one area of a flash, an area that holds an image, numbers that are bytes, and areas that are
-- as long as each other. Assumes nothing.
use Rattle.std.specs.Prelude.{◌≡◌, List, [], ◌∷◌, ℕ, ◌<◌, length}
use Rattle.mem_flash.specs.Flash.{Area, active, dfu, state, Flash}

-- an area of a flash
unfoldable pub area_of : Area → Flash → List ℕ
area_of active f = f.active
area_of dfu f = f.dfu
area_of state f = f.state

-- an area that holds an image
abbrev pub Image : Area → Type 0
Image active = Unit {0}
Image dfu = Unit {0}
Image state = ⊥

-- every number of the list is a byte
abbrev pub Bytes : List ℕ → Type 0
Bytes [] = Unit {0}
Bytes (x ∷ xs) = (x < 256) × Bytes xs

-- two flashes whose areas are as long as each other
pub record SameLengths (f h : Flash) : Type 0 where
  pub active : length f.active ≡ length h.active
  pub dfu : length f.dfu ≡ length h.dfu
  pub state : length f.state ≡ length h.state
