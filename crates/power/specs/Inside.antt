-- Where the operations of a boot lie: inside their area, each erase on one erase unit of the area, writes from edge to edge of its
-- write units. So a boot that is not refused asks nothing of a chip that it could not do. Proved in proofs/Inside. Assumes nothing.
use Rattle.std.specs.Prelude.{◌≡◌, List, [], ◌∷◌, ℕ, ◌+◌, ◌%◌, ◌≤◌, length}
use Rattle.geometry.specs.declared.Geometry.{Geometry}
use Rattle.mem_flash.specs.Flash.{Area, active, dfu, state, Flash, Op, erase, write}
use Rattle.mem_flash.specs.Areas.{area_of}
use Rattle.rules.specs.Steps.{unit_of}
use Rattle.rules.specs.Boot.{prepare_boot}

-- the write unit of an area
unfoldable pub write_unit : Geometry → Area → ℕ
write_unit g active = g.wa
write_unit g dfu = g.wd
write_unit g state = g.state.ws

-- n bytes from an offset on, from edge to edge of units, in an area of so many bytes
pub record Aligned (unit from n size : ℕ) : Type 0 where
  pub starts : from % unit ≡ 0
  pub ends : (from + n) % unit ≡ 0
  pub inside : from + n ≤ size

abbrev pub Within : Geometry → Flash → Op → Type 0
Within g f (erase c a from n) = (n ≡ unit_of g a) × Aligned (unit_of g a) from n (length (area_of a f))
Within g f (write c a at bytes) = Aligned (write_unit g a) at (length bytes) (length (area_of a f))

-- each operation of a list
pub data AllWithin (g : Geometry) (f : Flash) : List Op → Type 0 where
  none : AllWithin g f []
  one : {o : Op} {os : List Op} → Within g f o → AllWithin g f os → AllWithin g f (o ∷ os)

-- the operations of a boot, whatever the areas hold
abbrev pub BootsInside : Geometry → Flash → Type 0
BootsInside g f = (prepare_boot g f).refusal ≡ 0 → AllWithin g f (prepare_boot g f).ops
