-- 02, No. 12: what a log keeps of an operation, and how a log is written down. Assumes nothing.
use Rattle.std.specs.Prelude.{List, [], ◌∷◌, ℕ, length, get_or}
use Rattle.mem_flash.specs.Flash.{Area, active, dfu, state, Op, erase, write}

-- an entry as its numbers
pub record Entry : Type 0 where
  pub kind : ℕ
  pub area : ℕ
  pub start : ℕ
  pub length : ℕ

abbrev pub entry : ℕ → ℕ → ℕ → ℕ → Entry
entry k a s n = record { kind = k; area = a; start = s; length = n }

-- the number of an area
unfoldable pub area_number : Area → ℕ
area_number active = 0
area_number dfu = 1
area_number state = 2

-- an operation as an entry: its kind (0 an erase, 1 a write), its area, its start and its length, and none of its bytes
unfoldable pub entry_of : Op → Entry
entry_of (erase c a from n) = entry 0 (area_number a) from n
entry_of (write c a at bs) = entry 1 (area_number a) at (length bs)

-- a log written down: four numbers to an entry
unfoldable pub written : List Entry → List ℕ
written [] = []
written (e ∷ es) = e.kind ∷ e.area ∷ e.start ∷ e.length ∷ written es

-- and read back, from rows of four numbers
abbrev pub row_entry : List ℕ → Entry
row_entry r = entry (get_or r 0 0) (get_or r 1 0) (get_or r 2 0) (get_or r 3 0)

unfoldable pub entries : List (List ℕ) → List Entry
entries [] = []
entries (r ∷ rs) = row_entry r ∷ entries rs
