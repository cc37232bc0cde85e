-- Document 01, "The flash we model": areas, operations and what they do. An operation says of which cells its area is made, so that
-- whoever speaks of operations only does not (02, No. 11). Assumes nothing.
use Rattle.std.specs.Prelude.{List, [], ◌∷◌, ◌++◌, ℕ, zero, suc, ◌+◌, ◌/◌, take, drop}
use Rattle.state.specs.declared.Cell.{Cell}
use Rattle.state.specs.Cells.{erased, programmed}

-- the three areas, each a list of bytes
pub data Area : Type 0 where
  active : Area
  dfu : Area
  state : Area

pub record Flash : Type 0 where
  pub active : List ℕ
  pub dfu : List ℕ
  pub state : List ℕ

-- an operation: an erase of so many bytes from an offset on, or a write of bytes at an offset
pub data Op : Type 0 where
  erase : Cell → Area → ℕ → ℕ → Op
  write : Cell → Area → ℕ → List ℕ → Op

-- the first n bytes erased; bytes that an area does not have are passed over
unfoldable pub blank : Cell → ℕ → List ℕ → List ℕ
blank c zero xs = xs
blank c (suc n) [] = []
blank c (suc n) (x ∷ xs) = erased c ∷ blank c n xs

-- bytes written over those of an area from its first on
unfoldable pub program : Cell → List ℕ → List ℕ → List ℕ
program c [] ys = []
program c (x ∷ xs) [] = x ∷ xs
program c (x ∷ xs) (y ∷ ys) = programmed c x y ∷ program c xs ys

-- an area after an erase, and after a write
unfoldable pub erased_at : Cell → ℕ → ℕ → List ℕ → List ℕ
erased_at c from n xs = take from xs ++ blank c n (drop from xs)

unfoldable pub written_at : Cell → ℕ → List ℕ → List ℕ → List ℕ
written_at c at bs xs = take at xs ++ program c (drop at xs) bs

-- one area of the flash changed
unfoldable pub change : Area → (List ℕ → List ℕ) → Flash → Flash
change active h f = record { active = h f.active; dfu = f.dfu; state = f.state }
change dfu h f = record { active = f.active; dfu = h f.dfu; state = f.state }
change state h f = record { active = f.active; dfu = f.dfu; state = h f.state }

-- what a run is handed: today a count of operations
abbrev pub Supply : Type 0
Supply = ℕ

abbrev pub count : Supply → ℕ
count k = k

-- the flash after one operation, after a list of them, and after a run of a list that is handed k
unfoldable pub apply : Op → Flash → Flash
apply (erase c a from n) f = change a (erased_at c from n) f
apply (write c a at bs) f = change a (written_at c at bs) f

unfoldable pub apply_all : List Op → Flash → Flash
apply_all [] f = f
apply_all (o ∷ os) f = apply_all os (apply o f)

unfoldable pub after : Supply → List Op → Flash → Flash
after k os f = apply_all (take (count k) os) f

-- so many erase units of an area from an offset on, in rising order: each is one operation
unfoldable pub unit_ops : Cell → ℕ → ℕ → Area → ℕ → List Op
unit_ops c zero unit a from = []
unit_ops c (suc n) unit a from = erase c a from unit ∷ unit_ops c n unit a (from + unit)

-- an erase of n bytes of an area whose erase units have `unit` bytes
unfoldable pub erase_ops : Cell → ℕ → Area → ℕ → ℕ → List Op
erase_ops c unit a from n = unit_ops c (n / unit) unit a from
