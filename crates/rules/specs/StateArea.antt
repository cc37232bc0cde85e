-- Document 01, "State area": words, the magic, the validity, the marks and the progress. Assumes nothing.
use Rattle.std.specs.Prelude.{Bool, List, ℕ, zero, suc, ◌+◌, ◌-◌, ◌*◌, length, take, drop, replicate}
use Rattle.state.specs.declared.State.{State}
use Rattle.state.specs.Choice.{pick}
use Rattle.state.specs.Cells.{erased, marked}
use Rattle.state.specs.Magic.{throughout, holds, state_of}
use Rattle.geometry.specs.declared.StateSizes.{StateSizes}
use Rattle.geometry.specs.Geometry.{cell, words}
use Rattle.mem_flash.specs.Flash.{state, Op, write}

-- word i
unfoldable pub word : StateSizes → ℕ → List ℕ → List ℕ
word z i st = take z.ws (drop (i * z.ws) st)

-- word 0 is the magic
unfoldable pub read_state : StateSizes → List ℕ → State
read_state z st = state_of (word z 0 st)

-- word 1 is the validity: the progress counts while every byte of it is erased
unfoldable pub valid : StateSizes → List ℕ → Bool
valid z st = throughout (erased (cell z)) (word z 1 st)

-- word 2 + i is the mark of step i: open while it holds an erased byte
unfoldable pub mark_open : StateSizes → List ℕ → ℕ → Bool
mark_open z st i = holds (erased (cell z)) (word z (2 + i) st)

-- m = T - 3: so many marks are read
unfoldable pub most_marks : StateSizes → List ℕ → ℕ
most_marks z st = words z.ws (length st) - 3

-- the first open mark among the n from mark i on, or the one past them
unfoldable pub first_open : StateSizes → List ℕ → ℕ → ℕ → ℕ
first_open z st zero i = i
first_open z st (suc n) i = pick (mark_open z st i) i (first_open z st n (suc i))

-- the leading done marks, whether they count or not: the first open mark below m, or m
unfoldable pub marks_done : StateSizes → List ℕ → ℕ
marks_done z st = first_open z st (most_marks z st) 0

-- the progress: m where it does not count, else the leading done marks
unfoldable pub progress : StateSizes → List ℕ → ℕ
progress z st = pick (valid z st) (marks_done z st) (most_marks z st)

-- the mark of step i is written over its whole word, and so is the invalidation
unfoldable pub mark_op : StateSizes → ℕ → Op
mark_op z i = write (cell z) state ((2 + i) * z.ws) (replicate z.ws (marked (cell z)))

unfoldable pub invalidate_op : StateSizes → Op
invalidate_op z = write (cell z) state z.ws (replicate z.ws (marked (cell z)))

-- the word 0 written with a magic
unfoldable pub magic_op : StateSizes → ℕ → Op
magic_op z m = write (cell z) state 0 (replicate z.ws m)
