-- The updater's calls: document 01, "Steps", and rows 5 and 6 of "When a call says no". Assumes nothing.
use Rattle.std.specs.Prelude.{Bool, true, false, not, List, [], ◌∷◌, ◌++◌, ℕ, zero, suc, ◌+◌, ◌-◌, ◌*◌, ◌/◌, ◌%◌, ltb, eqb, length, take, drop}
use Rattle.std.specs.Prelude.{Option, None, Some}
use Rattle.state.specs.declared.Cell.{Cell}
use Rattle.state.specs.declared.State.{State}
use Rattle.state.specs.declared.State.TheVariants.{Boot, Swap, Revert, DfuDetach}
use Rattle.state.specs.Choice.{pick}
use Rattle.state.specs.Magic.{magic}
use Rattle.crc32.specs.Crc.{crc}
use Rattle.geometry.specs.declared.StateSizes.{StateSizes}
use Rattle.geometry.specs.declared.Sizes.{Sizes}
use Rattle.geometry.specs.Geometry.{cell}
use Rattle.geometry.specs.Refusals.{any, uneven, updater_refusal, checked_refusal}
use Rattle.mem_flash.specs.Flash.{dfu, Flash, Op, erase, write, erase_ops}
use Rattle.rules.specs.StateArea.{read_state}
use Rattle.rules.specs.FirmwareState.{set_magic_ops}
use Rattle.rules.specs.Calls.{Call}

-- ---- write_firmware

-- the bytes from an offset up to its sector's end
unfoldable pub room : ℕ → ℕ → ℕ
room ed at = ed - at % ed

-- a piece of the data, within one sector
pub record Piece : Type 0 where
  pub at : ℕ
  pub bytes : List ℕ

-- the data at an offset as pieces, n at the most; each takes a byte or more, so n is the data's length
unfoldable pub pieces_from : ℕ → ℕ → ℕ → List ℕ → List Piece
pieces_from zero ed at bytes = []
pieces_from (suc n) ed at [] = []
pieces_from (suc n) ed at (b ∷ bs) =
    record { at = at; bytes = take (room ed at) (b ∷ bs) }
    ∷ pieces_from n ed (at + room ed at) (drop (room ed at) (b ∷ bs))

unfoldable pub pieces : ℕ → ℕ → List ℕ → List Piece
pieces ed at bytes = pieces_from (length bytes) ed at bytes

-- the updater's memory: the sector that it erased last
abbrev pub Sector : Type 0
Sector = Option ℕ

-- the sector is the one last erased
unfoldable pub remembers : Sector → ℕ → Bool
remembers None s = false
remembers (Some t) s = eqb t s

-- each piece: its sector, which is one unit, erased unless it is the one last erased, and remembered; the piece written
unfoldable pub pieces_ops : Cell → ℕ → Sector → List Piece → List Op
pieces_ops c ed m [] = []
pieces_ops c ed m (p ∷ ps) =
    pick (remembers m (p.at / ed)) [] (erase c dfu (p.at / ed * ed) ed ∷ [])
    ++ (write c dfu p.at p.bytes ∷ pieces_ops c ed (Some (p.at / ed)) ps)

-- the memory after operations: set once an erase is done, and by nothing else
unfoldable pub remembered_op : ℕ → Op → Sector → Sector
remembered_op ed (erase c a from n) m = Some (from / ed)
remembered_op ed (write c a at bs) m = m

unfoldable pub remembered : ℕ → List Op → Sector → Sector
remembered ed [] m = m
remembered ed (o ∷ os) m = remembered ed os (remembered_op ed o m)

-- ---- rows 5 and 6

unfoldable pub is_swap : State → Bool
is_swap Boot = false
is_swap Swap = true
is_swap Revert = false
is_swap DfuDetach = false

-- row 5, in mark_dfu, write_firmware and prepare_update
unfoldable pub pending : StateSizes → List ℕ → Bool
pending z st = is_swap (read_state z st)

-- row 6, read_dfu: n bytes at an offset
unfoldable pub past_end : ℕ → ℕ → ℕ → Bool
past_end ld offset n = ltb ld (offset + n)

-- row 6, write_firmware: empty data is never out of range
unfoldable pub bad_range : ℕ → ℕ → ℕ → ℕ → Bool
bad_range wd ld offset n =
    pick (eqb n 0) false (any (uneven offset wd ∷ uneven n wd ∷ past_end ld offset n ∷ []))

-- ---- the calls

-- a call of the updater, with what rows 5 and 6 say of it, the state that it carries and its operations
unfoldable pub updater_call : Sizes → Flash → Bool → Bool → Option State → List Op → Call
updater_call z f swap range s ops =
    record {
      refusal = updater_refusal z (length f.dfu) (length f.state) swap range;
      state = s;
      ops = ops;
    }

unfoldable pub updater_get_state : Sizes → Flash → Call
updater_get_state z f = updater_call z f false false (Some (read_state z.state f.state)) []

-- mark_updated and mark_booted look at no row 5; mark_dfu does
unfoldable pub updater_mark : State → Bool → Sizes → Flash → Call
updater_mark s swap z f = updater_call z f swap false None (set_magic_ops z.state (magic s) f.state)

unfoldable pub updater_mark_updated : Sizes → Flash → Call
updater_mark_updated z f = updater_mark Swap false z f

unfoldable pub updater_mark_dfu : Sizes → Flash → Call
updater_mark_dfu z f = updater_mark DfuDetach (pending z.state f.state) z f

unfoldable pub updater_mark_booted : Sizes → Flash → Call
updater_mark_booted z f = updater_mark Boot false z f

-- read_dfu of n bytes does no operation
unfoldable pub read_dfu : Sizes → ℕ → ℕ → Flash → Call
read_dfu z offset n f = updater_call z f false (past_end (length f.dfu) offset n) None []

-- and fills the buffer `out` with the bytes at the offset, where it is not refused
unfoldable pub read_out : Sizes → ℕ → List ℕ → Flash → List ℕ
read_out z offset out f =
    pick (eqb (read_dfu z offset (length out) f).refusal 0) (take (length out) (drop offset f.dfu)) out

unfoldable pub write_firmware : Sizes → Sector → ℕ → List ℕ → Flash → Call
write_firmware z m offset bytes f =
    updater_call
    z
    f
    (pending z.state f.state)
    (bad_range z.wd (length f.dfu) offset (length bytes))
    None
    (pieces_ops (cell z.state) z.ed m (pieces z.ed offset bytes))

-- the memory after write_firmware with a budget of k
unfoldable pub memory : ℕ → Sizes → Sector → ℕ → List ℕ → Flash → Sector
memory k z m offset bytes f =
    pick (eqb (write_firmware z m offset bytes f).refusal 0)
    (remembered z.ed (take k (write_firmware z m offset bytes f).ops) m)
    m

-- prepare_update: all of DFU erased; the memory stays as it is
unfoldable pub prepare_update : Sizes → Flash → Call
prepare_update z f =
    updater_call z f (pending z.state f.state) false None (erase_ops (cell z.state) z.ed dfu 0 (length f.dfu))

-- row 8: the first n bytes of DFU do not have the sum that is expected (02, No. 7)
unfoldable pub wrong_sum : ℕ → ℕ → List ℕ → Bool
wrong_sum n sum d = not (eqb (crc (take n d)) sum)

-- check_and_mark_updated: mark_updated's operations, where these bytes have this sum; row 5 as in write_firmware
unfoldable pub check_and_mark_updated : Sizes → ℕ → ℕ → Flash → Call
check_and_mark_updated z n sum f =
    record {
      refusal =
          checked_refusal
          z
          (length f.dfu)
          (length f.state)
          (pending z.state f.state)
          (past_end (length f.dfu) 0 n)
          (wrong_sum n sum f.dfu);
      state = None;
      ops = set_magic_ops z.state (magic Swap) f.state;
    }
