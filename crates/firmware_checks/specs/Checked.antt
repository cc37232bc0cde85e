-- What request No. 7 of 02 promises of check_and_mark_updated. Proved of every input in proofs/Checked. Assumes nothing.
use Rattle.std.specs.Prelude.{◌≡◌, ◌⊎◌, ◌≢◌, ℕ, length, take}
use Rattle.crc32.specs.Crc.{crc}
use Rattle.geometry.specs.declared.Sizes.{Sizes}
use Rattle.mem_flash.specs.Flash.{Flash}
use Rattle.rules.specs.Calls.{Answer, reported, Did}
use Rattle.rules.specs.FirmwareUpdater.{updater_mark_updated, check_and_mark_updated}

-- two flashes that agree on the state area and on the first n bytes of DFU; the other bytes may be any
pub record Agree (n : ℕ) (f h : Flash) : Type 0 where
  pub state : f.state ≡ h.state
  pub size : length f.dfu ≡ length h.dfu
  pub bytes : take n f.dfu ≡ take n h.dfu

pub record Checked (z : Sizes) (n sum : ℕ) : Type 0 where
  -- a call that changes a byte, or is cut, has read bytes whose sum is the one expected
  pub only_if : (k : ℕ) (f f' : Flash) (r : Answer) → Did (check_and_mark_updated z n sum f) k f f' r → (f' ≢ f) ⊎ ((reported r).number ≡ 7)
      → crc (take n f.dfu) ≡ sum
  -- where it is not refused it answers as the updater's mark_updated does, and leaves the same
  pub as_mark : (k : ℕ) (f f' : Flash) (r : Answer) → (check_and_mark_updated z n sum f).refusal ≡ 0
      → Did (check_and_mark_updated z n sum f) k f f' r → Did (updater_mark_updated z f) k f f' r
  -- nothing but the state area and these bytes counts
  pub alike : (f h : Flash) → Agree n f h → check_and_mark_updated z n sum f ≡ check_and_mark_updated z n sum h
