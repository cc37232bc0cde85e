-- What the marks of the firmware state leave: the state area that specs/Power calls freshly marked is what mark_updated leaves, so
-- its premise is met by the crate's own call. Proved in proofs/Marking. Assumes nothing.
use Rattle.std.specs.Prelude.{◌≡◌, true, false, length}
use Rattle.state.specs.declared.State.{State}
use Rattle.state.specs.declared.State.TheVariants.{Swap}
use Rattle.state.specs.Magic.{magic, throughout}
use Rattle.geometry.specs.declared.StateSizes.{StateSizes}
use Rattle.geometry.specs.declared.Geometry.{Geometry}
use Rattle.mem_flash.specs.Flash.{Flash, Supply}
use Rattle.rules.specs.StateArea.{word}
use Rattle.rules.specs.Calls.{report, left}
use Rattle.rules.specs.FirmwareState.{mark}
use Rattle.rules.specs.Power.{magic_area, Fresh}
use Rattle.power.specs.Power.{restated}

-- the mark of the state s on the flash f, with a budget of k
pub record Marking (s : State) (z : StateSizes) (f : Flash) (k : Supply) : Type 0 where
  -- where word 0 has the magic already, nothing is changed
  pub already : throughout (magic s) (word z 0 f.state) ≡ true → left (mark s z f.state) k f ≡ f
  -- else a mark that is done leaves the magic and erased bytes behind it, and touches no image
  pub fresh : throughout (magic s) (word z 0 f.state) ≡ false → (report (mark s z f.state) k).number ≡ 0
      → left (mark s z f.state) k f ≡ restated (magic_area z s (length f.state)) f

-- mark_updated leaves a freshly marked flash
abbrev pub UpdateIsFresh : Geometry → Flash → Supply → Type 0
UpdateIsFresh g f k =
    throughout (magic Swap) (word g.state 0 f.state) ≡ false → (report (mark Swap g.state f.state) k).number ≡ 0
    → Fresh g (left (mark Swap g.state f.state) k f)
