-- What is promised of the operations that write firmware: what DFU holds, and what is remembered. Assumes nothing.
use Rattle.std.specs.Prelude.{◌≡◌, List, [], ◌∷◌, ◌++◌, ℕ, ◌*◌, ◌/◌, take}
use Rattle.state.specs.declared.Cell.{Cell}
use Rattle.state.specs.Choice.{pick}
use Rattle.mem_flash.specs.Flash.{dfu, Op, erase, write}
use Rattle.mem_flash.specs.Run.{Flow, flash, ended, run}
use Rattle.rules.specs.FirmwareUpdater.{Sector, remembers, remembered}

-- the operations of one piece: its sector erased unless it is the one last erased, the piece written
unfoldable pub piece_ops : Cell → ℕ → Sector → ℕ → List ℕ → List Op
piece_ops c ed m at bytes = pick (remembers m (at / ed)) [] (erase c dfu (at / ed * ed) ed ∷ []) ++ (write c dfu at bytes ∷ [])

-- operations on DFU with a budget of k leave xs' where xs was, the memory m' where m was, and the answer r
pub record WroteBy (k ed : ℕ) (ops : List Op) (m m' : Sector) (xs xs' : List ℕ) (r : Flow) : Type 0 where
  pub flash : (a s : List ℕ) → run k ops (flash a xs s) ≡ ended (flash a xs' s) r
  pub memory : m' ≡ remembered ed (take k ops) m
