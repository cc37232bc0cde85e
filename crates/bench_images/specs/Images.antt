-- How the areas start, and which call a command is: request No. 4. Assumes nothing.
use Rattle.std.specs.Prelude.{◌≡◌, List, [], ◌∷◌, ℕ, zero, suc, ◌+◌, ◌/◌, ◌%◌, ◌≤◌, ◌<◌, eqb, take, drop, replicate}
use Rattle.std.specs.Prelude.{None}
use Rattle.state.specs.declared.Cell.TheVariants.{High}
use Rattle.state.specs.declared.State.TheVariants as state
use Rattle.state.specs.Choice.{pick}
use Rattle.state.specs.Cells.{erased}
use Rattle.geometry.specs.declared.Geometry.{Geometry}
use Rattle.geometry.specs.Geometry.{page, pages}
use Rattle.geometry.specs.Refusals.{Verdict, verdict, boot_refusal}
use Rattle.mem_flash.specs.Flash.{Flash}
use Rattle.mem_flash.specs.Run.{flash}
use Rattle.rules.specs.Calls.{Answer, Call, Did}
use Rattle.rules.specs.Boot.{prepare_boot}
use Rattle.rules.specs.FirmwareState.{mark}
use Rattle.lines.specs.declared.Lengths.{Lengths}
use Rattle.lines.specs.declared.Command.{Command}
use Rattle.lines.specs.declared.Command.TheVariants.{Update, Booted, Boot}
use Rattle.lines.specs.Lines.{most_length}
use Rattle.bench_images.specs.declared.Areas.{Areas}

-- ---- how the areas start

-- n bytes from the place i on, where each page of `size` bytes is filled with its number from 1, modulo 256, and `before` pages were
-- counted before the area's first
unfoldable pub filled_from : ℕ → ℕ → ℕ → ℕ → List ℕ
filled_from size before i zero = []
filled_from size before i (suc n) = (before + i / size + 1) % 256 ∷ filled_from size before (suc i) n

unfoldable pub filled : ℕ → ℕ → ℕ → List ℕ
filled size before n = filled_from size before 0 n

-- n bytes of FF
abbrev pub blank : ℕ → List ℕ
blank n = replicate n (erased High)

-- active's pages count from 1, and DFU's go on where active's end; where a boot is refused the images are FF, as the state area always is
unfoldable pub start_of : Geometry → Lengths → Flash
start_of g l =
    pick (eqb (boot_refusal g l.active l.dfu l.state) 0)
    (flash (filled (page g) 0 l.active) (filled (page g) (pages g l.active) l.dfu) (blank l.state))
    (flash (blank l.active) (blank l.dfu) (blank l.state))

-- ---- which call a command is

unfoldable pub call_of : Geometry → Command → Flash → Call
call_of g (Update k) f = mark state.Swap g.state f.state
call_of g (Booted k) f = mark state.Boot g.state f.state
call_of g (Boot k) f = prepare_boot g f

-- where a boot is refused under the number v every command is refused so, and no command is judged by itself
unfoldable pub bench_call : Geometry → ℕ → Command → Flash → Call
bench_call g v c f = pick (eqb v 0) (call_of g c f) (record { refusal = v; state = None; ops = [] })

-- ---- the same of the code, whose areas have `most_length` bytes each, of which it uses the first

abbrev pub areas : List ℕ → List ℕ → List ℕ → Areas
areas a d s = record { active = a; dfu = d; state = s }

abbrev pub used : Lengths → Areas → Flash
used l f = flash (take l.active f.active) (take l.dfu f.dfu) (take l.state f.state)

-- lengths for which there is room
pub record Fit (l : Lengths) : Type 0 where
  pub active : l.active ≤ most_length
  pub dfu : l.dfu ≤ most_length
  pub state : l.state ≤ most_length

-- what the first two lines make of the areas
pub record Begun (g : Geometry) (l : Lengths) (f : Areas) (v : Verdict) : Type 0 where
  pub judged : verdict v ≡ boot_refusal g l.active l.dfu l.state
  pub started : verdict v ≡ 0 → (f.active ≡ filled (page g) 0 most_length) × (f.dfu ≡ filled (page g) (pages g l.active) most_length)
  pub refused : 0 < verdict v → (f.active ≡ blank most_length) × (f.dfu ≡ blank most_length)
  pub state : f.state ≡ blank most_length

-- the answer r and the areas f' after it are those of the call with a budget of k; what is not used stays as it was
pub record Obeyed (c : Call) (k : ℕ) (l : Lengths) (f f' : Areas) (r : Answer) : Type 0 where
  pub did : Did c k (used l f) (used l f') r
  pub active : drop l.active f'.active ≡ drop l.active f.active
  pub dfu : drop l.dfu f'.dfu ≡ drop l.dfu f.dfu
  pub state : drop l.state f'.state ≡ drop l.state f.state
