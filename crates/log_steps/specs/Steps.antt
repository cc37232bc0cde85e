-- What a step leaves in a log, entry by entry. Inner words of the readers: proofs/StepLogs in `power_log` shows that these are the
-- operations of a step, as the rules define them. Assumes nothing.
use Rattle.std.specs.Prelude.{ℕ, ◌+◌, ◌-◌, ◌*◌, ◌/◌, ltb}
use Rattle.state.specs.Choice.{pick}
use Rattle.geometry.specs.declared.Geometry.{Geometry}
use Rattle.geometry.specs.Geometry.{page}
use Rattle.rules.specs.Steps.{Copy, unit_of}
use Rattle.log_steps.specs.Entries.{Entry, entry, area_number}

-- a step by its numbers: erases of so many units, writes of so many chunks, and the mark's word
pub record Step : Type 0 where
  pub area : ℕ
  pub start : ℕ
  pub units : ℕ
  pub unit : ℕ
  pub chunks : ℕ
  pub chunk : ℕ
  pub mark : ℕ
  pub word : ℕ

-- a step fills page `target` of an area, of pages of p bytes and erase units of `unit` bytes, and marks a word
unfoldable pub step_for : Geometry → ℕ → ℕ → ℕ → ℕ → ℕ → Step
step_for g p area unit target mark =
    record {
      area = area;
      start = target * p;
      units = p / unit;
      unit = unit;
      chunks = p / g.b;
      chunk = g.b;
      mark = mark * g.state.ws;
      word = g.state.ws;
    }

-- a copy of the table of steps
unfoldable pub step_of : Geometry → Copy → Step
step_of g c = step_for g (page g) (area_number c.to) (unit_of g c.to) c.target (2 + c.mark)

-- entry j: the erases of the page's units, then its chunks, then the mark
unfoldable pub nth : Step → ℕ → Entry
nth s j =
    pick (ltb j s.units)
    (entry 0 s.area (s.start + j * s.unit) s.unit)
    (pick (ltb (j - s.units) s.chunks)
    (entry 1 s.area (s.start + (j - s.units) * s.chunk) s.chunk)
    (entry 1 2 s.mark s.word))

-- so many entries
unfoldable pub size : Step → ℕ
size s = s.units + s.chunks + 1
