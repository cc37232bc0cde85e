-- How the machine of this crate is joined to the definition `output`: what is still to come, as a function of the machine and of the
-- input that is left. A step writes a text, and what was to come is that text and what is to come then. Assumes nothing.
use Rattle.std.specs.Prelude.{◌≡◌, ℕ, ◌+◌, ◌^◌, ◌<◌, ◌≤◌, List, ◌++◌, length, take}
use Rattle.geometry.specs.Refusals.{verdict}
use Rattle.lines.specs.Lines.{lines, most_bytes}
use Rattle.lines.specs.Grammar.{Plain}
use Rattle.bench_images.specs.declared.Areas.{Areas}
use Rattle.bench_images.specs.Images.{used, Fit}
use Rattle.bench_output.specs.Output.{Stage, Step, first, second, command, over, step, written}
use Rattle.bench_lines.specs.declared.Phase.{Phase}
use Rattle.bench_lines.specs.declared.Phase.TheVariants.{Sizes, Lengths, Commands, Over}
use Rattle.bench_lines.specs.declared.Bench.{Bench}
use Rattle.bench_lines.specs.declared.Machine.{Machine}

-- the definition's stage: its areas are the first bytes of the bench's
unfoldable pub stage_of : Phase → Areas → Stage
stage_of Sizes f = first
stage_of (Lengths g) f = second g
stage_of (Commands t) f = command t.g (verdict t.verdict) (used t.l f)
stage_of Over f = over

-- there is room for the areas
abbrev pub Fits : Phase → Type 0
Fits Sizes = Unit {0}
Fits (Lengths g) = Unit {0}
Fits (Commands t) = Fit t.l
Fits Over = Unit {0}

-- the lines that can be counted
abbrev pub most_lines : ℕ
most_lines = 2 ^ 64

-- one line more, after which this one comes; the areas are as they were
pub record Passed (b : Bench) (next : Phase) (r : Bench) : Type 0 where
  pub phase : r.phase ≡ next
  pub lines : b.lines + 1 < most_lines → r.lines ≡ b.lines + 1
  pub areas : r.areas ≡ b.areas

-- a line was passed that does this step: its text, and the bench r
pub record Stepped (line : Step) (b r : Bench) (text : List ℕ) : Type 0 where
  pub says : line ≡ step text (stage_of r.phase r.areas)
  pub lines : r.lines ≡ b.lines + 1
  pub fits : Fits r.phase

-- what is left of the input: the bytes that are held, and those that no one has read
unfoldable pub unread : Machine → List ℕ → List ℕ
unread m rest = take m.held m.line ++ rest

-- what is still to be written
unfoldable pub to_come : Machine → List ℕ → List ℕ
to_come m rest = written (stage_of m.bench.phase m.bench.areas) (m.bench.lines + 1) (lines (unread m rest))

-- what holds of a machine from its start on
pub record Sound (m : Machine) : Type 0 where
  pub full : length m.line ≡ most_bytes
  pub room : m.held ≤ most_bytes
  pub plain : Plain (take m.held m.line)
  pub fits : Fits m.bench.phase

-- every line that is left can be counted, and one that is missing
abbrev pub Counted : Machine → List ℕ → Type 0
Counted m rest = m.bench.lines + length (unread m rest) + 1 < most_lines

-- a step, from a machine with this input left to another with that
pub record Gone (m : Machine) (input text : List ℕ) (m' : Machine) (input' : List ℕ) : Type 0 where
  pub sound : Sound m'
  pub counted : Counted m' input'
  pub says : to_come m input ≡ text ++ to_come m' input'

abbrev pub Goes : Machine → List ℕ → List ℕ → Machine → List ℕ → Type 0
Goes m input text m' input' = Sound m → Counted m input → Gone m input text m' input'
