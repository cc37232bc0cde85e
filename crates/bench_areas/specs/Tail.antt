-- What is still to come of the bench program's output when its input has ended. Assumes nothing.
use Rattle.std.specs.Prelude.{◌≡◌, ℕ, ◌+◌, ◌-◌, ◌<◌, ◌≤◌, List, [], ◌∷◌, ◌++◌, length, take, drop}
use Rattle.mem_flash.specs.Flash.{Flash}
use Rattle.numerals.specs.Text.{space}
use Rattle.lines.specs.Lines.{line_feed}
use Rattle.answer_text.specs.Answers.{hex_of}
use Rattle.bench_images.specs.declared.Areas.{Areas}
use Rattle.bench_images.specs.Images.{used, Fit}
use Rattle.bench_output.specs.Output.{dfu, state}
use Rattle.bench_areas.specs.declared.Tail.{Tail}
use Rattle.bench_areas.specs.declared.Tail.TheVariants.{Active, Dfu, State, Over}

-- the rest of the areas' text, from a byte of one of them on
unfoldable pub state_from : ℕ → Flash → List ℕ
state_from at f = hex_of (drop at f.state) ++ (line_feed ∷ [])

unfoldable pub dfu_from : ℕ → Flash → List ℕ
dfu_from at f = hex_of (drop at f.dfu) ++ ((line_feed ∷ state ++ (space ∷ [])) ++ state_from 0 f)

unfoldable pub active_from : ℕ → Flash → List ℕ
active_from at f = hex_of (drop at f.active) ++ ((line_feed ∷ dfu ++ (space ∷ [])) ++ dfu_from 0 f)

unfoldable pub tail_text : Tail → Areas → List ℕ
tail_text (Active l at) f = active_from at (used l f)
tail_text (Dfu l at) f = dfu_from at (used l f)
tail_text (State l at) f = state_from at (used l f)
tail_text Over f = []

-- there is room for the areas
abbrev pub Room : Tail → Type 0
Room (Active l at) = Fit l
Room (Dfu l at) = Fit l
Room (State l at) = Fit l
Room Over = Unit {0}

-- how many texts there may still be: each one makes it less
unfoldable pub due : Tail → ℕ
due (Active l at) = 3 + l.state + l.dfu + (l.active - at)
due (Dfu l at) = 2 + l.state + (l.dfu - at)
due (State l at) = 1 + (l.state - at)
due Over = 0

-- how a text is made: of bytes of the area's first n, if there are any from `at` on, or what follows the area
pub data Moved (area : List ℕ) (n at : ℕ) (again : Tail) (label : List ℕ) (then : Tail) : Tail → List ℕ → Type 0 where
  bytes : {t : Tail} {text : List ℕ} → t ≡ again → at < n → n ≤ length area → text ≡ hex_of (take 32 (drop at (take n area)))
      → Moved area n at again label then t text
  ends : {t : Tail} {text : List ℕ} → t ≡ then → (n ≤ length area → n ≤ at) → text ≡ label → Moved area n at again label then t text
