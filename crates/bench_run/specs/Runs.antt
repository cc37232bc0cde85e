-- A run of the bench program, by the contracts of the functions that it calls: the input comes in pieces, and the texts that are due are
-- written one after the other. Proved in proofs/Whole: they are `output` of the input, however it was cut. Assumes nothing.
use Rattle.std.specs.Prelude.{◌≡◌, List, [], ◌∷◌, ◌++◌, ℕ, ◌+◌, ◌^◌, ◌<◌, ◌≤◌, length, drop}
use Rattle.lines.specs.Lines.{most_bytes}
use Rattle.bench_output.specs.Output.{output}
use Rattle.bench_lines.specs.declared.Phase.TheVariants as phases
use Rattle.bench_lines.specs.declared.Machine.{Machine}
use Rattle.bench_lines.specs.Machine.{Goes, Sound, Counted, to_come}
use Rattle.bench_areas.specs.declared.Tail.{Tail}
use Rattle.bench_areas.specs.declared.Tail.TheVariants as tails
use Rattle.bench_areas.specs.Tail.{Room, tail_text}

-- what `Machine::next` ensures, of the piece p
abbrev pub Next : List ℕ → Machine → ℕ → List ℕ → Machine → ℕ → Type 0
Next p m at text m' at' = (rest : List ℕ) → Goes m (drop at p ++ rest) text m' (drop at' p ++ rest)

-- `Machine::last`
abbrev pub Last : Machine → List ℕ → Machine → Type 0
Last m text m' = Goes m [] text m' [] × (Sound m → Counted m [] → m'.held ≡ 0)

-- `bench_areas::close` and `bench_areas::more`
abbrev pub Closed : Machine → List ℕ → Tail → Type 0
Closed m text t = Sound m → Counted m [] → m.held ≡ 0 → Room t × (to_come m [] ≡ text ++ tail_text t m.bench.areas)

abbrev pub More : Machine → Tail → List ℕ → Tail → Type 0
More m t text t' = Room t → Room t' × (tail_text t m.bench.areas ≡ text ++ tail_text t' m.bench.areas)

-- the areas, until nothing is due
pub data Shown (m : Machine) : Tail → List ℕ → Type 0 where
  done : Shown m tails.Over []
  text : (t t' : Tail) (x xs : List ℕ) → More m t x t' → Shown m t' xs → Shown m t (x ++ xs)

-- one piece, from the place `at` on
pub data Fed (p : List ℕ) : Machine → ℕ → List ℕ → Machine → Type 0 where
  used : (m : Machine) (at : ℕ) → length p ≤ at → Fed p m at [] m
  text : (m m' m'' : Machine) (at at' : ℕ) (x xs : List ℕ) → Next p m at x m' at' → Fed p m' at' xs m'' → Fed p m at (x ++ xs) m''

-- the pieces, and the input's end; once it is over, no piece is looked at
pub data Run : Machine → List (List ℕ) → List ℕ → Type 0 where
  over : (m : Machine) (ps : List (List ℕ)) → m.bench.phase ≡ phases.Over → Run m ps []
  ends : (m m' : Machine) (x y z : List ℕ) (t : Tail) → Last m x m' → Closed m' y t → Shown m' t z → Run m [] (x ++ (y ++ z))
  piece : (m m' : Machine) (p : List ℕ) (ps : List (List ℕ)) (x y : List ℕ) → Fed p m 0 x m' → Run m' ps y → Run m (p ∷ ps) (x ++ y)

-- how it starts, whatever the buffers hold
pub record Starts (m : Machine) : Type 0 where
  pub phase : m.bench.phase ≡ phases.Sizes
  pub lines : m.bench.lines ≡ 0
  pub none : m.held ≡ 0
  pub room : length m.line ≡ most_bytes

unfoldable pub joined : List (List ℕ) → List ℕ
joined [] = []
joined (p ∷ ps) = p ++ joined ps

-- the texts are the output of the input, whatever its pieces
abbrev pub Whole : Type 0
Whole = (m : Machine) (ps : List (List ℕ)) (texts : List ℕ) → Starts m → length (joined ps) + 1 < 2 ^ 64 → Run m ps texts → texts ≡ output (joined ps)
