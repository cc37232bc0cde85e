-- What the functions over a reader and a writer promise, of the bytes that the reader has left and of those that the writer holds, where
-- they are known. Assumes nothing.
use Rattle.std.specs.Prelude.{◌≡◌, ◌⊎◌, ℕ, ◌<◌, List, length, Some}
use Rattle.std.specs.declared.option.Option.{Option}
use Rattle.std.specs.Io.KnownBytes.{Appends}
use Rattle.bench_lines.specs.declared.Phase.TheVariants as phases
use Rattle.bench_lines.specs.declared.Machine.{Machine}
use Rattle.bench_lines.specs.Machine.{Sound, Counted, Gone}

-- a text was written, with which the machine went from m and the input i to m' and the input i'
pub record Wrote (old new : Option (List ℕ)) (m : Machine) (i : List ℕ) (m' : Machine) (i' : List ℕ) : Type 0 where
  pub text : List ℕ
  pub grew : Appends old new text
  pub gone : Gone m i text m' i'

abbrev pub Writes : Option (List ℕ) → Option (List ℕ) → Machine → List ℕ → Machine → List ℕ → Type 0
Writes old new m i m' i' = Sound m → Counted m i → Wrote old new m i m' i'

-- the reader had xs left, and some of it was read: fewer than n bytes are left, or nothing more is to be read
pub record Turned (left old new : Option (List ℕ)) (n : ℕ) (m : Machine) (xs : List ℕ) (m' : Machine) : Type 0 where
  pub rest : List ℕ
  pub is_left : left ≡ Some rest
  pub wrote : Wrote old new m xs m' rest
  pub nearer : (m'.bench.phase ≡ phases.Over) ⊎ (length rest < n)

-- one turn leaves fewer than there were
abbrev pub Turns : Option (List ℕ) → Option (List ℕ) → Option (List ℕ) → Machine → List ℕ → Machine → Type 0
Turns left old new m xs m' = Sound m → Counted m xs → Turned left old new (length xs) m xs m'
