-- What is promised of the search for a byte. Assumes nothing.
use Rattle.std.specs.Prelude.{◌≡◌, List, ℕ, ◌≤◌, ◌<◌, length, get_or}

-- none of the first n bytes is v
abbrev pub Lacks : ℕ → ℕ → List ℕ → Type 0
Lacks v n xs = (k : ℕ) → k < n → get_or xs k 0 ≡ v → ⊥

-- r is where v first stands in xs, or the length where it does not
pub record First (v : ℕ) (xs : List ℕ) (r : ℕ) : Type 0 where
  pub within : r ≤ length xs
  pub before : Lacks v r xs
  pub found : r < length xs → get_or xs r 0 ≡ v
