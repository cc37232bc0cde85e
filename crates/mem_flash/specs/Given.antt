-- Bytes that are given one by one, by a rule that says which byte may stand at which place. Assumes nothing.
use Rattle.std.specs.Prelude.{◌≡◌, List, ℕ, ◌<◌, slice_index}

-- what the rule gives at each of the first n places is the byte of the list there
abbrev pub Gives : (ℕ → ℕ → Type 0) → ℕ → List ℕ → Type 0
Gives gives n bs = (i b : ℕ) → i < n → gives i b → b ≡ slice_index bs i
