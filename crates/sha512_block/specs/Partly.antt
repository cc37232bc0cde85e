-- A part of the schedule, and a part of the rounds, as the code makes them. Assumes nothing.
use Rattle.std.specs.Prelude.{ℕ, ◌+◌, ◌≡◌, List, length, take, drop}
use Rattle.sha512_words.specs.declared.Eight.{Eight}
use Rattle.sha512_block.specs.Constants.{ks}
use Rattle.sha512_block.specs.Rounds.{schedule, rounds}

-- where the first u words of w are those of a block's schedule, the first u + 8 of v are
pub record Extended (u : ℕ) (w v : List ℕ) : Type 0 where
  pub long : length v ≡ 80
  pub more : (b : List ℕ) → take u (schedule b) ≡ take u w → take (u + 8) (schedule b) ≡ take (u + 8) v

-- the rounds from t on
unfoldable pub rounds_from : ℕ → List ℕ → Eight → Eight
rounds_from t ws s = rounds (drop t ks) (drop t ws) s

-- r is s after the rounds from t up to u, with every schedule whose first u words are those of w
unfoldable pub Passed : ℕ → ℕ → List ℕ → Eight → Eight → Type 0
Passed t u w s r = (ws : List ℕ) → length ws ≡ 80 → take u ws ≡ take u w → rounds_from u ws r ≡ rounds_from t ws s
