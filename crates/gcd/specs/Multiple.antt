-- 02, No. 6: the least common multiple, said as what it is and not by how it is found; and what it means to be the greatest common
-- divisor. Assumes nothing.
use Rattle.std.specs.Prelude.{ℕ, zero, suc, ◌+◌, ◌%◌, eqb}
use Rattle.std.specs.Int.{◌∣◌}
use Rattle.state.specs.Choice.{pick}

-- the first of n numbers, m, m + a, m + 2a and so on, that b divides; 0 where none is
unfoldable pub first_divided : ℕ → ℕ → ℕ → ℕ → ℕ
first_divided zero m a b = 0
first_divided (suc n) m a b = pick (eqb (m % b) 0) m (first_divided n (m + a) a b)

-- the first multiple of a that b divides: of a, 2a, .. ba the last is one. 0 where a or b is 0
unfoldable pub least_common : ℕ → ℕ → ℕ
least_common a b = first_divided b a a b

-- d divides a and b, and each number that divides both divides d
pub record Greatest (d a b : ℕ) : Type 0 where
  pub first : d ∣ a
  pub second : d ∣ b
  pub greatest : (e : ℕ) → e ∣ a → e ∣ b → e ∣ d
