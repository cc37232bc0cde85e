-- The same numbers and rows said another way, by how one writes them, without cutting: `Decimal` and `Grammar` in proofs/ show that the
-- two agree. Assumes nothing.
use Rattle.std.specs.Prelude.{◌≡◌, List, [], ◌∷◌, ◌++◌, ℕ, zero, suc, ◌+◌, ◌/◌, ◌%◌, ◌^◌, ◌≤◌, ◌<◌, length}
use Rattle.numerals.specs.Text.{space, most_number}

-- the last k decimal digits of n, the highest first
unfoldable pub spelled : ℕ → ℕ → List ℕ
spelled zero n = []
spelled (suc k) n = spelled k (n / 10) ++ ((48 + n % 10) ∷ [])

-- w is n in decimal, with as many leading zeros as one likes
pub record Written (w : List ℕ) (n : ℕ) : Type 0 where
  pub some : 0 < length w
  pub most : n ≤ most_number
  pub fits : n < 10 ^ length w
  pub text : w ≡ spelled (length w) n

-- numbers with single spaces between
pub data Row : List ℕ → List ℕ → Type 0 where
  one : {w : List ℕ} {n : ℕ} → Written w n → Row w (n ∷ [])
  next : {w l ns : List ℕ} {n : ℕ} → Written w n → Row l ns → Row (w ++ (space ∷ l)) (n ∷ ns)
