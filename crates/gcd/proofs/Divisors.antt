-- Euclid's rule as the function `gcd` uses it: the end of it, and a turn. Assumes nothing.
use mathlib.Core.Path.{◌≡◌}
use Prim.Native.Nat.{ℕ, ◌%◌}
use native.Mathlib.Nat.{dvd_refl, dvd-zero, dvd-mod_iff}
use Rattle.gcd.specs.Multiple.{Greatest}

-- 0 is divided by each number
pub greatest_end : (a b : ℕ) → b ≡ 0 → Greatest a a b
greatest_end a b h = rw h (record { first = dvd_refl a; second = dvd-zero a; greatest = λ e p q. p })

-- what divides b divides a just if it divides the remainder
pub greatest_turn : (d a b : ℕ) → Greatest d b (a % b) → Greatest d a b
greatest_turn d a b g =
    record {
      first = (dvd-mod_iff _ g.first).0 g.second;
      second = g.first;
      greatest = λ e p q. g.greatest e q ((dvd-mod_iff _ q).1 p);
    }
