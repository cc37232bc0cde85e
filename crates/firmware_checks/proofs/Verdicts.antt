-- Row 8 by the sum that was found. Assumes nothing.
use mathlib.Core.Path.{◌≡◌, ap, sym, ◌∙◌}
use mathlib.Core.Bool.{true, false, not}
use mathlib.Core.List.{List}
use Prim.Native.Nat.{ℕ}
use lib.Dec.{eqb}
use lib.ListN.{take}
use borrow.Author.Tests.{eq-eqb, ne_eqb}
use Rattle.crc32.specs.Crc.{crc}
use Rattle.rules.specs.FirmwareUpdater.{wrong_sum}

-- the sum as it was found
module _ (n : ℕ) (d : List ℕ) {r sum : ℕ} (e : r ≡ crc (take n d)) where
  pub sum_wrong : (r ≡ sum → ⊥) → wrong_sum n sum d ≡ true
  unfolding wrong_sum
  sum_wrong h = ap not (sym (ap (λ (x : ℕ). eqb x sum) e) ∙ ne_eqb r sum h)

  pub sum_right : r ≡ sum → wrong_sum n sum d ≡ false
  unfolding wrong_sum
  sum_right h = ap not (sym (ap (λ (x : ℕ). eqb x sum) e) ∙ eq-eqb r sum h)
