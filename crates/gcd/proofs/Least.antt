-- `least_common` is a multiple of both numbers, each number that both divide is a multiple of it, and the greatest common divisor
-- leads to it. Assumes nothing.
use mathlib.Core.Path.{◌≡◌, refl, sym, ap, subst, ◌∙◌}
use mathlib.Core.Bool.{Bool, true, false}
use mathlib.Core.Logic.{◌⊎◌, ⊎_elim}
use Prim.Native.Nat.{ℕ, zero, suc, ◌+◌, ◌-◌, ◌*◌, ◌/◌, ◌%◌, ◌^◌, ◌∣◌, ◌≤◌, ◌<◌, max}
use native.Mathlib.Nat.{mod-lt, lt_of_le_of_lt, le_trans, mul-le-mul, div-le_self, eq-or-lt_of_le, le_of_dvd, dvd_refl, dvd-add, dvd-sub, dvd_antisymm, dvd-mod_iff, dvd_of_mod-eq-zero, mod-eq-zero_of_dvd, pos_of_dvd_of_pos, dvd-mul_left, dvd-mul_right}
use native.Mathlib.Nat.{mul_comm, mul_assoc, mul-pos, zero-mul, mul-zero, zero-div, zero-mod, zero-lt-suc, mul-div_cancel', div-mul_cancel, mul-dvd-mul_left, mul-dvd-mul_right, dvd_of_mul-dvd-mul_left, dvd_of_mul-dvd-mul_right, eq-zero_of_zero-dvd, max-eq_left, max-eq_right}
use native.Mathlib.Omega.{arith}
use lib.Dec.{eqb, lit<}
use borrow.Author.Tests.{eqb-true, eqb-false}
use Rattle.state.specs.Choice.{pick}
use Rattle.gcd.specs.Multiple.{first_divided, least_common, Greatest}

-- r is the first multiple of a from m on that b divides
record From (a b m r : ℕ) : Type 0 where
  some : 0 < r
  first : a ∣ r
  second : b ∣ r
  none_before : (q : ℕ) → m ≤ q → a ∣ q → b ∣ q → r ≤ q

module _ (a b : ℕ) (a_some : 0 < a) where
  -- a later multiple of a is later by a or more
  apart : (m q : ℕ) → a ∣ m → a ∣ q → m < q → m + a ≤ q
  apart m q p u h = let step : a ≤ q - m = le_of_dvd (omega arith) (dvd-sub _ u p) in omega arith

  -- where one of the n numbers is divided, the first that is divided is found
  found : (n m j : ℕ) → j < n → b ∣ m + j * a → a ∣ m → 0 < m → From a b m (first_divided n m a b)
  unfolding first_divided pick
  found zero m j h d p s = absurd (omega arith)
  found (suc n) m j h d p s = go (λ i l v u w. found n (m + a) i l v u w) (eqb (m % b) 0) refl
    where
      Later : Type 0
      Later = (i : ℕ) → i < n → b ∣ m + a + i * a → a ∣ m + a → 0 < m + a → From a b (m + a) (first_divided n (m + a) a b)

      undivided : eqb (m % b) 0 ≡ false → b ∣ m → ⊥
      undivided t v = eqb-false (m % b) 0 t (mod-eq-zero_of_dvd _ v)

      behind : eqb (m % b) 0 ≡ false → (q : ℕ) → m ≤ q → b ∣ q → m < q
      behind t q l v = ⊎_elim (λ (e : m ≡ q). absurd (undivided t (subst (λ (x : ℕ). b ∣ x) (sym e) v))) (λ h. h) (eq-or-lt_of_le l)

      next : Later → (i : ℕ) → i ≡ j → eqb (m % b) 0 ≡ false → From a b m (first_divided n (m + a) a b)
      next ih zero e t = absurd (undivided t (subst (λ (x : ℕ). b ∣ x) (ap (λ (i : ℕ). m + i * a) (sym e) ∙ omega arith) d))
      next ih (suc i) e t =
          let at : m + j * a ≡ m + a + i * a = ap (λ (x : ℕ). m + x * a) (sym e) ∙ omega arith in
          let later = ih i (omega arith) (subst (λ (x : ℕ). b ∣ x) at d) (dvd-add _ p (dvd_refl a)) (omega arith) in
          record {
            some = later.some;
            first = later.first;
            second = later.second;
            none_before = λ q l u v. later.none_before q (apart m q p u (behind t q l v)) u v;
          }

      go : Later → (t : Bool) → eqb (m % b) 0 ≡ t → From a b m (pick t m (first_divided n (m + a) a b))
      go ih true t = record { some = s; first = p; second = dvd_of_mod-eq-zero _ (eqb-true (m % b) 0 t); none_before = λ q l u v. l }
      go ih false t = next ih j refl t

-- ---- of two numbers that are not 0

module _ (a b : ℕ) (a_some : 0 < a) (b_some : 0 < b) where
  abbrev L : ℕ
  L = least_common a b

  -- the last of the b multiples is divided
  whole : From a b a L
  unfolding least_common
  whole = found a b a_some b a (b - 1) (omega arith) (subst (λ (x : ℕ). b ∣ x) (last b b_some) (dvd-mul_left b a)) (dvd_refl a) a_some
    where
      last : (n : ℕ) → 0 < n → a * n ≡ a + (n - 1) * a
      last n h = let e : n ≡ suc (n - 1) = omega arith in ap (λ (x : ℕ). a * x) e ∙ mul_comm a (suc (n - 1)) ∙ omega arith

  pub common_some : 0 < L
  common_some = whole.some

  pub common_first : a ∣ L
  common_first = whole.first

  pub common_second : b ∣ L
  common_second = whole.second

  -- each number that both divide is a multiple of it: what is left over would be a smaller one
  pub common_least : (q : ℕ) → a ∣ q → b ∣ q → L ∣ q
  common_least q u v = dvd_of_mod-eq-zero _ (go (q % L) refl)
    where
      first : a ∣ q % L
      first = (dvd-mod_iff _ common_first).1 u

      go : (r : ℕ) → r ≡ q % L → q % L ≡ 0
      go zero e = sym e
      go (suc r) e =
          let some : 0 < q % L = omega (arith, e) in
          let less : L ≤ q % L = whole.none_before (q % L) (le_of_dvd some first) first ((dvd-mod_iff _ common_second).1 v) in
          absurd (omega (arith, mod-lt q common_some))

  -- the product over the greatest common divisor
  pub by_greatest : (d : ℕ) → Greatest d a b → a / d * b ≡ L
  by_greatest d g = dvd_antisymm (dvd_of_mul-dvd-mul_right _ d_some back) (common_least (a / d * b) first (dvd-mul_left b (a / d)))
    where
      d_some : 0 < d
      d_some = pos_of_dvd_of_pos g.first a_some

      -- times d it is the product
      product : a / d * b * d ≡ a * b
      product =
          mul_assoc (a / d) b d
          ∙ ap (λ (x : ℕ). a / d * x) (mul_comm b d)
          ∙ sym (mul_assoc (a / d) d b)
          ∙ ap (λ (x : ℕ). x * b) (div-mul_cancel _ g.first)

      first : a ∣ a / d * b
      first =
          subst (λ (m : ℕ). a ∣ m)
          (ap (λ (x : ℕ). x * (b / d)) (sym (div-mul_cancel _ g.first))
          ∙ mul_assoc (a / d) d (b / d)
          ∙ ap (λ (x : ℕ). a / d * x) (mul-div_cancel' _ g.second))
          (dvd-mul_right a (b / d))

      -- the product over L divides both, and so d
      e : ℕ
      e = a * b / L

      times : L * e ≡ a * b
      times = mul-div_cancel' _ (common_least (a * b) (dvd-mul_right a b) (dvd-mul_left b a))

      e_first : e ∣ a
      e_first =
          dvd_of_mul-dvd-mul_left _ b_some
          (subst (λ (x : ℕ). b * e ∣ x) (times ∙ mul_comm a b) (mul-dvd-mul_right _ common_second e))

      e_second : e ∣ b
      e_second = dvd_of_mul-dvd-mul_left _ a_some (subst (λ (x : ℕ). a * e ∣ x) times (mul-dvd-mul_right _ common_first e))

      back : a / d * b * d ∣ L * d
      back = subst (λ (x : ℕ). x ∣ L * d) (times ∙ sym product) (mul-dvd-mul_left _ L (g.greatest e e_first e_second))

  -- the larger where one divides the other
  pub common_larger : ((a ∣ b) ⊎ (b ∣ a)) → L ≡ max a b
  common_larger =
      ⊎_elim
      (λ h. dvd_antisymm (common_least b h (dvd_refl b)) common_second ∙ sym (max-eq_right (le_of_dvd b_some h)))
      (λ h. dvd_antisymm (common_least a (dvd_refl a) h) common_first ∙ sym (max-eq_left (le_of_dvd a_some h)))

  -- at most the product
  pub common_most : L ≤ a * b
  common_most = le_of_dvd (mul-pos a_some b_some) (common_least (a * b) (dvd-mul_right a b) (dvd-mul_left b a))

-- ---- where a number is 0

pub common_none_left : (b : ℕ) → least_common 0 b ≡ 0
unfolding least_common first_divided pick
common_none_left zero = refl
common_none_left (suc b) = go (eqb (0 % suc b) 0) refl
  where
    go : (t : Bool) → eqb (0 % suc b) 0 ≡ t → pick t 0 (first_divided b 0 0 (suc b)) ≡ 0
    go true e = refl
    go false e = absurd (eqb-false (0 % suc b) 0 e (zero-mod (suc b)))

pub common_none_right : (a : ℕ) → least_common a 0 ≡ 0
unfolding least_common first_divided
common_none_right a = refl

-- ---- whatever the numbers are

pub by_divisor : (d a b : ℕ) → Greatest d a b → a / d * b ≡ least_common a b
by_divisor d zero b g = ap (λ (x : ℕ). x * b) (zero-div d) ∙ zero-mul b ∙ sym (common_none_left b)
by_divisor d (suc a) zero g = mul-zero (suc a / d) ∙ sym (common_none_right (suc a))
by_divisor d (suc a) (suc b) g = by_greatest (suc a) (suc b) (zero-lt-suc a) (zero-lt-suc b) d g

pub no_divisor : (d a b : ℕ) → d ≡ 0 → Greatest d a b → least_common a b ≡ 0
no_divisor d a b e g =
    ap (λ (x : ℕ). least_common x b) (eq-zero_of_zero-dvd (subst (λ (x : ℕ). x ∣ a) e g.first)) ∙ common_none_left b

-- a quotient of a number of 32 bits times another fits 64
pub quotient_times : (a d b : ℕ) → a < 2 ^ 32 → b < 2 ^ 32 → a / d * b < 2 ^ 64
quotient_times a d b p q =
    lt_of_le_of_lt (mul-le-mul {n₂ = 0xFFFF_FFFF} {m₂ = 0xFFFF_FFFF} (le_trans (div-le_self a d) (omega arith)) (omega arith)) (lit< tt)
