-- Laws of an erase as a list of operations, one for each unit, for an area that may hold anything in the stretch: counted, whole
-- and cut. Every other file knows an erase by these laws alone. Assumes nothing.
use mathlib.Core.Path.{◌≡◌, refl, sym, ap, ◌∙◌}
use mathlib.Core.List.{List}
use Prim.Native.Nat.{ℕ, zero, suc, ◌+◌, ◌*◌, ◌/◌, ◌≤◌, ◌<◌}
use native.Mathlib.Nat.{zero-mul, suc-mul, mul-le-mul_right, div-mul-le_self, not-suc-le-zero, le_of_suc-le-suc}
use native.Mathlib.Omega.{arith}
use lib.ListN.{length}
use Rattle.state.specs.declared.Cell.{Cell}
use Rattle.mem_flash.specs.Flash.{Area, Flash, erase, erased_at, apply_all, unit_ops, erase_ops, state, blank, after}
use Rattle.mem_flash.specs.Run.{placed}
use Rattle.mem_flash.proofs.Bytes.{erase_none}
use Rattle.mem_flash.proofs.Runs.{erase_placed}
use Rattle.mem_flash.proofs.Stretches.{Beside, beside_erased, erased_add}
use Rattle.mem_flash.proofs.After.{after_first, after_next}

-- ---- units in a row

module _ (c : Cell) where
  module _ (unit : ℕ) (a : Area) where
    units_count : (n from : ℕ) → length (unit_ops c n unit a from) ≡ n
    unfolding unit_ops
    units_count zero from = refl
    units_count (suc n) from = ap suc (units_count n (from + unit))

    -- a unit more at the start of the stretch
    units_next : (n from : ℕ) (xs : List ℕ) (f : Flash)
        → placed a (erased_at c (from + unit) (n * unit) (erased_at c from unit xs)) f ≡ placed a (erased_at c from (suc n * unit) xs) f
    units_next n from xs f =
        let e : unit + n * unit ≡ suc n * unit = omega (arith, suc-mul n unit) in
        ap (λ (l : List ℕ). placed a l f) (erased_add c from unit (n * unit) xs ∙ ap (λ (k : ℕ). erased_at c from k xs) e)

    no_unit : (from : ℕ) (xs : List ℕ) (f : Flash) → placed a xs f ≡ placed a (erased_at c from (0 * unit) xs) f
    no_unit from xs f =
        ap (λ (l : List ℕ). placed a l f) (sym (erase_none c from xs) ∙ ap (λ (k : ℕ). erased_at c from k xs) (sym (zero-mul unit)))

    units_whole : (n from : ℕ) (xs : List ℕ) (f : Flash)
        → apply_all (unit_ops c n unit a from) (placed a xs f) ≡ placed a (erased_at c from (n * unit) xs) f
    unfolding unit_ops apply_all
    units_whole zero from xs f = no_unit from xs f
    units_whole (suc n) from xs f =
        ap (apply_all (unit_ops c n unit a (from + unit))) (erase_placed c a from unit xs f)
        ∙ units_whole n (from + unit) (erased_at c from unit xs) f
        ∙ units_next n from xs f

    -- cut at a unit: those before it are erased, and it is as it was
    units_part : (j n from : ℕ) (xs : List ℕ) (f : Flash) → j < n
        → after j (unit_ops c n unit a from) (placed a xs f) ≡ placed a (erased_at c from (j * unit) xs) f
    unfolding unit_ops
    units_part j zero from xs f h = absurd (not-suc-le-zero h)
    units_part zero (suc n) from xs f h = after_first (unit_ops c (suc n) unit a from) (placed a xs f) ∙ no_unit from xs f
    units_part (suc j) (suc n) from xs f h =
        after_next j (erase c a from unit) (unit_ops c n unit a (from + unit)) (placed a xs f)
        ∙ ap (after j (unit_ops c n unit a (from + unit))) (erase_placed c a from unit xs f)
        ∙ units_part j n (from + unit) (erased_at c from unit xs) f (le_of_suc-le-suc h)
        ∙ units_next j from xs f

-- ---- an erase

-- now is f, but for what the n bytes from `at` on hold in the area a, where base is what f has there
pub record Held (at n : ℕ) (a : Area) (base : List ℕ) (f now : Flash) : Type 0 where
  pub held : List ℕ
  pub same : now ≡ placed a held f
  pub beside : Beside at n base held

module _ (c : Cell) where
  module _ (unit : ℕ) (a : Area) (from n : ℕ) where
    -- it counts an operation for each unit
    pub erase_count : length (erase_ops c unit a from n) ≡ n / unit
    unfolding erase_ops
    erase_count = units_count c unit a (n / unit) from

    -- all its units, and the stretch itself where it is whole units
    pub erase_units : (xs : List ℕ) (f : Flash)
        → apply_all (erase_ops c unit a from n) (placed a xs f) ≡ placed a (erased_at c from (n / unit * unit) xs) f
    unfolding erase_ops
    erase_units xs f = units_whole c unit a (n / unit) from xs f

    pub erase_whole : n / unit * unit ≡ n → (xs : List ℕ) (f : Flash)
        → apply_all (erase_ops c unit a from n) (placed a xs f) ≡ placed a (erased_at c from n xs) f
    erase_whole whole xs f = erase_units xs f ∙ ap (λ (k : ℕ). placed a (erased_at c from k xs) f) whole

    -- cut inside, it has touched nothing but the stretch
    pub erase_held : {base xs : List ℕ} (f : Flash) → from + n ≤ length base → Beside from n base xs → (k : ℕ) → k < n / unit
        → Held from n a base f (after k (erase_ops c unit a from n) (placed a xs f))
    unfolding erase_ops
    erase_held {base} {xs} f fit b k h =
        let few : k ≤ n / unit = omega arith in
        record {
          held = erased_at c from (k * unit) xs;
          same = units_part c unit a k (n / unit) from xs f h;
          beside =
              beside_erased c from (k * unit) (omega arith)
              (omega (arith, mul-le-mul_right unit few, div-mul-le_self n unit)) fit b;
        }

  -- of the state area a cut leaves its first units erased, and every other as it was
  pub state_part : (unit n j : ℕ) (xs : List ℕ) (f : Flash) → j < n / unit
      → after j (erase_ops c unit state 0 n) (placed state xs f) ≡ placed state (blank c (j * unit) xs) f
  unfolding erase_ops erased_at
  state_part unit n j xs f h = units_part c unit state j (n / unit) 0 xs f h
