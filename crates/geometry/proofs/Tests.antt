-- Laws of lists of tests and of rows, and of the small tests in them: what a list that fails says of each, which row is given,
-- and the facts behind a test. Assumes nothing.
use mathlib.Core.Path.{◌≡◌, refl}
use mathlib.Core.Bool.{Bool, true, false}
use mathlib.Core.List.{List, [], ◌∷◌, ◌++◌}
use Prim.Native.Nat.{ℕ, ◌*◌, ◌/◌, ◌%◌, ◌≤◌, ◌<◌}
use native.Mathlib.Nat.{div-add-mod'}
use native.Mathlib.Omega.{arith}
use lib.Dec.{lit<}
use borrow.Author.Tests.{ltb-false, eqb-false, eqb-true, not-false}
use Rattle.state.specs.Choice.{pick}
use Rattle.geometry.specs.declared.Refusal.{Refusal}
use Rattle.geometry.specs.declared.Refusal.TheVariants.{Limit, Page, Area, StateArea, BadState, Range, Checksum}
use Rattle.geometry.specs.Refusals.{any, number, Row, row, first_row, most_number, most_length, bad_number, too_long, uneven}
use Rattle.geometry.specs.Admitted.{Number}

pub any_first : (b : Bool) (bs : List Bool) → b ≡ true → any (b ∷ bs) ≡ true
unfolding any pick
any_first b bs e = rw e

pub any_later : (b : Bool) (bs : List Bool) → b ≡ false → any (b ∷ bs) ≡ any bs
unfolding any pick
any_later b bs e = rw e

pub any_one : (b : Bool) → any (b ∷ []) ≡ b
unfolding any pick
any_one true = refl
any_one false = refl

-- no test of a list holds
pub any_none : (b : Bool) (bs : List Bool) → any (b ∷ bs) ≡ false → (b ≡ false) × (any bs ≡ false)
unfolding any pick
any_none true bs e = let z : ◌≡◌ {A = ℕ} 0 1 = cc in absurd (omega arith)
any_none false bs e = (refl, e)

-- ---- rows

-- a refusal's number is not that of an admitted call
pub number_some : (w : Refusal) → 0 < number w
unfolding number
number_some Limit = lit< tt
number_some Page = lit< tt
number_some Area = lit< tt
number_some StateArea = lit< tt
number_some BadState = lit< tt
number_some Range = lit< tt
number_some Checksum = lit< tt

-- no row holds
pub row_none : (w : Refusal) (b : Bool) (rs : List Row) → first_row (row w b ∷ rs) ≡ 0 → (b ≡ false) × (first_row rs ≡ 0)
unfolding first_row pick
row_none w true rs e = absurd (omega (arith, number_some w))
row_none w false rs e = (refl, e)

pub row_here : (w : Refusal) {b : Bool} (rs : List Row) → b ≡ true → first_row (row w b ∷ rs) ≡ number w
unfolding first_row pick
row_here w rs e = rw e

pub row_past : (w : Refusal) {b : Bool} (rs : List Row) → b ≡ false → first_row (row w b ∷ rs) ≡ first_row rs
unfolding first_row pick
row_past w rs e = rw e

pub row_end : first_row [] ≡ 0
unfolding first_row
row_end = refl

-- where one of the first rows holds, the later ones do not count
pub rows_early : (rs ss ts : List Row) → first_row ss ≡ 0 → 0 < first_row (rs ++ ss) → first_row (rs ++ ss) ≡ first_row (rs ++ ts)
unfolding first_row pick
rows_early [] ss ts e h = absurd (omega arith)
rows_early (row w true ∷ rs) ss ts e h = refl
rows_early (row w false ∷ rs) ss ts e h = rows_early rs ss ts e h

-- where none of them holds, the later ones decide
pub rows_late : (rs ss ts : List Row) → first_row (rs ++ ss) ≡ 0 → first_row (rs ++ ts) ≡ first_row ts
unfolding first_row pick
rows_late [] ss ts e = refl
rows_late (row w true ∷ rs) ss ts e = absurd (omega (arith, number_some w))
rows_late (row w false ∷ rs) ss ts e = rows_late rs ss ts e

-- ---- sizes

-- the facts behind a test that fails
pub number_in : {n : ℕ} → bad_number n ≡ false → Number n
unfolding bad_number most_number
number_in {n} e =
    let t = any_none _ _ e in
    record { some = omega (arith, eqb-false n 0 t.0); most = ltb-false _ _ (any_none _ _ t.1).0 }

pub length_in : (n : ℕ) → too_long n ≡ false → n ≤ most_length
unfolding too_long most_length
length_in n e = ltb-false _ _ e

pub even : (n m : ℕ) → uneven n m ≡ false → n % m ≡ 0
unfolding uneven
even n m e = eqb-true _ _ (not-false _ e)

-- a multiple is its quotient times the divisor
pub even_times : (n m : ℕ) → n % m ≡ 0 → n / m * m ≡ n
even_times n m e = omega (arith, div-add-mod' n m)
