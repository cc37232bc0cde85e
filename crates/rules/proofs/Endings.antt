-- What a call tells and leaves, by the way it ends: refused, done or cut. Assumes nothing.
use mathlib.Core.Path.{◌≡◌, ap, sym, ◌∙◌, subst}
use mathlib.Core.Bool.{Bool, true, false}
use mathlib.Core.Logic.{◌≢◌}
use Rattle.std.specs.Prelude.{None}
use mathlib.Core.List.{List, [], ◌∷◌}
use Prim.Native.Nat.{ℕ, ◌≤◌, ◌<◌}
use native.Mathlib.Nat.{lt_of_not-le}
use native.Mathlib.Decide.{dec_le}
use native.Mathlib.Omega.{arith}
use lib.ListN.{length}
use borrow.Author.Tests.{eq-eqb, ne_eqb, le-leb, lt-leb}
use Rattle.state.specs.Choice.{pick}
use Rattle.geometry.specs.declared.Geometry.{Geometry}
use Rattle.geometry.specs.declared.Sizes.{Sizes}
use Rattle.geometry.specs.declared.StateSizes.{StateSizes}
use Rattle.geometry.specs.declared.Refusal.{Refusal}
use Rattle.geometry.specs.declared.Refusal.TheVariants.{Limit, Page, Area, StateArea, BadState, Range, Checksum}
use Rattle.geometry.specs.Refusals.{number, Row, row, first_row, boot_refusal, state_refusal, updater_refusal, checked_refusal}
use Rattle.mem_flash.specs.Flash.{Flash, after}
use Rattle.rules.specs.Calls.{Answer}
use Rattle.rules.specs.Calls.{Report, Call, report, left, Did}

-- ---- the three ways a call ends

module _ (c : Call) (k : ℕ) where
  pub report_refused : 0 < c.refusal → report c k ≡ record { number = c.refusal; state = None; count = 0 }
  unfolding report pick
  report_refused h = rw (ne_eqb c.refusal 0 (λ e. omega arith))

  pub report_done : c.refusal ≡ 0 → length c.ops ≤ k
      → report c k ≡ record { number = 0; state = c.state; count = length c.ops }
  unfolding report pick
  report_done e h = rw (eq-eqb c.refusal 0 e, le-leb (length c.ops) k h)

  pub report_cut : c.refusal ≡ 0 → k < length c.ops → report c k ≡ record { number = 7; state = None; count = k }
  unfolding report pick
  report_cut e h = rw (eq-eqb c.refusal 0 e, lt-leb (length c.ops) k h)

  pub left_refused : (f : Flash) → 0 < c.refusal → left c k f ≡ f
  unfolding left pick
  left_refused f h = rw (ne_eqb c.refusal 0 (λ e. omega arith))

  pub left_admitted : (f : Flash) → c.refusal ≡ 0 → left c k f ≡ after k c.ops f
  unfolding left pick
  left_admitted f e = rw (eq-eqb c.refusal 0 e)

pub data Ending (c : Call) (k : ℕ) : Type 0 where
  refused : 0 < c.refusal → Ending c k
  done : c.refusal ≡ 0 → length c.ops ≤ k → Ending c k
  cut : c.refusal ≡ 0 → k < length c.ops → Ending c k

pub ending : (c : Call) (k : ℕ) → Ending c k
ending c k = go (dec_le 1 c.refusal) (dec_le (length c.ops) k)
  where
    go : Dec (1 ≤ c.refusal) → Dec (length c.ops ≤ k) → Ending c k
    go (yes r) d = refused r
    go (no r) (yes l) = done (omega (arith, lt_of_not-le r)) l
    go (no r) (no l) = cut (omega (arith, lt_of_not-le r)) (lt_of_not-le l)

-- ---- the laws

abbrev pub report_number : Report → ℕ
report_number t = t.number

module _ (c : Call) (table : c.refusal ≢ 7) where
  pub is_cut : (k : ℕ) → Ending c k → (report c k).number ≡ 7 → (c.refusal ≡ 0) × (k < length c.ops)
  is_cut k (refused r) e = absurd (table (sym (ap report_number (report_refused c k r)) ∙ e))
  is_cut k (done z l) e = absurd (omega (arith, ap report_number (report_done c k z l)))
  is_cut k (cut z l) e = (z, l)

  pub is_done : (k : ℕ) → Ending c k → (report c k).number ≡ 0 → (c.refusal ≡ 0) × (length c.ops ≤ k)
  is_done k (refused r) e = absurd (omega (arith, ap report_number (report_refused c k r)))
  is_done k (done z l) e = (z, l)
  is_done k (cut z l) e = absurd (omega (arith, ap report_number (report_cut c k z l)))

-- two calls that are not refused, with the same operations and the same state, are one
pub same_call : (c d : Call) (k : ℕ) (f f' : Flash) (r : Answer) → c.refusal ≡ 0 → d.refusal ≡ 0 → c.state ≡ d.state → c.ops ≡ d.ops
    → Did c k f f' r → Did d k f f' r
same_call c d k f f' r x y s o w = subst (λ (e : Call). Did e k f f' r) (λ i. record { refusal = (x ∙ sym y) i; state = s i; ops = o i }) w

-- ---- the calls of the crate: the table of each has no row 7

number_other : (r : Refusal) → number r ≢ 7
unfolding number
number_other Limit e = omega arith
number_other Page e = omega arith
number_other Area e = omega arith
number_other StateArea e = omega arith
number_other BadState e = omega arith
number_other Range e = omega arith
number_other Checksum e = omega arith

rows_other : (rs : List Row) → first_row rs ≢ 7
unfolding first_row pick
rows_other [] e = omega arith
rows_other (row r true ∷ rs) e = number_other r e
rows_other (row r false ∷ rs) e = rows_other rs e

pub boot_rows : (g : Geometry) (la ld ls : ℕ) → boot_refusal g la ld ls ≢ 7
unfolding boot_refusal
boot_rows g la ld ls = rows_other _

pub state_rows : (z : StateSizes) (ls : ℕ) → state_refusal z ls ≢ 7
unfolding state_refusal
state_rows z ls = rows_other _

pub updater_rows_lem : (z : Sizes) (ld ls : ℕ) (swap range : Bool) → updater_refusal z ld ls swap range ≢ 7
unfolding updater_refusal
updater_rows_lem z ld ls swap range = rows_other _

pub checked_rows : (z : Sizes) (ld ls : ℕ) (swap range sum : Bool) → checked_refusal z ld ls swap range sum ≢ 7
unfolding checked_refusal
checked_rows z ld ls swap range sum = rows_other _
