-- Laws of the updater's verdicts: a refusal that is handed on, and row 6 behind rows 1 to 5. Assumes nothing.
use mathlib.Core.Path.{◌≡◌, refl, ap, ◌∙◌, sym}
use mathlib.Core.Bool.{Bool, true, false, not}
use mathlib.Core.List.{List, [], ◌∷◌, ◌++◌, append_assoc}
use Prim.Native.Nat.{ℕ, ◌<◌}
use native.Mathlib.Omega.{arith}
use Rattle.std.specs.Prelude.{Ok, Err, IsErrAnd}
use Rattle.std.proofs.lemmas.Result.{err_from_is_err_and}
use Rattle.geometry.specs.declared.Sizes.{Sizes}
use Rattle.geometry.specs.declared.Refusal.{Refusal}
use Rattle.geometry.specs.declared.Refusal.TheVariants.{BadState, Range}
use Rattle.geometry.specs.Refusals.{Verdict, verdict, number, Row, row, first_row, updater_rows, updater_refusal}
use Rattle.geometry.proofs.Tests.{number_some, row_here, row_past, row_end, rows_early, rows_late}

-- a refusal that a question mark hands on stands, if no row that comes before it is judged later
pub handed_on : {v : Verdict} {w : Refusal} {n m : ℕ} → verdict v ≡ n → v ≡ Err w → (r : Verdict) → IsErrAnd r (λ s. s ≡ w)
    → (0 < n → n ≡ m) → verdict r ≡ m
unfolding verdict
handed_on {v} {w} {n} e o r i stands =
    let p = err_from_is_err_and r i in
    let h : number w ≡ n = sym (ap verdict o) ∙ e in
    let some : 0 < n = omega (arith, number_some w, h) in
    rw (p.1, p.2) (h ∙ stands some)

-- a test that was found, from the one that the code makes
pub inverse : (b : Bool) {found : Bool} → found ≡ not b → b ≡ not found
inverse true e = sym (ap not e)
inverse false e = sym (ap not e)

-- row 6 behind rows 1 to 5
module _ (z : Sizes) (ld ls : ℕ) (swap range : Bool) where
  abbrev asked : List Row
  asked = updater_rows z ld ls ++ (row BadState swap ∷ [])

  apart : (b : Bool) → updater_refusal z ld ls swap b ≡ first_row (asked ++ (row Range b ∷ []))
  unfolding updater_refusal
  apart b = ap first_row (sym (append_assoc (updater_rows z ld ls) (row BadState swap ∷ []) (row Range b ∷ [])))

  -- one of rows 1 to 5 holds: it is given
  pub booted_early : (n : ℕ) → 0 < n → n ≡ updater_refusal z ld ls swap false → n ≡ updater_refusal z ld ls swap range
  booted_early n h e =
      let a : n ≡ first_row (asked ++ (row Range false ∷ [])) = e ∙ apart false in
      a ∙ rows_early asked _ _ (row_past _ _ refl ∙ row_end) (omega arith) ∙ sym (apart range)

  -- none of them holds: row 6 decides
  module _ (e : updater_refusal z ld ls swap false ≡ 0) where
    behind : updater_refusal z ld ls swap range ≡ first_row (row Range range ∷ [])
    behind = apart range ∙ rows_late asked _ _ (sym (apart false) ∙ e)

    pub booted_range : range ≡ true → verdict (Err Range) ≡ updater_refusal z ld ls swap range
    unfolding verdict
    booted_range h = sym (behind ∙ row_here _ _ h)

    pub booted_passed : range ≡ false → verdict (Ok tt) ≡ updater_refusal z ld ls swap range
    unfolding verdict
    booted_passed h = sym (behind ∙ row_past _ _ h ∙ row_end)
