-- A log as numbers and as entries: numbers of a length that four divides are entries in one way. Serves the judge. Assumes nothing.
use mathlib.Core.Path.{◌≡◌, refl, ap, ap₂, ◌∙◌}
use mathlib.Core.List.{List, [], ◌∷◌}
use Prim.Native.Nat.{ℕ, zero, suc, ◌*◌}
use native.Mathlib.Omega.{arith}
use lib.ListN.{length}
use Rattle.std.specs.Simd.{first_chunks}
use Rattle.log_steps.specs.Entries.{Entry, entry, written, entries}

pub written_length : (es : List Entry) → length (written es) ≡ 4 * length es
unfolding written
written_length [] = refl
written_length (e ∷ es) = let l = written_length es in omega arith

-- rows of four of a log, written down, are the log
pub rows_written : (n : ℕ) (log : List ℕ) → 4 * n ≡ length log → written (entries (first_chunks 4 n log)) ≡ log
unfolding written entries
rows_written zero [] h = refl
rows_written zero (a ∷ log) h = absurd (omega (arith, h))
rows_written (suc n) (a ∷ b ∷ c ∷ d ∷ log) h = ap (λ (l : List ℕ). a ∷ b ∷ c ∷ d ∷ l) (rows_written n log (omega (arith, h)))
rows_written (suc n) [] h = absurd (omega (arith, h))
rows_written (suc n) (a ∷ []) h = absurd (omega (arith, h))
rows_written (suc n) (a ∷ b ∷ []) h = absurd (omega (arith, h))
rows_written (suc n) (a ∷ b ∷ c ∷ []) h = absurd (omega (arith, h))

-- the same numbers are the same entries
pub written_once : (es fs : List Entry) → written es ≡ written fs → es ≡ fs
unfolding written
written_once [] [] q = refl
written_once [] (y ∷ fs) q = absurd (omega (arith, ap length q))
written_once (x ∷ es) [] q = absurd (omega (arith, ap length q))
written_once (x ∷ es) (y ∷ fs) q =
    let k : x.kind ≡ y.kind = cc in
    let a : x.area ≡ y.area = cc in
    let s : x.start ≡ y.start = cc in
    let n : x.length ≡ y.length = cc in
    let r : written es ≡ written fs = cc in
    ap₂ (λ (e : Entry) (l : List Entry). e ∷ l)
    (ap₂ (λ (i j : ℕ). entry i j x.start x.length) k a ∙ ap₂ (λ (i j : ℕ). entry y.kind y.area i j) s n)
    (written_once es fs r)
