-- Laws of src/range.rt: row 6 for a write. Assumes nothing.
use mathlib.Core.Path.{◌≡◌, ◌∙◌, sym}
use mathlib.Core.Bool.{false}
use mathlib.Core.List.{List, [], ◌∷◌}
use Prim.Native.Nat.{ℕ, ◌+◌, ◌≤◌, ◌<◌}
use native.Mathlib.Omega.{arith}
use lib.ListN.{length, take, drop, get_or, length-drop}
use borrow.Author.Tests.{ltb-false, ne_eqb}
use Rattle.std.proofs.lemmas.List.{length-take, get_or-drop, get_or-take}
use Rattle.std.proofs.lemmas.Grind.{same_number_lists}
use Rattle.state.specs.Choice.{pick}
use Rattle.geometry.specs.Refusals.{any, uneven}
use Rattle.geometry.proofs.Tests.{any_none}
use Rattle.rules.specs.FirmwareUpdater.{past_end, bad_range}

module _ (wd ld offset n : ℕ) where
  tests : (n ≡ 0 → ⊥) → bad_range wd ld offset n ≡ any (uneven offset wd ∷ uneven n wd ∷ past_end ld offset n ∷ [])
  unfolding bad_range pick
  tests some = rw (ne_eqb _ _ some)

  -- data that is not empty and not out of range lies in DFU
  pub range_in : bad_range wd ld offset n ≡ false → 0 < n → offset + n ≤ ld
  unfolding past_end
  range_in e h =
      let t = sym (tests (λ z. omega (arith, z))) ∙ e in
      let a = any_none _ _ t in
      let b = any_none _ _ a.1 in
      let c = any_none _ _ b.1 in
      ltb-false _ _ c.0

-- ---- read_dfu's copy

pub copied : (from : ℕ) (xs src : List ℕ) → from + length xs ≤ length src
    → ((j : ℕ) → j < length xs → get_or xs j 0 ≡ get_or src (from + j) 0) → xs ≡ take (length xs) (drop from src)
copied from xs src h e =
    same_number_lists xs (take (length xs) (drop from src))
    (omega (arith, length-take (length xs) (drop from src), length-drop from src))
    (λ j l. e j l ∙ sym (get_or-drop from src j 0) ∙ sym (get_or-take (length xs) (drop from src) j 0 l))
