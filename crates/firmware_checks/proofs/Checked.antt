-- Request No. 7 of 02: an image with another sum is never marked. Assumes nothing.
use mathlib.Core.Path.{◌≡◌, refl, ap, sym, ◌∙◌}
use mathlib.Core.Logic.{◌⊎◌, inl, inr, ◌≢◌}
use Prim.Native.Nat.{ℕ}
use lib.ListN.{take}
use borrow.Author.Tests.{eqb-true, not-false}
use Rattle.crc32.specs.Crc.{crc}
use Rattle.geometry.specs.declared.Sizes.{Sizes}
use Rattle.geometry.proofs.Rows.{checked_none}
use Rattle.mem_flash.specs.Flash.{Flash}
use Rattle.rules.specs.Calls.{Answer, Report, reported, Did}
use Rattle.rules.specs.FirmwareUpdater.{wrong_sum, updater_call, updater_mark, updater_mark_updated, check_and_mark_updated}
use Rattle.rules.proofs.Endings.{Ending, refused, done, cut, ending, is_cut, left_refused, checked_rows, same_call}
use Rattle.firmware_checks.specs.Checked.{Agree, Checked}

module _ (z : Sizes) (n sum : ℕ) where
  module _ (f : Flash) where
    -- the rows that hold of no call that is not refused
    passed : (check_and_mark_updated z n sum f).refusal ≡ 0 → crc (take n f.dfu) ≡ sum
    unfolding check_and_mark_updated wrong_sum
    passed e = eqb-true _ _ (not-false _ (checked_none z _ _ _ _ _ e).0)

    module _ (k : ℕ) (f' : Flash) (r : Answer) (d : Did (check_and_mark_updated z n sum f) k f f' r) where
      -- a call that changes a byte is not refused
      changes : Ending (check_and_mark_updated z n sum f) k → f' ≢ f → crc (take n f.dfu) ≡ sum
      changes (refused h) c = absurd (c (d.flash ∙ left_refused (check_and_mark_updated z n sum f) k f h))
      changes (done e l) c = passed e
      changes (cut e l) c = passed e

      is_right : (f' ≢ f) ⊎ ((reported r).number ≡ 7) → crc (take n f.dfu) ≡ sum
      unfolding check_and_mark_updated
      is_right (inl c) = changes (ending _ k) c
      is_right (inr c) = passed (is_cut _ (checked_rows z _ _ _ _ _) k (ending _ k) (sym (ap (λ (t : Report). t.number) d.answer) ∙ c)).0

      marks : (check_and_mark_updated z n sum f).refusal ≡ 0 → Did (updater_mark_updated z f) k f f' r
      unfolding check_and_mark_updated updater_mark_updated updater_mark updater_call
      marks e = same_call _ _ k f f' r e (checked_none z _ _ _ _ _ e).1 refl refl d

  same : (f h : Flash) → Agree n f h → check_and_mark_updated z n sum f ≡ check_and_mark_updated z n sum h
  unfolding check_and_mark_updated wrong_sum
  same f h a = rw (a.state, a.size, a.bytes)

  pub checked : Checked z n sum
  checked = record { only_if = λ k f f' r d c. is_right f k f' r d c; as_mark = λ k f f' r e d. marks f k f' r d e; alike = same }
