-- Laws of a mark: the setting of a magic, the operations of a call that marks, and what it leaves where it is cut and where it is done. Assumes nothing.
use mathlib.Core.Path.{◌≡◌, ◌∙◌}
use mathlib.Core.Bool.{true, false}
use mathlib.Core.List.{List, [], ◌∷◌}
use Prim.Native.Nat.{ℕ, ◌-◌}
use lib.ListN.{length}
use Rattle.state.specs.Choice.{pick}
use Rattle.state.specs.Magic.{throughout}
use Rattle.geometry.specs.declared.StateSizes.{StateSizes}
use Rattle.geometry.specs.Refusals.{Verdict, verdict}
use Rattle.std.specs.Prelude.{Ok, Err, None}
use Rattle.mem_flash.specs.declared.Budget.{Budget}
use Rattle.mem_flash.specs.Run.{Flow, cut}
use Rattle.mem_flash.specs.Flash.{Op}
use Rattle.mem_flash.specs.Run.{flash, run, Ran}
use Rattle.mem_flash.proofs.Runs.{then_on, then_cut, ran}
use Rattle.rules.specs.StateArea.{word, valid, invalidate_op}
use Rattle.rules.specs.FirmwareState.{set_magic_ops}
use Rattle.rules.specs.declared.Stop.TheVariants.{Cut}
use Rattle.rules.specs.Calls.{Call, Did}
use Rattle.rules.proofs.Did.{verdict_admitted, did_cut, did_done}
use Rattle.state_area.specs.Area.{InState, Invalidated, Renewed}

-- ---- a magic

module _ (z : StateSizes) (m : ℕ) (st : List ℕ) where
  pub magic_there : (l : Budget) → throughout m (word z 0 st) ≡ true → InState l.0 (set_magic_ops z m st) st st (Ok l)
  unfolding set_magic_ops pick run
  magic_there l e a d = rw e

  module _ (n : throughout m (word z 0 st) ≡ false) where
    pub magic_renew : (k : ℕ) (st₁ : List ℕ) (r : Flow) → valid z st ≡ false → Renewed k z m st st₁ r → InState k (set_magic_ops z m st) st st₁ r
    unfolding set_magic_ops pick
    magic_renew k st₁ r v w a d = rw (n, v) (w a d)

    module _ (k : ℕ) (v : valid z st ≡ true) (st₁ : List ℕ) (r : Flow) (i : Invalidated k z st st₁ r) where
      pub magic_cut : r ≡ cut → InState k (set_magic_ops z m st) st st₁ cut
      unfolding set_magic_ops pick
      magic_cut o a d = rw (n, v) (then_cut k (invalidate_op z ∷ []) _ _ _ r (i a d) o)

      pub magic_on : (l : Budget) (st₂ : List ℕ) (q : Flow) → r ≡ Ok l → length st₁ ≡ length st → Renewed l.0 z m st₁ st₂ q
          → InState k (set_magic_ops z m st) st st₂ q
      unfolding set_magic_ops pick
      magic_on l st₂ q o h w a d = rw (n, v) (then_on k (invalidate_op z ∷ []) _ _ _ r (i a d) l o ∙ (rw h at (w a d)))

-- the operations of a call that marks, from what the setting of the magic did
pub ran_ops : (c : Call) {k : ℕ} {st st₁ : List ℕ} (a d : List ℕ) {ops : List Op} {r : Flow} → c.ops ≡ ops → InState k ops st st₁ r
    → Ran k c.ops (flash a d st) (flash a d st₁) r
ran_ops c a d x w = rw x (ran _ _ _ _ _ (w a d))

-- what such a call leaves
module _ (c : Call) (k : ℕ) (st st₁ a d : List ℕ) (ops : List Op) (r : Flow) (v : Verdict) (e : verdict v ≡ c.refusal) (o : v ≡ Ok tt)
    (s : c.state ≡ None) (x : c.ops ≡ ops) (w : InState k ops st st₁ r) where
  pub mark_cut : r ≡ cut → Did c k (flash a d st) (flash a d st₁) (Err (Cut k))
  mark_cut p = did_cut c k (flash a d st) (verdict_admitted v _ e o) (flash a d st₁) r (ran_ops c a d x w) p

  pub mark_done : (l : Budget) → r ≡ Ok l → Did c k (flash a d st) (flash a d st₁) (Ok (record { state = None; count = k - l.0 }))
  mark_done l p = did_done c k (flash a d st) (verdict_admitted v _ e o) (flash a d st₁) r (ran_ops c a d x w) l p None s
