-- Laws of a boot: what a verdict that admits it says, and the call's answer at each way out. `prepare_boot` cites all but `booted`. Assumes nothing.
use mathlib.Core.Path.{◌≡◌, ap, sym}
use Rattle.std.specs.Prelude.{Ok, Err, Some, IsErrAnd}
use Prim.Native.Nat.{ℕ, ◌-◌}
use lib.ListN.{length}
use Rattle.state.specs.declared.State.{State}
use Rattle.geometry.specs.declared.Geometry.{Geometry}
use Rattle.geometry.specs.declared.Refusal.{Refusal}
use Rattle.geometry.specs.Refusals.{Verdict, boot_refusal, verdict}
use Rattle.geometry.specs.Admitted.{Admitted}
use Rattle.geometry.proofs.Rows.{admitted}
use Rattle.mem_flash.specs.Flash.{Flash}
use Rattle.mem_flash.specs.declared.Budget.{Budget}
use Rattle.mem_flash.specs.Run.{Flow, cut, Ran}
use Rattle.rules.specs.declared.Stop.TheVariants.{Refused, Cut}
use Rattle.rules.specs.StateArea.{read_state}
use Rattle.rules.specs.Calls.{Answer, Call, Did}
use Rattle.rules.specs.Boot.{boot_ops_in, boot_ops, prepare_boot}
use Rattle.rules.proofs.Did.{verdict_admitted, did_stopped, did_cut, did_done}

-- a boot that is not refused, in state s, has run
pub record Booted (g : Geometry) (k : ℕ) (f : Flash) (s : State) (f₁ : Flash) (r : Flow) : Type 0 where
  pub admitted : boot_refusal g (length f.active) (length f.dfu) (length f.state) ≡ 0
  pub found : s ≡ read_state g.state f.state
  pub ran : Ran k (boot_ops g f) f f₁ r

module _ (g : Geometry) (f : Flash) {v : Verdict} (judged : verdict v ≡ boot_refusal g (length f.active) (length f.dfu) (length f.state)) where
  pub boot_refused : {k : ℕ} {w : Refusal} → v ≡ Err w → (a : Answer) → IsErrAnd a (λ s. s ≡ Refused w) → Did (prepare_boot g f) k f f a
  unfolding prepare_boot
  boot_refused {k} o a i = did_stopped (prepare_boot g f) k f v judged o a i

  module _ (o : v ≡ Ok tt) where
    not_refused : boot_refusal g (length f.active) (length f.dfu) (length f.state) ≡ 0
    not_refused = verdict_admitted v _ judged o

    pub boot_admits : Admitted g (length f.active) (length f.dfu) (length f.state)
    boot_admits = admitted g _ _ _ not_refused

    -- what is promised of the answer of any call with these operations is so promised of this call: the form in which `rules::answer` promises.
    -- `prepare_boot` has an arm for each end and doesn't want it; it stands for other crates, which could cite it
    pub booted : {s : State} {k : ℕ} {f₁ : Flash} {r : Flow} {a : Answer} → s ≡ read_state g.state f.state → Ran k (boot_ops_in s g f) f f₁ r
        → ((c : Call) (x y : Flash) → c.refusal ≡ 0 → c.state ≡ Some s → Ran k c.ops x y r → Did c k x y a)
        → Did (prepare_boot g f) k f f₁ a
    unfolding prepare_boot boot_ops
    booted found w h = h (prepare_boot g f) _ _ not_refused (ap Some (sym found)) (rw (← found) w)

    module _ {s : State} (found : s ≡ read_state g.state f.state) where
      pub boot_ran : {k : ℕ} {f₁ : Flash} {r : Flow} → Ran k (boot_ops_in s g f) f f₁ r → Booted g k f s f₁ r
      unfolding boot_ops
      boot_ran w = record { admitted = not_refused; found = found; ran = rw (← found) w }

module _ {g : Geometry} {k : ℕ} {f : Flash} {s : State} {f₁ : Flash} {r : Flow} (w : Booted g k f s f₁ r) where
  pub boot_cut : r ≡ cut → Did (prepare_boot g f) k f f₁ (Err (Cut k))
  unfolding prepare_boot
  boot_cut p = did_cut (prepare_boot g f) k f w.admitted f₁ r w.ran p

  pub boot_found : {l : Budget} → r ≡ Ok l → Did (prepare_boot g f) k f f₁ (Ok (record { state = Some s; count = k - l.0 }))
  unfolding prepare_boot
  boot_found {l} p = did_done (prepare_boot g f) k f w.admitted f₁ r w.ran l p (Some s) (ap Some (sym w.found))
