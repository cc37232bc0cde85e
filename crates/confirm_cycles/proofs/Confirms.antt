-- Request No. 5 of the calls made (specs/Confirmation): from the contracts of mark_booted and of boot_until_whole, and the theorem
-- `confirmed`. One law for both mark_booted calls. Assumes nothing.
use mathlib.Core.Path.{◌≡◌, sym, ap, ◌∙◌, subst}
use mathlib.Core.List.{List}
use Prim.Native.Nat.{ℕ, ◌-◌}
use lib.ListN.{take}
use Rattle.geometry.specs.declared.Geometry.{Geometry}
use Rattle.geometry.specs.declared.StateSizes.{StateSizes}
use Rattle.mem_flash.specs.Flash.{Flash}
use Rattle.rules.specs.StateArea.{read_state}
use Rattle.rules.specs.Calls.{Answer, Report, Call, left, Did}
use Rattle.power.specs.Confirm.{MarkBooted, Confirms}
use Rattle.power.proofs.Confirmed.{confirmed}
use Rattle.power_cycles.specs.declared.Booted.{Booted}
use Rattle.power_cycles.specs.Cycles.{Uncut, Cycles}
use Rattle.power_cycles.proofs.Made.{First, found}
use Rattle.confirm_cycles.specs.Confirmation.{CutShort, Confirmation}

module _ (g : Geometry) (z : StateSizes) (c : Call) (k : ℕ) (ks : List ℕ) (f h f' : Flash) (q : Answer) (b : Booted)
    (confirms_image : z ≡ g.state → MarkBooted g f c) (did : Did c k f h q)
    (cycles : Cycles g ks h f' b.runs b.answer) where
  from_left : Cycles g ks (left c k f) f' b.runs b.answer
  from_left = subst (λ (x : Flash). Cycles g ks x f' b.runs b.answer) did.flash cycles

  kept : CutShort g z k f q → Confirms g f (k - 1) (left c k f)
  kept s =
      confirmed g f s.swapped c (confirms_image s.sizes) k
      (record { cut = sym (ap (λ (t : Report). t.number) did.answer) ∙ s.cut; invalidated = s.invalidated })

  last : Uncut b.answer → First g (take (b.runs - 1) ks) (left c k f) f' b.answer
  last w = found from_left.made w

  pub confirmation : Confirmation g z c k ks f f' q b
  confirmation =
      record {
        marks = did.answer;
        boots = from_left;
        active = λ s. ap (λ (x : Flash). x.active) from_left.made.leaves ∙ (kept s).active _;
        dfu = λ s. ap (λ (x : Flash). x.dfu) from_left.made.leaves ∙ (kept s).dfu _;
        never = λ s e. (kept s).never _ (sym (reads from_left.made.leaves) ∙ e);
        finishes = λ s w none.
            let e = (kept s).finishes _ _ (last w).first none in
            ((last w).told ∙ e.0, (last w).leaves ∙ e.1);
        rests = λ s w some.
            let e = (kept s).rests _ _ (last w).first some in
            ((last w).told ∙ e.answers, (last w).leaves ∙ e.flash);
        settles = λ s w. reads (last w).leaves ∙ (kept s).settles _ _ (last w).first;
      }
    where
      reads : {x y : Flash} → x ≡ y → read_state g.state x.state ≡ read_state g.state y.state
      reads e = ap (λ (x : Flash). read_state g.state x.state) e
