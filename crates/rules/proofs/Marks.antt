-- A mark touches the state area alone: its contract, which has no image or only DFU, says the same of a flash with any images.
-- Assumes nothing.
use mathlib.Core.Path.{◌≡◌, refl, sym, ap, ◌∙◌}
use mathlib.Core.Bool.{Bool, true, false}
use mathlib.Core.List.{List}
use Prim.Native.Nat.{ℕ}
use lib.Dec.{eqb}
use lib.ListN.{length}
use Rattle.state.specs.Choice.{pick}
use Rattle.state.specs.Magic.{throughout}
use Rattle.geometry.specs.declared.StateSizes.{StateSizes}
use Rattle.mem_flash.specs.Flash.{Flash, Op, after}
use Rattle.mem_flash.specs.Run.{flash}
use Rattle.mem_flash.proofs.StateOnly.{OnState, nothing, writes, on_append, on_erase, after_alone}
use Rattle.rules.specs.Calls.{Answer}
use Rattle.rules.specs.StateArea.{word, valid, invalidate_op, magic_op}
use Rattle.rules.specs.Boot.{renew_ops}
use Rattle.rules.specs.FirmwareState.{set_magic_ops}
use Rattle.rules.specs.Calls.{Call, left, Did}

-- ---- the operations of a mark

picked : (b : Bool) {os ps : List Op} → OnState os → OnState ps → OnState (pick b os ps)
unfolding pick
picked true p q = p
picked false p q = q

on_renew : (z : StateSizes) (n m : ℕ) → OnState (renew_ops z n m)
unfolding renew_ops magic_op
on_renew z n m = on_append (on_erase _ z.es 0 n) (writes nothing)

pub on_mark : (z : StateSizes) (m : ℕ) (st : List ℕ) → OnState (set_magic_ops z m st)
unfolding set_magic_ops invalidate_op
on_mark z m st =
    picked (throughout m (word z 0 st)) nothing
    (on_append (picked (valid z st) (writes nothing) nothing) (on_renew z (length st) m))

-- ---- a call that does them

left_alone : (c : Call) (k : ℕ) → OnState c.ops → (a d b e st : List ℕ)
    → left c k (flash b e st) ≡ flash b e (left c k (flash a d st)).state
unfolding left pick
left_alone c k p a d b e st = go (eqb c.refusal 0)
  where
    go : (t : Bool) → pick t (after k c.ops (flash b e st)) (flash b e st)
        ≡ flash b e (pick t (after k c.ops (flash a d st)) (flash a d st)).state
    go true = after_alone k p a d b e st
    go false = refl

-- with other images b and e
pub did_beside : (c : Call) (k : ℕ) {a d st st' : List ℕ} {r : Answer} (b e : List ℕ) → OnState c.ops
    → Did c k (flash a d st) (flash a d st') r → Did c k (flash b e st) (flash b e st') r
did_beside c k {a} {d} {st} {st'} b e p t =
    record {
      answer = t.answer;
      flash = ap (λ (f : Flash). flash b e f.state) t.flash ∙ sym (left_alone c k p a d b e st);
    }
