-- Any two results that the contract of `mark` allows for one input are equal: whichever call has this verdict, no state and these
-- operations. Assumes nothing.
use mathlib.Core.Path.{refl, ap}
use Rattle.std.specs.Prelude.{None}
use mathlib.Core.List.{[]}
use Rattle.state.specs.OneResult.{OneResult}
use Rattle.state.specs.Magic.{magic}
use Rattle.geometry.specs.Refusals.{verdict}
use Rattle.mem_flash.specs.Flash.{Flash}
use Rattle.rules.specs.Calls.{Call}
use Rattle.rules.specs.FirmwareState.{set_magic_ops}
use Rattle.rules.proofs.Unique.{unique}
use Rattle.firmware_marks.proofs.mark.Kinds as mark_kinds
use Rattle.firmware_marks.proofs.mark.Reads as mark

pub mark_unique : OneResult mark_kinds.ps mark_kinds.r mark.Post
mark_unique κs a x y v w p q =
    let c : Call =
    record {
      refusal = verdict a.1.1.1.0;
      state = None;
      ops = set_magic_ops a.0 (magic a.1.1.0) a.1.0.now;
    } in
    let e = unique c _ _ _ _ x y (p c [] [] refl refl refl) (q c [] [] refl refl refl) in
    (e.1, ap (λ (f : Flash). (tt, (f.state, (tt, (tt, (tt, tt)))))) e.0)
