-- Any two results that a contract of this crate allows for one input are equal: answer, memory and DFU. Assumes nothing.
use mathlib.Core.Path.{refl, sym, ap, ap₂, ◌∙◌}
use mathlib.Core.List.{List, []}
use Prim.Native.Nat.{ℕ}
use Rattle.state.specs.OneResult.{OneResult}
use Rattle.geometry.proofs.Unique.{verdict_unique}
use Rattle.mem_flash.specs.Flash.{Flash}
use Rattle.mem_flash.proofs.Unique.{end_unique}
use Rattle.rules.specs.FirmwareUpdater.{Sector}
use Rattle.firmware_pieces.proofs.booted_verdict.Kinds as booted_verdict_kinds
use Rattle.firmware_pieces.proofs.booted_verdict.Reads as booted_verdict
use Rattle.firmware_pieces.proofs.write_verdict.Kinds as write_verdict_kinds
use Rattle.firmware_pieces.proofs.write_verdict.Reads as write_verdict
use Rattle.firmware_pieces.proofs.range.past_end.Kinds as past_end_kinds
use Rattle.firmware_pieces.proofs.range.past_end.Reads as past_end
use Rattle.firmware_pieces.proofs.range.copy_out.Kinds as copy_out_kinds
use Rattle.firmware_pieces.proofs.range.copy_out.Reads as copy_out
use Rattle.firmware_pieces.proofs.pieces.write_pieces.Kinds as write_pieces_kinds
use Rattle.firmware_pieces.proofs.pieces.write_pieces.Reads as write_pieces

pub booted_verdict_unique : OneResult booted_verdict_kinds.ps booted_verdict_kinds.r booted_verdict.Post
booted_verdict_unique κs a x y v w p q = (verdict_unique x y (p ∙ sym q), refl)

pub write_verdict_unique : OneResult write_verdict_kinds.ps write_verdict_kinds.r write_verdict.Post
write_verdict_unique κs a x y v w p q = (verdict_unique x y (p ∙ sym q), refl)

pub past_end_unique : OneResult past_end_kinds.ps past_end_kinds.r past_end.Post
past_end_unique κs a x y v w p q = (p ∙ sym q, refl)

-- what the buffer holds
pub copy_out_unique : OneResult copy_out_kinds.ps copy_out_kinds.r copy_out.Post
copy_out_unique κs a x y v w p q = (refl, ap (λ (xs : List ℕ). (xs, (tt, (tt, tt)))) (p ∙ sym q))

-- whether it goes on, the memory and DFU
pub write_pieces_unique : OneResult write_pieces_kinds.ps write_pieces_kinds.r write_pieces.Post
write_pieces_unique κs a x y v w p q =
    let e = end_unique (p.flash [] []) (q.flash [] []) in (
      e.1,
      ap₂ (λ (f : Flash) (m : Sector). (f.dfu, (tt, (tt, (m, (tt, (tt, (tt, tt)))))))) e.0 (p.memory ∙ sym q.memory),
    )
