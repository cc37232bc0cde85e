-- Any two results that a contract of the firmware state allows for one input are equal: answer and area. Assumes nothing.
use mathlib.Core.Path.{refl, sym, ap, ◌∙◌}
use Rattle.state.specs.OneResult.{OneResult}
use Rattle.geometry.specs.declared.StateSizes.{StateSizes}
use Rattle.mem_flash.specs.Flash.{Flash}
use Rattle.rules.proofs.Unique.{unique, answer_unique}
use Rattle.firmware_state.proofs.BlockingFirmwareState.new.Kinds as new_kinds
use Rattle.firmware_state.proofs.BlockingFirmwareState.new.Reads as new
use Rattle.firmware_state.proofs.BlockingFirmwareState.get_state.Kinds as get_state_kinds
use Rattle.firmware_state.proofs.BlockingFirmwareState.get_state.Reads as get_state_reads
use Rattle.firmware_state.proofs.BlockingFirmwareState.mark_updated.Kinds as mark_updated_kinds
use Rattle.firmware_state.proofs.BlockingFirmwareState.mark_updated.Reads as mark_updated
use Rattle.firmware_state.proofs.BlockingFirmwareState.mark_dfu.Kinds as mark_dfu_kinds
use Rattle.firmware_state.proofs.BlockingFirmwareState.mark_dfu.Reads as mark_dfu
use Rattle.firmware_state.proofs.BlockingFirmwareState.mark_booted.Kinds as mark_booted_kinds
use Rattle.firmware_state.proofs.BlockingFirmwareState.mark_booted.Reads as mark_booted_reads

pub new_unique : OneResult new_kinds.ps new_kinds.r new.Post
new_unique κs a x y v w p q = (ap (λ (z : StateSizes). record { sizes = z }) (p ∙ sym q), refl)

pub get_state_unique : OneResult get_state_kinds.ps get_state_kinds.r get_state_reads.Post
get_state_unique κs a x y v w p q = (answer_unique x y (p ∙ sym q), refl)

-- the marks: the answer, and the state area
pub mark_updated_unique : OneResult mark_updated_kinds.ps mark_updated_kinds.r mark_updated.Post
mark_updated_unique κs a x y v w p q =
    let e = unique _ _ _ _ _ x y p q in
    (e.1, ap (λ (f : Flash). (tt, (f.state, (tt, tt)))) e.0)

pub mark_dfu_unique : OneResult mark_dfu_kinds.ps mark_dfu_kinds.r mark_dfu.Post
mark_dfu_unique κs a x y v w p q =
    let e = unique _ _ _ _ _ x y p q in
    (e.1, ap (λ (f : Flash). (tt, (f.state, (tt, tt)))) e.0)

pub mark_booted_unique : OneResult mark_booted_kinds.ps mark_booted_kinds.r mark_booted_reads.Post
mark_booted_unique κs a x y v w p q =
    let e = unique _ _ _ _ _ x y p q in
    (e.1, ap (λ (f : Flash). (tt, (f.state, (tt, tt)))) e.0)
