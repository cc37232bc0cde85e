-- Any two results that a contract of the updater allows for one input are equal: answer, areas, output buffer and record. It is said
-- of the calls by value; of the lent ones in firmware_lent. Assumes nothing.
use mathlib.Core.Path.{refl, sym, ap, ap₂, ◌∙◌}
use mathlib.Core.List.{List}
use Prim.Native.Nat.{ℕ}
use Rattle.state.specs.OneResult.{OneResult}
use Rattle.geometry.specs.declared.Sizes.{Sizes}
use Rattle.mem_flash.specs.Flash.{Flash}
use Rattle.rules.specs.Calls.{Answer}
use Rattle.rules.specs.FirmwareUpdater.{Sector}
use Rattle.rules.proofs.Unique.{unique, answer_unique}
use Rattle.firmware_hash.proofs.Unique.{hashed_unique}
use Rattle.firmware_updater.specs.declared.BlockingFirmwareUpdater.{BlockingFirmwareUpdater}
use Rattle.firmware_updater.proofs.BlockingFirmwareUpdater.new.Kinds as new_kinds
use Rattle.firmware_updater.proofs.BlockingFirmwareUpdater.new.Reads as new
use Rattle.firmware_updater.proofs.BlockingFirmwareUpdater.get_state.Kinds as get_state_kinds
use Rattle.firmware_updater.proofs.BlockingFirmwareUpdater.get_state.Reads as get_state_reads
use Rattle.firmware_updater.proofs.BlockingFirmwareUpdater.mark_updated.Kinds as mark_updated_kinds
use Rattle.firmware_updater.proofs.BlockingFirmwareUpdater.mark_updated.Reads as mark_updated
use Rattle.firmware_updater.proofs.BlockingFirmwareUpdater.mark_dfu.Kinds as mark_dfu_kinds
use Rattle.firmware_updater.proofs.BlockingFirmwareUpdater.mark_dfu.Reads as mark_dfu
use Rattle.firmware_updater.proofs.BlockingFirmwareUpdater.mark_booted.Kinds as mark_booted_kinds
use Rattle.firmware_updater.proofs.BlockingFirmwareUpdater.mark_booted.Reads as mark_booted_reads
use Rattle.firmware_updater.proofs.BlockingFirmwareUpdater.check_and_mark_updated.Kinds as check_and_mark_updated_kinds
use Rattle.firmware_updater.proofs.BlockingFirmwareUpdater.check_and_mark_updated.Reads as check_and_mark_updated_reads
use Rattle.firmware_updater.proofs.BlockingFirmwareUpdater.read_dfu.Kinds as read_dfu_kinds
use Rattle.firmware_updater.proofs.BlockingFirmwareUpdater.read_dfu.Reads as read_dfu_reads
use Rattle.firmware_updater.proofs.BlockingFirmwareUpdater.write_firmware.Kinds as write_firmware_kinds
use Rattle.firmware_updater.proofs.BlockingFirmwareUpdater.write_firmware.Reads as write_firmware_reads
use Rattle.firmware_updater.proofs.BlockingFirmwareUpdater.prepare_update.Kinds as prepare_update_kinds
use Rattle.firmware_updater.proofs.BlockingFirmwareUpdater.prepare_update.Reads as prepare_update_reads
use Rattle.firmware_updater.proofs.BlockingFirmwareUpdater.hash.Kinds as hash_kinds
use Rattle.firmware_updater.proofs.BlockingFirmwareUpdater.hash.Reads as hash

pub new_unique : OneResult new_kinds.ps new_kinds.r new.Post
new_unique κs a x y v w p q =
    (ap₂ (λ (z : Sizes) (m : Sector). record { sizes = z; last_erased_dfu_sector_index = m }) (p.0 ∙ sym q.0) (p.1 ∙ sym q.1), refl)

pub get_state_unique : OneResult get_state_kinds.ps get_state_kinds.r get_state_reads.Post
get_state_unique κs a x y v w p q = (answer_unique x y (p ∙ sym q), refl)

-- the marks
pub mark_updated_unique : OneResult mark_updated_kinds.ps mark_updated_kinds.r mark_updated.Post
mark_updated_unique κs a x y v w p q =
    let e = unique _ _ _ _ _ x y p q in
    (e.1, ap (λ (f : Flash). (tt, (tt, (f.state, (tt, tt))))) e.0)

pub check_and_mark_updated_unique : OneResult check_and_mark_updated_kinds.ps check_and_mark_updated_kinds.r check_and_mark_updated_reads.Post
check_and_mark_updated_unique κs a x y v w p q =
    let e = unique _ _ _ _ _ x y p q in
    (e.1, ap (λ (f : Flash). (tt, (tt, (f.state, (tt, (tt, (tt, tt))))))) e.0)

pub mark_dfu_unique : OneResult mark_dfu_kinds.ps mark_dfu_kinds.r mark_dfu.Post
mark_dfu_unique κs a x y v w p q =
    let e = unique _ _ _ _ _ x y p q in
    (e.1, ap (λ (f : Flash). (tt, (tt, (f.state, (tt, tt))))) e.0)

pub mark_booted_unique : OneResult mark_booted_kinds.ps mark_booted_kinds.r mark_booted_reads.Post
mark_booted_unique κs a x y v w p q =
    let e = unique _ _ _ _ _ x y p q in
    (e.1, ap (λ (f : Flash). (tt, (tt, (f.state, (tt, tt))))) e.0)

-- the answer, and what the buffer holds then
pub read_dfu_unique : OneResult read_dfu_kinds.ps read_dfu_kinds.r read_dfu_reads.Post
read_dfu_unique κs a x y v w p q =
    (answer_unique x y (p.0 ∙ sym q.0), ap (λ (out : List ℕ). (tt, (tt, (tt, (tt, (out, tt)))))) (p.1 ∙ sym q.1))

-- the calls that hand the record back
pub write_firmware_unique : OneResult write_firmware_kinds.ps write_firmware_kinds.r write_firmware_reads.Post
write_firmware_unique κs a x y v w p q =
    let e = unique _ _ _ _ _ x.answer y.answer p.did q.did in (
      ap₂ (λ (u : BlockingFirmwareUpdater) (r : Answer). record { updater = u; answer = r }) (p.updater ∙ sym q.updater) e.1,
      ap (λ (f : Flash). (tt, (f.dfu, (tt, (tt, (tt, (tt, tt))))))) e.0,
    )

pub prepare_update_unique : OneResult prepare_update_kinds.ps prepare_update_kinds.r prepare_update_reads.Post
prepare_update_unique κs a x y v w p q =
    let e = unique _ _ _ _ _ x.answer y.answer p.did q.did in (
      ap₂ (λ (u : BlockingFirmwareUpdater) (r : Answer). record { updater = u; answer = r }) (p.updater ∙ sym q.updater) e.1,
      ap (λ (f : Flash). (tt, (f.dfu, (tt, (tt, tt))))) e.0,
    )

-- the answer, and what the output holds then
pub hash_unique : OneResult hash_kinds.ps hash_kinds.r hash.Post
hash_unique κs a x y v w p q = let e = hashed_unique p q in (e.0, ap (λ (out : List ℕ). (tt, (tt, (tt, (tt, (tt, (out, tt))))))) e.1)
