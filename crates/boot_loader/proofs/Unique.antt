-- Any two results that a contract of the boot loader allows for one input are equal: nothing is left open. Assumes nothing.
use mathlib.Core.Path.{refl, sym, ap, ◌∙◌}
use Rattle.state.specs.OneResult.{OneResult}
use Rattle.geometry.specs.declared.Geometry.{Geometry}
use Rattle.mem_flash.specs.Flash.{Flash}
use Rattle.rules.proofs.Unique.{unique, answer_unique}
use Rattle.boot_loader.proofs.BootLoader.new.Kinds as new_kinds
use Rattle.boot_loader.proofs.BootLoader.new.Reads as new
use Rattle.boot_loader.proofs.BootLoader.prepare_boot.Kinds as prepare_boot_kinds
use Rattle.boot_loader.proofs.BootLoader.prepare_boot.Reads as prepare_boot_reads
use Rattle.boot_loader.proofs.BootLoader.read_state.Kinds as read_state_kinds
use Rattle.boot_loader.proofs.BootLoader.read_state.Reads as read_state_reads

pub new_unique : OneResult new_kinds.ps new_kinds.r new.Post
new_unique κs a x y v w p q = (ap (λ (g : Geometry). record { geometry = g }) (p ∙ sym q), refl)

pub read_state_unique : OneResult read_state_kinds.ps read_state_kinds.r read_state_reads.Post
read_state_unique κs a x y v w p q = (answer_unique x y (p ∙ sym q), refl)

-- the answer, and the three areas
pub prepare_boot_unique : OneResult prepare_boot_kinds.ps prepare_boot_kinds.r prepare_boot_reads.Post
prepare_boot_unique κs a x y v w p q =
    let e = unique _ _ _ _ _ x y p q in
    (e.1, ap (λ (f : Flash). (tt, (f.active, (f.dfu, (f.state, (tt, tt)))))) e.0)
