-- write_firmware at the boundary: from the updater's promise to that of the numbers. Assumes nothing.
use mathlib.Core.Path.{◌≡◌, ap, ◌∙◌}
use mathlib.Core.List.{List, []}
use Prim.Native.Nat.{ℕ}
use Rattle.geometry.specs.declared.Sizes.{Sizes}
use Rattle.mem_flash.specs.Run.{flash}
use Rattle.rules.specs.Calls.{Answer, reported}
use Rattle.rules.specs.FirmwareUpdater.{memory}
use Rattle.firmware_updater.specs.declared.BlockingFirmwareUpdater.{BlockingFirmwareUpdater}
use Rattle.firmware_updater.specs.Updated.{last_of, WroteFirmware}
use Rattle.packed.specs.Packed.{packed, sector_of, last_number}
use Rattle.packed.specs.Told.{ToldWrite}
use Rattle.packed.proofs.Packs.{tells}

-- write_firmware, asked with an updater that has the caller's sizes and memory
module _ (n : ℕ) {z : Sizes} {k offset : ℕ} {bytes d s d' : List ℕ} {u u' : BlockingFirmwareUpdater} {a : Answer}
    (as_told : (u.sizes ≡ z) × (last_of u ≡ sector_of n)) (w : WroteFirmware u k offset bytes d s d' u' a) where
  remembers_so : last_of u' ≡ memory k z (sector_of n) offset bytes (flash [] d s)
  remembers_so = rw (as_told.0, as_told.1) at (ap last_of w.updater)

  pub told_write : {n' r : ℕ} → n' ≡ last_number (last_of u') → r ≡ packed (reported a)
      → ToldWrite z k offset bytes n n' (flash [] d s) (flash [] d' s) r
  told_write q p =
      record { told = tells (rw (as_told.0, as_told.1) at w.did) p; remembered = q ∙ ap last_number remembers_so }
