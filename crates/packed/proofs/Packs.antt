-- From the library's promise of an answer to the boundary's promise of its number. Assumes nothing.
use mathlib.Core.Path.{◌≡◌, ap, ◌∙◌}
use mathlib.Core.List.{List}
use Prim.Native.Nat.{ℕ}
use lib.ListN.{length}
use Rattle.geometry.specs.declared.Sizes.{Sizes}
use Rattle.mem_flash.specs.Flash.{Flash}
use Rattle.rules.specs.Calls.{Answer, Report, Call, reported, report, Did}
use Rattle.rules.specs.FirmwareUpdater.{read_dfu, read_out}
use Rattle.packed.specs.Packed.{packed}
use Rattle.packed.specs.Told.{Told, ToldRead}

-- the number of an answer is that of what it tells
pub packs : (a : Answer) {r : ℕ} {t : Report} → r ≡ packed (reported a) → reported a ≡ t → r ≡ packed t
packs a p e = p ∙ ap packed e

-- the same for a call that may change the flash
pub tells : {c : Call} {k : ℕ} {f f' : Flash} {a : Answer} {r : ℕ} → Did c k f f' a → r ≡ packed (reported a) → Told c k f f' r
tells w p = record { answer = packs _ p w.answer; flash = w.flash }

-- read_dfu, which answers and fills a buffer
pub tells_read : (a : Answer) {z : Sizes} {offset : ℕ} {out out' : List ℕ} {f : Flash} {r : ℕ}
    → (reported a ≡ report (read_dfu z offset (length out) f) 0) × (out' ≡ read_out z offset out f) → r ≡ packed (reported a)
    → ToldRead z offset out out' f r
tells_read a w p = record { answer = packs a p w.0; filled = w.1 }
