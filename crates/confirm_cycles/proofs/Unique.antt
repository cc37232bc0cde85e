-- Any two results that a contract of this crate allows for one input are equal: both answers, the count and the areas. Assumes nothing.
use mathlib.Core.Path.{◌≡◌, sym, ap, ap₂, ◌∙◌}
use mathlib.Core.List.{List}
use Prim.Native.Nat.{ℕ}
use denote.RattleType.{RattleType}
use denote.Param.Laws.{Laws}
use mir.Syntax.{Dict}
use Rattle.state.specs.OneResult.{OneResult}
use Rattle.geometry.specs.declared.Geometry.{Geometry}
use Rattle.geometry.specs.declared.StateSizes.{StateSizes}
use Rattle.mem_flash.specs.Flash.{Flash}
use Rattle.rules.specs.Calls.{Answer, Call}
use Rattle.rules.proofs.Unique.{answer_unique}
use Rattle.power_cycles.specs.declared.Booted.{Booted}
use Rattle.power_cycles.proofs.Unique.{cycles_unique}
use Rattle.confirm_cycles.specs.declared.Confirmed.{Confirmed}
use Rattle.confirm_cycles.specs.declared.MarksBooted.{Ghosts}
use Rattle.confirm_cycles.specs.Confirmation.{Confirmation}
use Rattle.confirm_cycles.proofs.confirm_and_boot.Kinds as confirm_and_boot_kinds
use Rattle.confirm_cycles.proofs.confirm_and_boot.Reads as confirm_and_boot
use Rattle.confirm_cycles.proofs.mark_and_boot.Kinds as mark_and_boot_kinds
use Rattle.confirm_cycles.proofs.mark_and_boot.Reads as mark_and_boot
use Rattle.confirm_cycles.proofs.updater_confirm_and_boot.Kinds as updater_confirm_and_boot_kinds
use Rattle.confirm_cycles.proofs.updater_confirm_and_boot.Reads as updater_confirm_and_boot

confirmed_unique : {g : Geometry} {z : StateSizes} {c : Call} {k : ℕ} {ks : List ℕ} {f f₁ f₂ : Flash} (x y : Confirmed)
    → Confirmation g z c k ks f f₁ x.marked x.booted → Confirmation g z c k ks f f₂ y.marked y.booted → (x ≡ y) × (f₁ ≡ f₂)
confirmed_unique x y p q =
    let e = cycles_unique p.boots q.boots in
    let b : x.booted ≡ y.booted = ap₂ (λ (m : ℕ) (r : Answer). record { runs = m; answer = r }) e.0 e.2 in (
      ap₂ (λ (r : Answer) (d : Booted). record { marked = r; booted = d })
          (answer_unique x.marked y.marked (p.marks ∙ sym q.marks)) b,
      e.1,
    )

-- at any type M, whatever its mark_booted is
pub mark_and_boot_unique : (M : RattleType) (laws : Laws M) (ghosts : Ghosts M.Denot) (code : Dict)
    → OneResult (mark_and_boot_kinds.ps M laws) (mark_and_boot_kinds.r M laws) (mark_and_boot.Post M laws ghosts code)
mark_and_boot_unique M laws ghosts code κs a x y v w p q =
    let e = confirmed_unique x y p q in
    (e.0, ap (λ (f : Flash). (tt, (tt, (f.active, (f.dfu, (f.state, (tt, (tt, tt)))))))) e.1)

pub confirm_and_boot_unique : OneResult confirm_and_boot_kinds.ps confirm_and_boot_kinds.r confirm_and_boot.Post
confirm_and_boot_unique κs a x y v w p q =
    let e = confirmed_unique x y p q in
    (e.0, ap (λ (f : Flash). (tt, (tt, (f.active, (f.dfu, (f.state, (tt, (tt, tt)))))))) e.1)

pub updater_confirm_and_boot_unique : OneResult updater_confirm_and_boot_kinds.ps updater_confirm_and_boot_kinds.r updater_confirm_and_boot.Post
updater_confirm_and_boot_unique κs a x y v w p q =
    let e = confirmed_unique x y p q in
    (e.0, ap (λ (f : Flash). (tt, (tt, (f.active, (f.dfu, (f.state, (tt, (tt, tt)))))))) e.1)
