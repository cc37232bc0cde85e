-- Any two results that a contract of firmware_lent allows for one input are equal: the answer, and all that is left behind the `&mut`s, the
-- record too (`.._unique`). And which facts the clauses are that Rattle generates of each contract (`.._reads`). Assumes nothing.
use mathlib.Core.Path.{◌≡◌, refl, sym, ap, ap₂, ◌∙◌}
use mathlib.Core.List.{List, []}
use Prim.Native.Nat.{ℕ}
use lib.ListN.{length}
use seplogic.Ra.Ura.{Ura}
use base.Logic.{SProp, sep}
use prog.Memory.{Memory}
use prog.Routine.{Routine}
use types.Logic.{Logic}
use contract.Lifetimes.{Lfts}
use contract.Monad.{Fun, fact}
use denote.Triple.Entry.{Args}
use denote.Triple.Clauses.{Lasts, at_exit}
use Rattle.state.specs.OneResult.{OneResult}
use Rattle.mem_flash.specs.Flash.{Flash}
use Rattle.mem_flash.specs.Run.{flash}
use Rattle.rules.specs.Calls.{Answer, Call, reported, report}
use Rattle.rules.specs.FirmwareUpdater.{updater_get_state, updater_mark_updated, updater_mark_dfu, updater_mark_booted, check_and_mark_updated, read_dfu, read_out}
use Rattle.rules.proofs.Unique.{unique, answer_unique}
use Rattle.firmware_hash.specs.Hash.{Hashed}
use Rattle.firmware_hash.proofs.Unique.{hashed_unique}
use Rattle.firmware_updater.specs.declared.BlockingFirmwareUpdater.{BlockingFirmwareUpdater as Updater}
use Rattle.firmware_updater.specs.Updated.{Marked, WroteFirmware, PreparedUpdate}
use Rattle.firmware_lent.specs.contracts.get_state_in as get_state_in
use Rattle.firmware_lent.proofs.get_state_in.Kinds as get_state_in_kinds
use Rattle.firmware_lent.proofs.get_state_in.Reads as get_state_in_contract
use Rattle.firmware_lent.specs.contracts.read_dfu_in as read_dfu_in
use Rattle.firmware_lent.proofs.read_dfu_in.Kinds as read_dfu_in_kinds
use Rattle.firmware_lent.proofs.read_dfu_in.Reads as read_dfu_in_contract
use Rattle.firmware_lent.specs.contracts.mark_updated_in as mark_updated_in
use Rattle.firmware_lent.proofs.mark_updated_in.Kinds as mark_updated_in_kinds
use Rattle.firmware_lent.proofs.mark_updated_in.Reads as mark_updated_in_contract
use Rattle.firmware_lent.specs.contracts.check_and_mark_updated_in as check_and_mark_updated_in
use Rattle.firmware_lent.proofs.check_and_mark_updated_in.Kinds as check_and_mark_updated_in_kinds
use Rattle.firmware_lent.proofs.check_and_mark_updated_in.Reads as check_and_mark_updated_in_contract
use Rattle.firmware_lent.specs.contracts.mark_dfu_in as mark_dfu_in
use Rattle.firmware_lent.proofs.mark_dfu_in.Kinds as mark_dfu_in_kinds
use Rattle.firmware_lent.proofs.mark_dfu_in.Reads as mark_dfu_in_contract
use Rattle.firmware_lent.specs.contracts.mark_booted_in as mark_booted_in
use Rattle.firmware_lent.proofs.mark_booted_in.Kinds as mark_booted_in_kinds
use Rattle.firmware_lent.proofs.mark_booted_in.Reads as mark_booted_in_contract
use Rattle.firmware_lent.specs.contracts.write_firmware_in as write_firmware_in
use Rattle.firmware_lent.proofs.write_firmware_in.Kinds as write_firmware_in_kinds
use Rattle.firmware_lent.proofs.write_firmware_in.Reads as write_firmware_in_contract
use Rattle.firmware_lent.specs.contracts.prepare_update_in as prepare_update_in
use Rattle.firmware_lent.proofs.prepare_update_in.Kinds as prepare_update_in_kinds
use Rattle.firmware_lent.proofs.prepare_update_in.Reads as prepare_update_in_contract
use Rattle.firmware_lent.specs.contracts.hash_in as hash_in
use Rattle.firmware_lent.proofs.hash_in.Kinds as hash_in_kinds
use Rattle.firmware_lent.proofs.hash_in.Reads as hash_in_contract

-- ---- one result

pub get_state_in_unique : OneResult get_state_in_kinds.ps get_state_in_kinds.r get_state_in_contract.Post
get_state_in_unique κs a x y v w p q = (answer_unique x y (p.0 ∙ sym q.0), ap (λ (u : Updater). (u, (tt, (tt, tt)))) (p.1 ∙ sym q.1))

pub read_dfu_in_unique : OneResult read_dfu_in_kinds.ps read_dfu_in_kinds.r read_dfu_in_contract.Post
read_dfu_in_unique κs a x y v w p q = (
  answer_unique x y (p.0 ∙ sym q.0),
  ap₂ (λ (u : Updater) (out : List ℕ). (u, (tt, (tt, (tt, (out, tt)))))) (p.1.1 ∙ sym q.1.1) (p.1.0 ∙ sym q.1.0),
)

-- the marks: each leaves the record as it was, and does one call on the state area
mark_unique : (call : Flash → Call) (k : ℕ) (d s : List ℕ) {s₁ s₂ : List ℕ} (u : Updater) {u₁ u₂ : Updater} {x y : Answer}
    → Marked call k d s s₁ x × (u₁ ≡ u) → Marked call k d s s₂ y × (u₂ ≡ u) → (x ≡ y) × (u₁ ≡ u₂) × (s₁ ≡ s₂)
mark_unique call k d s u p q =
    let e = unique (call (flash [] d s)) k (flash [] d s) _ _ _ _ p.0 q.0 in
    (e.1, p.1 ∙ sym q.1, ap (λ (f : Flash). f.state) e.0)

pub mark_updated_in_unique : OneResult mark_updated_in_kinds.ps mark_updated_in_kinds.r mark_updated_in_contract.Post
mark_updated_in_unique κs a x y v w p q =
    let e = mark_unique (updater_mark_updated a.0.now.sizes) _ _ _ _ p q in
    (e.0, ap₂ (λ (u : Updater) (s : List ℕ). (u, (tt, (s, (tt, tt))))) e.1 e.2)

pub check_and_mark_updated_in_unique : OneResult check_and_mark_updated_in_kinds.ps check_and_mark_updated_in_kinds.r check_and_mark_updated_in_contract.Post
check_and_mark_updated_in_unique κs a x y v w p q =
    let e = mark_unique (check_and_mark_updated a.0.now.sizes a.1.1.1.0 a.1.1.1.1.0) _ _ _ _ p q in
    (e.0, ap₂ (λ (u : Updater) (s : List ℕ). (u, (tt, (s, (tt, (tt, (tt, tt))))))) e.1 e.2)

pub mark_dfu_in_unique : OneResult mark_dfu_in_kinds.ps mark_dfu_in_kinds.r mark_dfu_in_contract.Post
mark_dfu_in_unique κs a x y v w p q =
    let e = mark_unique (updater_mark_dfu a.0.now.sizes) _ _ _ _ p q in
    (e.0, ap₂ (λ (u : Updater) (s : List ℕ). (u, (tt, (s, (tt, tt))))) e.1 e.2)

pub mark_booted_in_unique : OneResult mark_booted_in_kinds.ps mark_booted_in_kinds.r mark_booted_in_contract.Post
mark_booted_in_unique κs a x y v w p q =
    let e = mark_unique (updater_mark_booted a.0.now.sizes) _ _ _ _ p q in
    (e.0, ap₂ (λ (u : Updater) (s : List ℕ). (u, (tt, (s, (tt, tt))))) e.1 e.2)

-- the calls that store the record
pub write_firmware_in_unique : OneResult write_firmware_in_kinds.ps write_firmware_in_kinds.r write_firmware_in_contract.Post
write_firmware_in_unique κs a x y v w p q =
    let e = unique _ _ _ _ _ x y p.did q.did in
    (e.1, ap₂ (λ (u : Updater) (f : Flash). (u, (f.dfu, (tt, (tt, (tt, (tt, tt))))))) (p.updater ∙ sym q.updater) e.0)

pub prepare_update_in_unique : OneResult prepare_update_in_kinds.ps prepare_update_in_kinds.r prepare_update_in_contract.Post
prepare_update_in_unique κs a x y v w p q =
    let e = unique _ _ _ _ _ x y p.did q.did in
    (e.1, ap₂ (λ (u : Updater) (f : Flash). (u, (f.dfu, (tt, (tt, tt))))) (p.updater ∙ sym q.updater) e.0)

pub hash_in_unique : OneResult hash_in_kinds.ps hash_in_kinds.r hash_in_contract.Post
hash_in_unique κs a x y v w p q =
    let e = hashed_unique p.0 q.0 in
    (e.0, ap₂ (λ (u : Updater) (out : List ℕ). (u, (tt, (tt, (tt, (tt, (out, tt))))))) (p.1 ∙ sym q.1) e.1)

-- ---- the generated clauses

module _ {M : Type 1} {𝓤 : Ura M} (𝓛 : Logic 𝓤) (mem : Memory → SProp 𝓤) (run : Routine → Fun 𝓤) where
  abbrev both : Type 0 → SProp 𝓤 → SProp 𝓤
  both A P = sep 𝓤 (fact 𝓤 A) P

  pub get_state_in_reads : (κs : Lfts 3) (a : Args get_state_in.signature κs) (r : Answer) (v : Lasts get_state_in.ended κs a)
      → (get_state_in.clauses 𝓛 mem run κs a).ensures tt r (at_exit get_state_in.ended κs a v)
      ≡ both (reported r ≡ report (updater_get_state a.0.now.sizes (flash [] a.1.0.now a.1.1.0.now)) 0) (fact 𝓤 (v.0 ≡ a.0.now))
  get_state_in_reads κs a r v = refl

  pub read_dfu_in_reads : (κs : Lfts 4) (a : Args read_dfu_in.signature κs) (r : Answer) (v : Lasts read_dfu_in.ended κs a)
      → (read_dfu_in.clauses 𝓛 mem run κs a).ensures tt r (at_exit read_dfu_in.ended κs a v)
      ≡ both (reported r ≡ report (read_dfu a.0.now.sizes a.1.1.1.0.0 (length a.1.1.1.1.0.now) (flash [] a.1.0.now a.1.1.0.now)) 0)
      (both (v.1.1.1.1.0 ≡ read_out a.0.now.sizes a.1.1.1.0.0 a.1.1.1.1.0.now (flash [] a.1.0.now a.1.1.0.now)) (fact 𝓤 (v.0 ≡ a.0.now)))
  read_dfu_in_reads κs a r v = refl

  pub mark_updated_in_reads : (κs : Lfts 3) (a : Args mark_updated_in.signature κs) (r : Answer) (v : Lasts mark_updated_in.ended κs a)
      → (mark_updated_in.clauses 𝓛 mem run κs a).ensures tt r (at_exit mark_updated_in.ended κs a v)
      ≡ both (Marked (updater_mark_updated a.0.now.sizes) a.1.1.1.0 a.1.0.now a.1.1.0.now v.1.1.0 r) (fact 𝓤 (v.0 ≡ a.0.now))
  mark_updated_in_reads κs a r v = refl

  pub check_and_mark_updated_in_reads : (κs : Lfts 3) (a : Args check_and_mark_updated_in.signature κs) (r : Answer) (v : Lasts check_and_mark_updated_in.ended κs a)
      → (check_and_mark_updated_in.clauses 𝓛 mem run κs a).ensures tt r (at_exit check_and_mark_updated_in.ended κs a v)
      ≡ both (Marked (check_and_mark_updated a.0.now.sizes a.1.1.1.0 a.1.1.1.1.0) a.1.1.1.1.1.0 a.1.0.now a.1.1.0.now v.1.1.0 r) (fact 𝓤 (v.0 ≡ a.0.now))
  check_and_mark_updated_in_reads κs a r v = refl

  pub mark_dfu_in_reads : (κs : Lfts 3) (a : Args mark_dfu_in.signature κs) (r : Answer) (v : Lasts mark_dfu_in.ended κs a)
      → (mark_dfu_in.clauses 𝓛 mem run κs a).ensures tt r (at_exit mark_dfu_in.ended κs a v)
      ≡ both (Marked (updater_mark_dfu a.0.now.sizes) a.1.1.1.0 a.1.0.now a.1.1.0.now v.1.1.0 r) (fact 𝓤 (v.0 ≡ a.0.now))
  mark_dfu_in_reads κs a r v = refl

  pub mark_booted_in_reads : (κs : Lfts 3) (a : Args mark_booted_in.signature κs) (r : Answer) (v : Lasts mark_booted_in.ended κs a)
      → (mark_booted_in.clauses 𝓛 mem run κs a).ensures tt r (at_exit mark_booted_in.ended κs a v)
      ≡ both (Marked (updater_mark_booted a.0.now.sizes) a.1.1.1.0 a.1.0.now a.1.1.0.now v.1.1.0 r) (fact 𝓤 (v.0 ≡ a.0.now))
  mark_booted_in_reads κs a r v = refl

  pub write_firmware_in_reads : (κs : Lfts 4) (a : Args write_firmware_in.signature κs) (r : Answer) (v : Lasts write_firmware_in.ended κs a)
      → (write_firmware_in.clauses 𝓛 mem run κs a).ensures tt r (at_exit write_firmware_in.ended κs a v)
      ≡ fact 𝓤 (WroteFirmware a.0.now a.1.1.1.1.1.0 a.1.1.1.0.0 a.1.1.1.1.0.now a.1.0.now a.1.1.0.now v.1.0 v.0 r)
  write_firmware_in_reads κs a r v = refl

  pub prepare_update_in_reads : (κs : Lfts 3) (a : Args prepare_update_in.signature κs) (r : Answer) (v : Lasts prepare_update_in.ended κs a)
      → (prepare_update_in.clauses 𝓛 mem run κs a).ensures tt r (at_exit prepare_update_in.ended κs a v)
      ≡ fact 𝓤 (PreparedUpdate a.0.now a.1.1.1.0 a.1.0.now a.1.1.0.now v.1.0 v.0 r)
  prepare_update_in_reads κs a r v = refl

  pub hash_in_reads : (κs : Lfts 4) (a : Args hash_in.signature κs) (r : Answer) (v : Lasts hash_in.ended κs a)
      → (hash_in.clauses 𝓛 mem run κs a).ensures tt r (at_exit hash_in.ended κs a v)
      ≡ both (Hashed a.0.now.sizes a.1.1.1.0 a.1.1.1.1.0 a.1.1.1.1.1.0.now v.1.1.1.1.1.0 (flash [] a.1.0.now a.1.1.0.now) r) (fact 𝓤 (v.0 ≡ a.0.now))
  hash_in_reads κs a r v = refl
