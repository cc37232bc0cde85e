-- Laws of the updater's answers: what each call leaves at each of its ways out. The verdict v and what it decides, the run r and
-- the answer of it are the facts that a proof has at hand there. Assumes nothing.
use mathlib.Core.Path.{◌≡◌, refl, ap}
use mathlib.Core.Bool.{false}
use mathlib.Core.List.{List, []}
use Prim.Native.Nat.{ℕ, ◌+◌, ◌-◌, ◌%◌, ◌≤◌, ◌<◌}
use native.Mathlib.Nat.{sub-zero}
use lib.ListN.{length, take, drop}
use borrow.Author.Tests.{eq-eqb}
use Rattle.std.specs.Prelude.{Ok, Err, None, IsErrAnd}
use Rattle.state.specs.declared.Cell.{Cell}
use Rattle.state.specs.Choice.{pick}
use Rattle.geometry.specs.declared.Sizes.{Sizes}
use Rattle.geometry.specs.declared.Refusal.{Refusal}
use Rattle.geometry.specs.Geometry.{cell}
use Rattle.geometry.specs.Refusals.{Verdict, updater_refusal, verdict}
use Rattle.geometry.proofs.Rows.{updater_admits}
use Rattle.mem_flash.specs.Flash.{dfu, Flash, change, erase_ops}
use Rattle.mem_flash.specs.Run.{Flow, flash, placed, InArea, Ran}
use Rattle.mem_flash.proofs.Runs.{ran}
use Rattle.rules.specs.declared.Stop.TheVariants.{Refused}
use Rattle.rules.specs.Calls.{Answer, Call, reported, report, Did}
use Rattle.rules.specs.FirmwareUpdater.{Sector, pending, past_end, bad_range, pieces, pieces_ops, updater_call, read_dfu, read_out, write_firmware, memory, prepare_update}
use Rattle.rules.proofs.Did.{verdict_admitted, did_stopped, did_nothing}
use Rattle.firmware_pieces.specs.Wrote.{WroteBy}
use Rattle.firmware_pieces.proofs.Ranges.{range_in}
use Rattle.firmware_hash.proofs.Answers.{refusal_some}
use Rattle.firmware_updater.specs.declared.BlockingFirmwareUpdater.{BlockingFirmwareUpdater}
use Rattle.firmware_updater.specs.Updated.{last_of, remembering, WroteFirmware, PreparedUpdate}

-- what `rules::answer` makes of a run: the answer of every call without a state, that is not refused and ran so
abbrev Answered : ℕ → Flow → Answer → Type 0
Answered k r q = (c : Call) (f f' : Flash) → c.refusal ≡ 0 → c.state ≡ None → Ran k c.ops f f' r → Did c k f f' q

-- ---- read_dfu: the answer, and what the buffer `out` holds then

module _ (z : Sizes) (offset : ℕ) (out d s : List ℕ) where
  abbrev Read : List ℕ → Answer → Type 0
  Read xs r = (reported r ≡ report (read_dfu z offset (length out) (flash [] d s)) 0) × (xs ≡ read_out z offset out (flash [] d s))

  module _ {v : Verdict} (e : verdict v ≡ updater_refusal z (length d) (length s) false (past_end (length d) offset (length out))) where
    pub read_refused : {w : Refusal} → v ≡ Err w → (r : Answer) → IsErrAnd r (λ x. x ≡ Refused w) → Read out r
    unfolding read_dfu updater_call read_out pick
    read_refused o r i =
        let c = read_dfu z offset (length out) (flash [] d s) in
        ((did_stopped c 0 (flash [] d s) v e o r i).answer, rw (refusal_some c.refusal e o))

    pub read_done : {xs : List ℕ} → v ≡ Ok tt → xs ≡ take (length out) (drop offset d) → Read xs (Ok (record { state = None; count = 0 }))
    unfolding read_dfu updater_call read_out pick
    read_done o x =
        let p = verdict_admitted v _ e o in
        ((did_nothing (read_dfu z offset (length out) (flash [] d s)) 0 (flash [] d s) p None refl refl).answer, rw (eq-eqb _ _ p) x)

-- ---- write_firmware

module _ (u : BlockingFirmwareUpdater) (d s : List ℕ) (offset : ℕ) (bytes : List ℕ) where
  abbrev call : Call
  call = write_firmware u.sizes (last_of u) offset bytes (flash [] d s)

  module _ {v : Verdict}
      (e : verdict v ≡ updater_refusal u.sizes (length d) (length s) (pending u.sizes.state s) (bad_range u.sizes.wd (length d) offset (length bytes))) where
    pub firmware_refused : {k : ℕ} {w : Refusal} → v ≡ Err w → (r : Answer) → IsErrAnd r (λ x. x ≡ Refused w) → WroteFirmware u k offset bytes d s d u r
    unfolding write_firmware updater_call memory pick
    firmware_refused {k} o r i =
        record { did = did_stopped call k (flash [] d s) v e o r i; updater = rw (refusal_some call.refusal e o) }

    module _ (o : v ≡ Ok tt) where
      passed : call.refusal ≡ 0
      unfolding write_firmware updater_call
      passed = verdict_admitted v _ e o

      pub firmware_room : (0 < u.sizes.ed) × (length d % u.sizes.ed ≡ 0) × (0 < length bytes → offset + length bytes ≤ length d)
      unfolding write_firmware updater_call
      firmware_room =
          let a = updater_admits u.sizes (length d) (length s) _ _ passed in
          (a.0.ed.some, a.0.dfu_units, range_in u.sizes.wd (length d) offset (length bytes) a.1)

      module _ {k : ℕ} {m : Sector} {d₁ : List ℕ} {r : Flow} {c : Cell} (h : c ≡ cell u.sizes.state)
          (w : WroteBy k u.sizes.ed (pieces_ops c u.sizes.ed (last_of u) (pieces u.sizes.ed offset bytes)) (last_of u) m d d₁ r) where
        pub firmware_ran : Ran k call.ops (flash [] d s) (flash [] d₁ s) r
        unfolding write_firmware updater_call
        firmware_ran = rw (← h) (ran _ _ _ _ _ (w.flash [] s))

        remembers_so : remembering u m ≡ remembering u (memory k u.sizes (last_of u) offset bytes (flash [] d s))
        unfolding write_firmware updater_call memory pick
        remembers_so = ap (remembering u) (rw (eq-eqb _ _ passed, ← h) w.memory)

        pub firmware_wrote : {q : Answer} → Answered k r q → WroteFirmware u k offset bytes d s d₁ (remembering u m) q
        unfolding write_firmware updater_call
        firmware_wrote a = record { did = a call _ _ passed refl firmware_ran; updater = remembers_so }

-- ---- prepare_update

module _ (u : BlockingFirmwareUpdater) (d s : List ℕ) where
  module _ {v : Verdict} (e : verdict v ≡ updater_refusal u.sizes (length d) (length s) (pending u.sizes.state s) false) where
    pub update_refused : {k : ℕ} {w : Refusal} → v ≡ Err w → (r : Answer) → IsErrAnd r (λ x. x ≡ Refused w) → PreparedUpdate u k d s d u r
    unfolding prepare_update updater_call
    update_refused {k} o r i =
        record { did = did_stopped (prepare_update u.sizes (flash [] d s)) k (flash [] d s) v e o r i; updater = refl }

  module _ {k : ℕ} {d₁ : List ℕ} {r : Flow} {c : Cell} (h : c ≡ cell u.sizes.state)
      (w : InArea k (λ a. erase_ops c u.sizes.ed a 0 (length d - 0)) d d₁ r) where
    pub update_ran : Ran k (erase_ops (cell u.sizes.state) u.sizes.ed dfu 0 (length d)) (flash [] d s) (flash [] d₁ s) r
    unfolding placed change
    update_ran = ran _ _ _ _ _ (rw (sub-zero (length d), h) at (w dfu (flash [] d s)))

  pub update_erased : {v : Verdict} → verdict v ≡ updater_refusal u.sizes (length d) (length s) (pending u.sizes.state s) false → v ≡ Ok tt
      → {k : ℕ} {d₁ : List ℕ} {r : Flow} {c : Cell} → c ≡ cell u.sizes.state → InArea k (λ a. erase_ops c u.sizes.ed a 0 (length d - 0)) d d₁ r
      → {q : Answer} → Answered k r q → PreparedUpdate u k d s d₁ u q
  unfolding prepare_update updater_call
  update_erased {v} e o h w a =
      record { did = a (prepare_update u.sizes (flash [] d s)) _ _ (verdict_admitted v _ e o) refl (update_ran h w); updater = refl }
