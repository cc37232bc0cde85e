-- What hash answers, and what its output holds then: by the verdict of rows 1 to 6. Assumes nothing.
use mathlib.Core.Path.{◌≡◌, refl, ap, sym, ◌∙◌}
use mathlib.Core.Bool.{true, false}
use mathlib.Core.List.{List, []}
use Prim.Native.Nat.{ℕ, ◌^◌, ◌≤◌, ◌<◌}
use native.Mathlib.Omega.{arith}
use lib.Dec.{eqb}
use lib.ListN.{length, take}
use lib.Seq.{length-take-le}
use borrow.Author.Tests.{eq-eqb, ne_eqb}
use Rattle.std.specs.Prelude.{Ok, Err, None, IsErrAnd}
use Rattle.state.specs.Choice.{pick}
use Rattle.geometry.specs.declared.Sizes.{Sizes}
use Rattle.geometry.specs.declared.Refusal.{Refusal}
use Rattle.geometry.specs.Refusals.{Verdict, number, verdict, updater_refusal, most_length}
use Rattle.geometry.proofs.Rows.{updater_admits}
use Rattle.geometry.proofs.Tests.{number_some}
use Rattle.mem_flash.specs.Run.{flash}
use Rattle.rules.specs.declared.Stop.TheVariants.{Refused}
use Rattle.rules.specs.Calls.{Answer}
use Rattle.rules.specs.FirmwareUpdater.{updater_call}
use Rattle.rules.proofs.Did.{verdict_admitted, did_stopped, did_nothing}
use Rattle.sha512.specs.Sha512.{sha512}
use Rattle.firmware_hash.specs.Hash.{bad_hash, hash_call, hash_out, Hashed}
use Rattle.firmware_hash.proofs.Asked.{asked_in}

-- a refusal's number is not 0
pub refusal_some : (n : ℕ) {v : Verdict} {w : Refusal} → verdict v ≡ n → v ≡ Err w → eqb n 0 ≡ false
unfolding verdict
refusal_some n {v} {w} e o =
    let i : number w ≡ n = sym (ap verdict o) ∙ e in
    ne_eqb n 0 (λ q. omega (arith, number_some w, i, q))

module _ (z : Sizes) (len chunk : ℕ) (out d s : List ℕ) {v : Verdict}
    (e : verdict v ≡ updater_refusal z (length d) (length s) false (bad_hash (length d) len chunk (length out))) where
  pub hash_refused : {w : Refusal} → v ≡ Err w → (r : Answer) → IsErrAnd r (λ x. x ≡ Refused w) → Hashed z len chunk out out (flash [] d s) r
  unfolding hash_call updater_call hash_out pick
  hash_refused {w} o r i =
      let f = flash [] d s in
      let c = hash_call z len chunk (length out) f in
      record { answer = (did_stopped c 0 f v e o r i).answer; digest = rw (refusal_some c.refusal e o) }

  module _ (o : v ≡ Ok tt) where
    admits : updater_refusal z (length d) (length s) false (bad_hash (length d) len chunk (length out)) ≡ 0
    admits = verdict_admitted v _ e o

    -- the bytes asked are there, the pieces are not empty, and the output has its length
    pub asked : (len ≤ length d) × (0 < chunk) × (eqb (length out) 64 ≡ true)
    asked = asked_in _ _ _ _ (updater_admits z (length d) (length s) false _ admits).1

    -- so few that the digest counts them
    pub counted : length (take len d) < 2 ^ 64
    unfolding most_length
    counted =
        let l = length-take-le len d asked.0 in
        let m = (updater_admits z (length d) (length s) false _ admits).0.dfu_most in
        omega (arith, l, m, asked.0)

    pub hash_done : {xs : List ℕ} → xs ≡ sha512 (take len d) → Hashed z len chunk out xs (flash [] d s) (Ok (record { state = None; count = 0 }))
    unfolding hash_call updater_call hash_out pick
    hash_done x =
        let f = flash [] d s in
        record { answer = (did_nothing (hash_call z len chunk (length out) f) 0 f admits None refl refl).answer; digest = rw (eq-eqb _ _ admits, x) }
