-- Any two answers that the contract of `judge` allows for one log are equal: for every geometry and lengths that a boot admits there is a
-- freshly marked flash, so a yes and a no exclude each other. Assumes nothing.
use mathlib.Core.Path.{◌≡◌, refl, sym, ap, ◌∙◌}
use mathlib.Core.List.{List}
use Prim.Native.Nat.{ℕ, zero, suc, ◌/◌, ◌≤◌}
use native.Mathlib.Nat.{div-mul-le_self, mul-le-mul_right}
use native.Mathlib.Omega.{arith}
use lib.ListN.{length, replicate, length-append, length-replicate}
use Rattle.state.specs.declared.State.TheVariants.{Swap}
use Rattle.state.specs.OneResult.{OneResult}
use Rattle.geometry.specs.declared.Geometry.{Geometry}
use Rattle.geometry.specs.declared.Refusal.{Refusal}
use Rattle.geometry.specs.Geometry.{pages, words}
use Rattle.geometry.specs.Refusals.{boot_refusal, boot_words}
use Rattle.geometry.proofs.Rows.{admitted}
use Rattle.geometry.proofs.Tests.{number_some}
use Rattle.geometry.proofs.Unique.{refusal_of, refusal_back}
use Rattle.mem_flash.specs.Flash.{Flash}
use Rattle.mem_flash.specs.Areas.{Bytes}
use Rattle.rules.specs.Power.{magic_area, Fresh}
use Rattle.power_log.specs.declared.LogAnswer.{LogAnswer}
use Rattle.power_log.specs.declared.LogAnswer.TheVariants.{Yes, No, Refused}
use Rattle.power_log.specs.Log.{Start, answer_number, answer_yes, Judged}
use Rattle.power_log.proofs.Judges.{admits}
use Rattle.power_log.proofs.judge.Kinds as kinds
use Rattle.power_log.proofs.judge.Reads as judge

-- ---- a freshly marked flash of these lengths

zeros : (n : ℕ) → Bytes (replicate n 0)
zeros zero = tt
zeros (suc n) = (omega arith, zeros n)

module _ (g : Geometry) (la ld ls : ℕ) (e : boot_refusal g la ld ls ≡ 0) where
  abbrev plain : Flash
  plain = record { active = replicate la 0; dfu = replicate ld 0; state = magic_area g.state Swap ls }

  plain_active : length plain.active ≡ la
  plain_active = length-replicate la 0

  plain_dfu : length plain.dfu ≡ ld
  plain_dfu = length-replicate ld 0

  plain_state : length (magic_area g.state Swap ls) ≡ ls
  unfolding magic_area pages words boot_words
  plain_state =
      let a = admitted g la ld ls e in
      let one : 1 ≤ ls / g.state.ws = omega (arith, a.state_words) in
      let fits : g.state.ws ≤ ls = omega (arith, mul-le-mul_right g.state.ws one, div-mul-le_self ls g.state.ws) in
      simp (length-append, length-replicate) (omega (arith, fits))

  start : Start g la ld ls plain
  unfolding Fresh
  start =
      record {
        marked =
            record {
              admitted = rw (plain_active, plain_dfu, plain_state) e;
              active_bytes = zeros la;
              dfu_bytes = zeros ld;
              fresh = ap (magic_area g.state Swap) (sym plain_state);
            };
        active = plain_active;
        dfu = plain_dfu;
        state = plain_state;
      }

-- ---- one answer

module _ {g : Geometry} {la ld ls : ℕ} {log : List ℕ} where
  -- where one says yes, so does the other
  both_yes : {x y : LogAnswer} → Judged g la ld ls log x → Judged g la ld ls log y → answer_number x ≡ 0 → answer_yes x ≡ 1 → answer_yes y ≡ 1
  both_yes p q z e =
      let r = sym p.number ∙ z in
      let s = start g la ld ls (admits g la ld ls log r) in
      q.complete r _ s (p.sound e _ s)

  pub judged_unique : (x y : LogAnswer) → Judged g la ld ls log x → Judged g la ld ls log y → x ≡ y
  unfolding answer_number answer_yes
  judged_unique Yes Yes p q = refl
  judged_unique Yes No p q = absurd (omega (arith, both_yes p q refl refl))
  judged_unique Yes (Refused b) p q = absurd (omega (arith, p.number, q.number, number_some b))
  judged_unique No Yes p q = absurd (omega (arith, both_yes q p refl refl))
  judged_unique No No p q = refl
  judged_unique No (Refused b) p q = absurd (omega (arith, p.number, q.number, number_some b))
  judged_unique (Refused a) Yes p q = absurd (omega (arith, p.number, q.number, number_some a))
  judged_unique (Refused a) No p q = absurd (omega (arith, p.number, q.number, number_some a))
  judged_unique (Refused a) (Refused b) p q =
      ap (λ (r : Refusal). Refused r) (sym (refusal_back a) ∙ ap refusal_of (p.number ∙ sym q.number) ∙ refusal_back b)

pub judge_unique : OneResult kinds.ps kinds.r judge.Post
judge_unique κs a x y v w p q = (judged_unique x y p q, refl)
