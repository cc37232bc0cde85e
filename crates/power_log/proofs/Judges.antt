-- What the judge reads is what a device can have left, both ways. Serves `judge`. Assumes nothing.
use mathlib.Core.Path.{◌≡◌, refl, sym, ap, ap₂, ◌∙◌, subst}
use mathlib.Core.Bool.{Bool, true, false}
use mathlib.Core.List.{List, map}
use Prim.Native.Nat.{ℕ, ◌+◌, ◌*◌, ◌/◌, ◌%◌, ◌≤◌, ◌<◌}
use native.Mathlib.Nat.{div-mul-le_self, mul-le-mul_right}
use native.Mathlib.Decide.{ℕ_discrete}
use native.Mathlib.Omega.{arith}
use lib.ListN.{length}
use Rattle.std.specs.Simd.{first_chunks}
use borrow.Author.Tests.{eq-eqb, ne_eqb, lt-ltb, le-ltb}
use Rattle.state.specs.Choice.{pick}
use Rattle.geometry.specs.declared.Geometry.{Geometry}
use Rattle.geometry.specs.declared.Refusal.{Refusal}
use Rattle.geometry.specs.declared.Refusal.TheVariants.{Range}
use Rattle.geometry.specs.Refusals.{Verdict}
use Rattle.std.specs.Prelude.{Ok, Err}
use Rattle.geometry.specs.Geometry.{page, pages, words}
use Rattle.geometry.specs.Refusals.{number, verdict, boot_refusal, boot_words, first_row, most_length}
use Rattle.geometry.specs.Admitted.{Admitted}
use Rattle.geometry.proofs.Rows.{admitted}
use Rattle.geometry.proofs.Tests.{number_some}
use Rattle.geometry.proofs.PageSize.{page_some}
use Rattle.mem_flash.specs.Flash.{Flash}
use Rattle.rules.specs.Steps.{swap_from, page_count}
use Rattle.rules.specs.Power.{swap_table}
use Rattle.way.proofs.Steps.{Whole, whole_page}
use Rattle.way.proofs.Way.{close_refl}
use Rattle.power.specs.Power.{Marked}
use Rattle.power.proofs.Start.{state_bytes, way_there}
use Rattle.log_steps.specs.Entries.{Entry, entry_of, written, entries}
use Rattle.log_steps.specs.Reader.{reads, Fits}
use Rattle.power_log.specs.declared.LogAnswer.TheVariants.{Yes, No, Refused}
use Rattle.power_log.specs.Log.{joined, InSwap, Start, Makes, answer_number, answer_yes, most_entries, log_refusal, Judged}
use Rattle.power_log.proofs.Budgets.{StepsLeft}
use Rattle.power_log.proofs.Readable.{AllTold, made_read, read_made}
use Rattle.power_log.proofs.StepLogs.{swap_told}
use Rattle.power_log.proofs.Stands.{Stand, start, RunsBy, runs_by, swap_left}
use Rattle.power_log.proofs.Written.{written_length, rows_written, written_once}

-- ---- from a freshly marked flash

module _ (g : Geometry) (f : Flash) (m : Marked g f) where
  abbrev pub N : ℕ
  N = page_count g f

  pub stand_start : Stand g N (state_bytes g f) (swap_table g f) (swap_from N 0) (swap_from N 0) f
  stand_start = record { at = 0; table = f; way = way_there g f m; close = close_refl g (swap_from N 0) f; passed = start }

  ad : Admitted g (length f.active) (length f.dfu) (length f.state)
  ad = admitted g (length f.active) (length f.dfu) (length f.state) m.admitted

  pub start_whole : Whole g
  start_whole = whole_page ad

  pub start_told : AllTold g (swap_from N 0)
  start_told = swap_told g start_whole (page_some ad.numbers) N 0

  -- runs with a step left to each do what their budgets say
  pub from_start : (ks : List ℕ) → StepsLeft g ks (swap_from N 0) → RunsBy g N (state_bytes g f) (swap_table g f) (swap_from N 0) ks f
  from_start ks l = runs_by start_whole N (state_bytes g f) (swap_table g f) ks (swap_from N 0) f m.admitted stand_start l

  -- and runs that start before the swap is finished have one
  pub start_left : (ks : List ℕ) → InSwap g ks f → StepsLeft g ks (swap_from N 0)
  start_left ks i = swap_left start_whole N (state_bytes g f) (swap_table g f) ks (swap_from N 0) f m.admitted stand_start i

  pub start_runs : (ks : List ℕ) → InSwap g ks f → RunsBy g N (state_bytes g f) (swap_table g f) (swap_from N 0) ks f
  start_runs ks i = from_start ks (start_left ks i)

  -- what is read can have been made
  read_makes : (es : List Entry) → reads g (swap_from N 0) es ≡ true → Makes g (written es) f
  read_makes es r =
      let b = read_made g (swap_from N 0) start_told es r in
      let s = from_start b.budgets b.left in
      record { budgets = b.budgets; in_swap = s.in_swap; leaves = ap written (s.log ∙ b.made) }

  -- and what was made is read
  makes_read : (ks : List ℕ) → InSwap g ks f → reads g (swap_from N 0) (map entry_of (joined g ks f)) ≡ true
  makes_read ks i = ap (reads g (swap_from N 0)) (start_runs ks i).log ∙ made_read g ks (swap_from N 0) start_told

-- ---- a log of numbers

-- the entries that its numbers tell
abbrev pub told : List ℕ → List Entry
told log = entries (first_chunks 4 (length log / 4) log)

module _ (g : Geometry) (la ld ls : ℕ) (log : List ℕ) (even : length log % 4 ≡ 0) where
  back : written (told log) ≡ log
  back = rows_written (length log / 4) log (omega (arith, even))

  module _ (f : Flash) (s : Start g la ld ls f) where
    count : pages g la ≡ page_count g f
    unfolding page_count
    count = ap (pages g) (sym s.active)

    pub yes_makes : reads g (swap_from (pages g la) 0) (told log) ≡ true → Makes g log f
    yes_makes r =
        subst (λ (l : List ℕ). Makes g l f) back
        (read_makes g f s.marked (told log) (ap (λ (n : ℕ). reads g (swap_from n 0) (told log)) (sym count) ∙ r))

    pub makes_yes : Makes g log f → reads g (swap_from (pages g la) 0) (told log) ≡ true
    makes_yes k =
        let e : map entry_of (joined g k.budgets f) ≡ told log = written_once _ _ (k.leaves ∙ sym back) in
        ap₂ (λ (n : ℕ) (es : List Entry). reads g (swap_from n 0) es) count (sym e) ∙ makes_read g f s.marked k.budgets k.in_swap

-- a log that is not whole entries is none
uneven_none : {g : Geometry} {log : List ℕ} {f : Flash} → Makes g log f → (length log % 4 ≡ 0 → ⊥) → ⊥
uneven_none {g} {log} {f} k n =
    let e : length log ≡ 4 * length (map entry_of (joined g k.budgets f)) =
    sym (ap length k.leaves) ∙ written_length (map entry_of (joined g k.budgets f)) in
    n (omega (arith, e))

-- ---- the answers

module _ (g : Geometry) (la ld ls : ℕ) (log : List ℕ) where
  abbrev refused : ℕ
  refused = log_refusal g la ld ls (length log)

  -- boot's refusals, and the log's
  refused_boot : (boot_refusal g la ld ls ≡ 0 → ⊥) → boot_refusal g la ld ls ≡ refused
  unfolding log_refusal pick
  refused_boot n = rw (ne_eqb (boot_refusal g la ld ls) 0 n)

  -- so a log that is not refused has sizes that a boot admits
  pub admits : refused ≡ 0 → boot_refusal g la ld ls ≡ 0
  admits z = go (ℕ_discrete (boot_refusal g la ld ls) 0)
    where
      go : Dec (boot_refusal g la ld ls ≡ 0) → boot_refusal g la ld ls ≡ 0
      go (yes e) = e
      go (no n) = refused_boot n ∙ z

  refused_long : boot_refusal g la ld ls ≡ 0 → 262144 < length log → 6 ≡ refused
  unfolding log_refusal pick most_entries first_row number
  refused_long e h = rw (eq-eqb (boot_refusal g la ld ls) 0 e, lt-ltb 262144 (length log) h)

  pub not_refused : boot_refusal g la ld ls ≡ 0 → length log ≤ 262144 → 0 ≡ refused
  unfolding log_refusal pick most_entries first_row
  not_refused e h = rw (eq-eqb (boot_refusal g la ld ls) 0 e, le-ltb 262144 (length log) h)

  -- a refusal by its number, which is not 0
  judged_refused : (why : Refusal) → number why ≡ refused → Judged g la ld ls log (Refused why)
  unfolding answer_number answer_yes
  judged_refused why e =
      record {
        number = e;
        sound = λ z. absurd (omega (arith, z));
        complete = λ z. absurd (omega (arith, z, e, number_some why));
      }

  pub judged_boot : (v : Verdict) (why : Refusal) → verdict v ≡ boot_refusal g la ld ls → v ≡ Err why → Judged g la ld ls log (Refused why)
  unfolding verdict
  judged_boot v why e d =
      let n : number why ≡ boot_refusal g la ld ls = sym (ap verdict d) ∙ e in
      judged_refused why (n ∙ refused_boot (λ z. omega (arith, n, z, number_some why)))

  module _ (v : Verdict) (e : verdict v ≡ boot_refusal g la ld ls) (d : v ≡ Ok tt) where
    pub none : boot_refusal g la ld ls ≡ 0
    unfolding verdict
    none = sym e ∙ ap verdict d

    pub judged_long : 262144 < length log → Judged g la ld ls log (Refused Range)
    unfolding number
    judged_long h = judged_refused Range (refused_long none h)

    module _ (few : length log ≤ 262144) where
      pub judged_uneven : (length log % 4 ≡ 0 → ⊥) → Judged g la ld ls log No
      unfolding answer_number answer_yes
      judged_uneven n =
          record {
            number = not_refused none few;
            sound = λ z. absurd (omega (arith, z));
            complete = λ z f s k. absurd (uneven_none k n);
          }

      module _ (even : length log % 4 ≡ 0) where
        pub judged_yes : reads g (swap_from (pages g la) 0) (told log) ≡ true → Judged g la ld ls log Yes
        unfolding answer_number answer_yes
        judged_yes r =
            record {
              number = not_refused none few;
              sound = λ z f s. yes_makes g la ld ls log even f s r;
              complete = λ z f s k. refl;
            }

        pub judged_no : reads g (swap_from (pages g la) 0) (told log) ≡ false → Judged g la ld ls log No
        unfolding answer_number answer_yes
        judged_no r =
            record {
              number = not_refused none few;
              sound = λ z. absurd (omega (arith, z));
              complete = λ z f s k. let y = makes_yes g la ld ls log even f s k in let x : ◌≡◌ {A = ℕ} 0 1 = cc in absurd (omega arith);
            }

-- what the readers may count on
pub reader_fits : (g : Geometry) (la ld ls : ℕ) {p : ℕ} → boot_refusal g la ld ls ≡ 0 → p ≡ page g → Fits g p (la / p) 0
unfolding pages words boot_words most_length
reader_fits g la ld ls {p} e d =
    let a = admitted g la ld ls e in
    let n : la / page g ≡ la / p = ap (λ (q : ℕ). la / q) (sym d) in
    record {
      page = d;
      numbers = a.numbers;
      images = omega (arith, div-mul-le_self la p, a.dfu_longer, a.dfu_most, d);
      marks =
          let m : 2 + (0 + 2 * (la / p)) ≤ ls / g.state.ws = omega (arith, n, a.state_words) in
          omega (arith, mul-le-mul_right g.state.ws m, div-mul-le_self ls g.state.ws, a.state_most);
    }

-- what they tell, with N as the definitions have it
pub reader_tells : (g : Geometry) (la : ℕ) (log : List ℕ) (rows : List (List ℕ)) {p : ℕ} {r b : Bool} → rows ≡ first_chunks 4 (length log / 4) log
    → p ≡ page g → r ≡ reads g (swap_from (la / p) 0) (entries rows) → r ≡ b → reads g (swap_from (pages g la) 0) (told log) ≡ b
unfolding pages
reader_tells g la log rows c d e q =
    ap₂ (λ (n : ℕ) (l : List (List ℕ)). reads g (swap_from (la / n) 0) (entries l)) (sym d) (sym c) ∙ sym e ∙ q

-- what the judge's sizes are shown by
pub ruleset sizes = (admitted, page_some, none, reader_fits)
