-- The flash after each whole step, as one table for all 4N + 1 stages: c pages of active and d of DFU are the old ones, and n
-- marks are done. The steps of the swap and of the revert lead from table to table. Serves `power`; the lists of steps also
-- `every_count` and `settles`. Assumes nothing.
use mathlib.Core.Path.{◌≡◌, refl, sym, ap, ap₂, ◌∙◌, subst}
use mathlib.Core.List.{List, [], ◌∷◌}
use Prim.Native.Nat.{ℕ, zero, suc, ◌+◌, ◌-◌, ◌*◌, ◌/◌, ◌%◌, ◌≤◌, ◌<◌}
use native.Mathlib.Nat.{suc-mul, mul-le-mul_right, mul-div_cancel}
use native.Mathlib.Omega.{arith}
use lib.ListN.{length, take, drop, replicate}
use Rattle.state.specs.declared.Cell.{Cell}
use Rattle.state.specs.Cells.{erased, marked}
use Rattle.geometry.specs.declared.Geometry.{Geometry}
use Rattle.geometry.specs.Geometry.{cell, page, pages}
use Rattle.mem_flash.specs.Flash.{active, dfu, Flash, written_at, change}
use Rattle.mem_flash.specs.Run.{placed}
use Rattle.mem_flash.specs.Areas.{Bytes, area_of, Image}
use Rattle.mem_flash.proofs.Stretches.{bytes_take, bytes_drop, bytes_append}
use Rattle.mem_flash.proofs.Areas.{flash_path}
use Rattle.rules.specs.Steps.{Copy, to_dfu, to_active, swap_from, revert_from, source_of, page_count}
use Rattle.rules.specs.Power.{page_at, with_page, step_to}
pub use Rattle.rules.proofs.Numbered.{swap_count, revert_count}
use Rattle.rules.proofs.Pages.{mix, pages_le, length_mix, page_mix_left, page_mix_right, mix_up, mix_down}
use Rattle.rules.proofs.Spread.{spread, length_spread}
use Rattle.rules.proofs.MarkedArea.{mark_words, length_marks, reads_swap, marks_valid, progress_marks, confirming_counted, mark_next}
use Rattle.way.proofs.Steps.{stepped}
use Rattle.way.proofs.Costs.{even_dfu, odd_active}
use Rattle.way.proofs.Way.{Reads, Leg, Way}

-- ---- the lists of steps, counted by one

pub swap_steps_lem : (k i : ℕ) → swap_from (suc k) i ≡ to_dfu i k (suc k) ∷ to_active (suc i) k k ∷ swap_from k (suc (suc i))
unfolding swap_from
swap_steps_lem k i =
    let a : k + 1 ≡ suc k = omega arith in
    let b : i + 1 ≡ suc i = omega arith in
    let c : i + 2 ≡ suc (suc i) = omega arith in
    rw (a, b, c)

pub revert_steps_lem : (j k i : ℕ)
    → revert_from (suc j) k i ≡ to_dfu i k k ∷ to_active (suc i) (suc k) k ∷ revert_from j (suc k) (suc (suc i))
unfolding revert_from
revert_steps_lem j k i =
    let a : k + 1 ≡ suc k = omega arith in
    let b : i + 1 ≡ suc i = omega arith in
    let c : i + 2 ≡ suc (suc i) = omega arith in
    rw (a, b, c)

-- steps on the images, numbered from i on
abbrev pub StepRow : ℕ → List Copy → Type 0
StepRow i [] = Unit {0}
StepRow i (c ∷ cs) = Image c.to × (c.mark ≡ i) × StepRow (suc i) cs

pub swap_row : (k i : ℕ) → StepRow i (swap_from k i)
unfolding swap_from to_dfu to_active
swap_row zero i = tt
swap_row (suc k) i =
    (tt, refl, (tt, omega arith, subst (λ (n : ℕ). StepRow n (swap_from k (i + 2))) (omega arith) (swap_row k (i + 2))))

pub revert_row : (j k i : ℕ) → StepRow i (revert_from j k i)
unfolding revert_from to_dfu to_active
revert_row zero k i = tt
revert_row (suc j) k i =
    (tt, refl, (tt, omega arith, subst (λ (n : ℕ). StepRow n (revert_from j (k + 1) (i + 2))) (omega arith) (revert_row j (k + 1) (i + 2))))

-- ---- the table

bytes_mix : (p m : ℕ) (xs ys : List ℕ) → Bytes xs → Bytes ys → Bytes (mix p m xs ys)
unfolding mix
bytes_mix p m xs ys hx hy = bytes_append (take (m * p) xs) (drop (m * p) ys) (bytes_take (m * p) xs hx) (bytes_drop (m * p) ys hy)

-- old images A and D, and what a swap makes of them, in N pages of p
pub record Images (p N : ℕ) (A D A' D' : List ℕ) : Type 0 where
  pub some : 0 < p
  pub active : length A ≡ N * p
  pub dfu : N * p + p ≤ length D
  pub active_same : length A' ≡ length A
  pub dfu_same : length D' ≡ length D
  pub active_bytes : Bytes A
  pub dfu_bytes : Bytes D
  pub active_bytes' : Bytes A'
  pub dfu_bytes' : Bytes D'
  pub active_page : (k : ℕ) → k < N → page_at p k A' ≡ page_at p k D
  pub dfu_page : (k : ℕ) → k < N → page_at p (suc k) D' ≡ page_at p k A

-- c pages of active and d of DFU are old, the others new; n marks of t are done
unfoldable pub stage_table : Geometry → List ℕ → List ℕ → List ℕ → List ℕ → ℕ → ℕ → ℕ → ℕ → Flash
stage_table g A D A' D' t c d n =
    record {
      active = mix (page g) c A A';
      dfu = mix (page g) d D D';
      state = spread g.state.ws (mark_words (cell g.state) (erased (cell g.state)) n (t - n));
    }

mark_more : (c : Cell) (w v n t : ℕ) → n < t
    → written_at c ((2 + n) * w) (replicate w (marked c)) (spread w (mark_words c v n (t - n))) ≡ spread w (mark_words c v (suc n) (t - suc n))
mark_more c w v n t h =
    let e : t - n ≡ suc (t - suc n) = omega arith in
    ap (λ (r : ℕ). written_at c ((2 + n) * w) (replicate w (marked c)) (spread w (mark_words c v n r))) e ∙ mark_next c w v n (t - suc n)

module _ (g : Geometry) (N t : ℕ) (A D A' D' : List ℕ) (ws : 0 < g.state.ws) (im : Images (page g) N A D A' D') where
  abbrev P : ℕ
  P = page g

  abbrev cells : Cell
  cells = cell g.state

  abbrev at : ℕ → ℕ → ℕ → Flash
  at = stage_table g A D A' D' t

  active_length : (c : ℕ) → c ≤ N → length (mix P c A A') ≡ N * P
  active_length c h = length_mix P c A A' im.active_same (omega (arith, mul-le-mul_right P h, im.active)) ∙ im.active

  dfu_length : (d : ℕ) → d ≤ suc N → length (mix P d D D') ≡ length D
  dfu_length d h = length_mix P d D D' im.dfu_same (omega (arith, mul-le-mul_right P h, suc-mul N P, im.dfu))

  pub table_reads : (c d n : ℕ) → c ≤ N → n < t → Reads g N ((2 + t) * g.state.ws) n (at c d n)
  unfolding stage_table page_count pages
  table_reads c d n hc h =
      let all : length (mark_words cells (erased cells) n (t - n)) ≡ 2 + t = omega (arith, length_marks cells (erased cells) n (t - n)) in
      record {
        swap = reads_swap g.state ws (erased cells) n (t - n) (omega arith);
        paged = ap (λ (l : ℕ). l / P) (active_length c hc) ∙ mul-div_cancel N im.some;
        sized = length_spread g.state.ws (mark_words cells (erased cells) n (t - n)) ∙ ap (λ (l : ℕ). l * g.state.ws) all;
        done = progress_marks g.state ws n (t - n) (omega arith);
        settled = confirming_counted g.state N _ (marks_valid g.state ws n (t - n) (omega arith));
      }

  -- a step to DFU: page k from active page s, with c pages of active and d of DFU old, moves d to d'
  leg_dfu : (c d d' s k n : ℕ) → c ≤ N → d ≤ suc N → s < N → k * P + P ≤ length D → n < t → dfu ≡ step_to n
      → with_page P k (page_at P s (mix P c A A')) (mix P d D D') ≡ mix P d' D D'
      → Leg g N ((2 + t) * g.state.ws) n (to_dfu n s k) (at c d n) (at c d' (suc n))
  unfolding stage_table to_dfu stepped placed change source_of area_of
  leg_dfu c d d' s k n hc hd hs fit hn to e =
      record {
        reads = table_reads c d n hc hn;
        number = refl;
        target = to;
        fits =
            record {
              image = tt;
              bytes = bytes_mix P c A A' im.active_bytes im.active_bytes';
              inside_source = rw (active_length c hc) (pages_le P hs);
              inside_target = rw (dfu_length d hd) fit;
            };
        leads = flash_path refl e (mark_more cells g.state.ws (erased cells) n t hn);
      }

  -- a step to active: page k from DFU page s moves c to c'
  leg_active : (c c' d s k n : ℕ) → c ≤ N → d ≤ suc N → s * P + P ≤ length D → k < N → n < t → active ≡ step_to n
      → with_page P k (page_at P s (mix P d D D')) (mix P c A A') ≡ mix P c' A A'
      → Leg g N ((2 + t) * g.state.ws) n (to_active n s k) (at c d n) (at c' d (suc n))
  unfolding stage_table to_active stepped placed change source_of area_of
  leg_active c c' d s k n hc hd fit hk hn to e =
      record {
        reads = table_reads c d n hc hn;
        number = refl;
        target = to;
        fits =
            record {
              image = tt;
              bytes = bytes_mix P d D D' im.dfu_bytes im.dfu_bytes';
              inside_source = rw (dfu_length d hd) fit;
              inside_target = rw (active_length c hc) (pages_le P hk);
            };
        leads = flash_path e refl (mark_more cells g.state.ws (erased cells) n t hn);
      }

  module _ (k : ℕ) (h : k < N) (n : ℕ) (hn : n < t) where
    inside_active : k * P + P ≤ length A
    inside_active = omega (arith, pages_le P h, im.active)

    inside_dfu : suc k * P + P ≤ length D
    inside_dfu = omega (arith, pages_le P h, im.dfu)

    swap_dfu : dfu ≡ step_to n → Leg g N ((2 + t) * g.state.ws) n (to_dfu n k (suc k)) (at (suc k) (suc (suc k)) n) (at (suc k) (suc k) (suc n))
    swap_dfu to =
        leg_dfu (suc k) (suc (suc k)) (suc k) k (suc k) n h (omega arith) h inside_dfu hn to
        (ap (λ (v : List ℕ). with_page P (suc k) v (mix P (suc (suc k)) D D'))
        (page_mix_left P (suc k) A A' im.active_same (omega (arith, inside_active)) k (omega arith) ∙ sym (im.dfu_page k h))
        ∙ mix_down P (suc k) D D' inside_dfu)

    swap_active : active ≡ step_to n → Leg g N ((2 + t) * g.state.ws) n (to_active n k k) (at (suc k) (suc k) n) (at k (suc k) (suc n))
    swap_active to =
        leg_active (suc k) k (suc k) k k n h (omega arith) (omega (arith, inside_dfu)) h hn to
        (ap (λ (v : List ℕ). with_page P k v (mix P (suc k) A A'))
        (page_mix_left P (suc k) D D' im.dfu_same (omega (arith, inside_dfu)) k (omega arith) ∙ sym (im.active_page k h))
        ∙ mix_down P k A A' inside_active)

    revert_dfu : dfu ≡ step_to n → Leg g N ((2 + t) * g.state.ws) n (to_dfu n k k) (at k k n) (at k (suc k) (suc n))
    revert_dfu to =
        leg_dfu k k (suc k) k k n (omega arith) (omega arith) h (omega (arith, inside_dfu)) hn to
        (ap (λ (v : List ℕ). with_page P k v (mix P k D D'))
        (page_mix_right P k A A' im.active_same (omega (arith, inside_active)) k (omega arith) ∙ im.active_page k h)
        ∙ mix_up P k D D' (omega (arith, inside_dfu)))

    revert_active : active ≡ step_to n → Leg g N ((2 + t) * g.state.ws) n (to_active n (suc k) k) (at k (suc k) n) (at (suc k) (suc k) (suc n))
    revert_active to =
        leg_active k (suc k) (suc k) (suc k) k n (omega arith) (omega arith) inside_dfu h hn to
        (ap (λ (v : List ℕ). with_page P k v (mix P k A A'))
        (page_mix_right P (suc k) D D' im.dfu_same (omega (arith, inside_dfu)) (suc k) (omega arith) ∙ im.dfu_page k h)
        ∙ mix_up P k A A' inside_active)

  -- the whole swap, from page k - 1 down
  pub swap_way : (k n z : ℕ) → n % 2 ≡ 0 → k ≤ N → n + 2 * k ≡ z → z < t
      → Way g N ((2 + t) * g.state.ws) n (at k (suc k) n) (swap_from k n) (at 0 1 z)
  unfolding swap_from
  swap_way zero n z ev hk e hz = (table_reads 0 1 n hk (omega arith), ap (λ (i : ℕ). at 0 1 i) (omega arith))
  swap_way (suc k) n z ev hk e hz =
      let rest = swap_way k (suc (suc n)) z (omega arith) (omega arith) (omega arith) hz in
      subst (λ (cs : List Copy). Way g N ((2 + t) * g.state.ws) n (at (suc k) (suc (suc k)) n) cs (at 0 1 z)) (sym (swap_steps_lem k n)) (
        at (suc k) (suc k) (suc n),
        swap_dfu k hk n (omega arith) (sym (even_dfu n ev)),
        (at k (suc k) (suc (suc n)), swap_active k hk (suc n) (omega arith) (odd_active n ev), rest),
      )

  -- the whole revert, from page k up
  pub revert_way : (j k n z : ℕ) → n % 2 ≡ 0 → k + j ≡ N → n + 2 * j ≡ z → z < t
      → Way g N ((2 + t) * g.state.ws) n (at k k n) (revert_from j k n) (at N N z)
  unfolding revert_from
  revert_way zero k n z ev hk e hz =
      let a : k ≡ N = omega arith in
      let b : n ≡ z = omega arith in
      (table_reads k k n (omega arith) (omega arith), ap₂ (λ (i m : ℕ). at i i m) a b)
  revert_way (suc j) k n z ev hk e hz =
      let rest = revert_way j (suc k) (suc (suc n)) z (omega arith) (omega arith) (omega arith) hz in
      subst (λ (cs : List Copy). Way g N ((2 + t) * g.state.ws) n (at k k n) cs (at N N z)) (sym (revert_steps_lem j k n)) (
        at k (suc k) (suc n),
        revert_dfu k (omega arith) n (omega arith) (sym (even_dfu n ev)),
        (at (suc k) (suc k) (suc (suc n)), revert_active k (omega arith) (suc n) (omega arith) (odd_active n ev), rest),
      )
