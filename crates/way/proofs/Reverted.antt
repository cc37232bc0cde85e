-- The revert, cut anywhere, and the operations that end it: invalidate, erase the state area unit by unit, write the magic. What
-- one run leaves, from a flash where steps are left, or the marks are void, or units of the state area are erased. Serves `power`.
-- Assumes nothing.
use mathlib.Core.Path.{◌≡◌, refl, sym, ap, ap₂, ◌∙◌, subst}
use mathlib.Core.Logic.{◌⊎◌, inl, inr}
use mathlib.Core.List.{List, [], ◌∷◌, ◌++◌}
use Prim.Native.Nat.{ℕ, zero, suc, ◌+◌, ◌-◌, ◌*◌, ◌/◌, ◌≤◌, ◌<◌, zero-le}
use native.Mathlib.Nat.{zero-mul, mul-le-mul_right, mul-div_cancel, not-le_of_lt, lt_of_not-le}
use native.Mathlib.Decide.{dec_le}
use native.Mathlib.Omega.{arith}
use lib.ListN.{length, length-append}
use Rattle.state.specs.declared.Cell.{Cell}
use Rattle.state.specs.declared.State.TheVariants.{Boot, Swap, Revert}
use Rattle.state.specs.Cells.{erased, marked}
use Rattle.state.specs.Magic.{magic}
use Rattle.state.proofs.Cells.{erased_byte, marked_byte}
use Rattle.geometry.specs.declared.Geometry.{Geometry}
use Rattle.geometry.specs.Geometry.{cell, page, pages}
use Rattle.mem_flash.specs.Flash.{Flash, Op, blank, apply_all, after}
use Rattle.mem_flash.proofs.After.{apply_append, after_within, after_past, after_all, after_first}
use Rattle.rules.specs.StateArea.{read_state, progress}
use Rattle.rules.specs.Steps.{Copy, to_dfu, to_active, revert_from, copies_ops, page_count}
use Rattle.rules.specs.Boot.{boot_ops}
use Rattle.rules.specs.Power.{magic_area, next_cost}
use Rattle.rules.proofs.Spread.{spread, length_spread, blank_boot}
use Rattle.rules.proofs.MarkedArea.{mark_words, length_marks, reads_swap, done_marks, progress_void, confirming_reverted, void_written}
use Rattle.way.proofs.Finish.{closed, close_ops, close_count, finish_close, finished, renew_part, void_first}
use Rattle.way.proofs.Steps.{Whole}
use Rattle.way.proofs.Way.{Reads, Way, OnWay, Stage, on_stage, on_end, Went, through, stopped, run_on, copies_skip, Kept}
use Rattle.way.proofs.Tables.{revert_count}
use Rattle.way.proofs.Wanted.{wants_none, wants_revert}

-- steps whose marks are all read as done
pub copies_past : (g : Geometry) (f : Flash) (j k i : ℕ) → i + 2 * j ≤ progress g.state f.state
    → copies_ops g (revert_from j k i) f ≡ []
unfolding copies_ops revert_from to_dfu to_active
copies_past g f zero k i h = refl
copies_past g f (suc j) k i h =
    copies_skip g (to_dfu i k k) (to_active (i + 1) (k + 1) k ∷ revert_from j (k + 1) (i + 2)) f (omega arith)
    ∙ copies_skip g (to_active (i + 1) (k + 1) k) (revert_from j (k + 1) (i + 2)) f (omega arith)
    ∙ copies_past g f j (k + 1) (i + 2) (omega arith)

-- ---- the end of the revert, on a state area of 2 + t words

-- n marks are done, and the validity word holds v
unfoldable pub closing : Geometry → List ℕ → List ℕ → ℕ → ℕ → ℕ → Flash
closing g A R t n v = closed A R (spread g.state.ws (mark_words (cell g.state) v n (t - n)))

module _ (g : Geometry) (A R : List ℕ) (t n : ℕ) (h : n < t) where
  state_size : (v : ℕ) → length (spread g.state.ws (mark_words (cell g.state) v n (t - n))) ≡ (2 + t) * g.state.ws
  state_size v =
      let e : length (mark_words (cell g.state) v n (t - n)) ≡ 2 + t = omega (arith, length_marks (cell g.state) v n (t - n)) in
      length_spread g.state.ws (mark_words (cell g.state) v n (t - n)) ∙ ap (λ (z : ℕ). z * g.state.ws) e

no_swap : Boot ≡ Swap → ⊥
no_swap e = let z : ◌≡◌ {A = ℕ} 0 1 = cc in omega arith

-- ---- a revert that is cut

-- steps are left, and the end after them; or the marks are void, and the end is left; or some of the state's U units are erased, and
-- nothing is left
pub data Reverting (g : Geometry) (N S : ℕ) (h void : Flash) (U : ℕ) (gone : ℕ → Flash) (now : Flash) : ℕ → Type 0 where
  copying : {rest : ℕ} → OnWay g N S h now (2 * N) (revert_from N 0 (2 * N)) rest → Reverting g N S h void U gone now (suc rest)
  voided : now ≡ void → Reverting g N S h void U gone now 1
  emptied : (j : ℕ) → 1 ≤ j → j ≤ U → now ≡ gone j → Reverting g N S h void U gone now 0

-- the flash x after a cut: units are erased just if the cut fell there, with r operations left, and else it reads Swap
abbrev pub LastCut : Geometry → ℕ → (ℕ → Flash) → (ℕ → Type 0) → Flash → Type 0
LastCut g U gone There x =
    ((r : ℕ) × (1 ≤ r) × (r ≤ U) × There r × (x ≡ gone (U + 1 - r)))
    ⊎ (((r : ℕ) → 1 ≤ r → r ≤ U → There r → ⊥) × (read_state g.state x.state ≡ Swap))

-- what a run of the operations os with a budget of k leaves, where m steps and the end were left: it ends; or nothing is wanted; or
-- it is cut
data Reverts (g : Geometry) (N S : ℕ) (h void : Flash) (U : ℕ) (gone : ℕ → Flash) (done now : Flash) (m k : ℕ)
    (os : List Op) : Type 0 where
  ends : length os ≤ k → apply_all os now ≡ done → read_state g.state now.state ≡ Swap
      → Reverts g N S h void U gone done now m k os
  idle : (j : ℕ) → 1 ≤ j → j ≤ U → now ≡ gone j → os ≡ [] → Reverts g N S h void U gone done now m k os
  cut : (l : ℕ) → k < length os → (next_cost g now ≤ k → l < m)
      → Reverting g N S h void U gone (after k os now) l
      → LastCut g U gone (λ (r : ℕ). k + r ≡ length os) (after k os now)
      → Reverts g N S h void U gone done now m k os

-- N pages, whose way back from f₀ ends with the images A and R and 4N marks of t
pub record Course (g : Geometry) (N t : ℕ) (A R : List ℕ) (f₀ : Flash) : Type 0 where
  pub whole : Whole g
  pub cost : (x : Flash) → 3 ≤ next_cost g x
  pub ws : 0 < g.state.ws
  pub unit : g.state.ws ≤ g.state.es
  pub units : (2 + t) * g.state.ws / g.state.es * g.state.es ≡ (2 + t) * g.state.ws
  pub page_some : 0 < page g
  pub room : 4 * N < t
  pub active : length A ≡ N * page g
  pub way : Way g N ((2 + t) * g.state.ws) (2 * N) f₀ (revert_from N 0 (2 * N)) (closing g A R t (4 * N) (erased (cell g.state)))

-- the state area's first j units erased, once the marks are void
unfoldable pub erased_part : Geometry → List ℕ → List ℕ → ℕ → ℕ → ℕ → Flash
erased_part g A R t n j =
    closed A R
    (blank (cell g.state) (j * g.state.es) (spread g.state.ws (mark_words (cell g.state) (marked (cell g.state)) n (t - n))))

module _ {g : Geometry} {N t : ℕ} {A R : List ℕ} {f₀ : Flash} (course : Course g N t A R f₀) where
  abbrev S : ℕ
  S = (2 + t) * g.state.ws

  abbrev cells : Cell
  cells = cell g.state

  abbrev U : ℕ
  U = S / g.state.es

  abbrev h : Flash
  h = closing g A R t (4 * N) (erased cells)

  abbrev void : Flash
  void = closing g A R t (4 * N) (marked cells)

  abbrev gone : ℕ → Flash
  gone = erased_part g A R t (4 * N)

  abbrev done : Flash
  done = closed A R (magic_area g.state Revert S)

  abbrev pub Turning : Flash → ℕ → Type 0
  Turning now m = Reverting g N S h void U gone now m

  abbrev Turned : Flash → ℕ → ℕ → List Op → Type 0
  Turned now m k os = Reverts g N S h void U gone done now m k os

  -- with a unit erased the state area reads Boot, and nothing is wanted
  module _ (j : ℕ) (some : 1 ≤ j) (most : j ≤ U) where
    pub gone_boot : read_state g.state (gone j).state ≡ Boot
    unfolding erased_part closed
    gone_boot =
        blank_boot g.state (j * g.state.es) (spread g.state.ws (mark_words cells (marked cells) (4 * N) (t - 4 * N))) course.ws
        (omega (arith, mul-le-mul_right g.state.es some, course.unit))
        (omega (arith, mul-le-mul_right g.state.es most, course.units, state_size g A R t (4 * N) course.room (marked cells)))

    pub gone_idle : boot_ops g (gone j) ≡ []
    gone_idle = wants_none g (gone j) gone_boot

  not_gone : (x : Flash) (j : ℕ) → 1 ≤ j → j ≤ U → x ≡ gone j → read_state g.state x.state ≡ Swap → ⊥
  not_gone x j one most e swap =
      no_swap (sym (gone_boot j one most) ∙ sym (ap (λ (y : Flash). read_state g.state y.state) e) ∙ swap)

  -- the last operations, from a validity word that holds the byte v: cut after the invalidation and j units, and whole
  close_gone : (v j : ℕ) → v < 256 → j ≤ U → after (suc j) (close_ops g S) (closing g A R t (4 * N) v) ≡ gone j
  unfolding closing close_ops erased_part
  close_gone v j byte less =
      void_first A R g.state S (magic Revert) j (spread g.state.ws (mark_words cells v (4 * N) (t - 4 * N)))
      ∙ renew_part A R g.state S (magic Revert) j _ less
      ∙ ap (λ (l : List ℕ). closed A R (blank cells (j * g.state.es) l)) (void_written cells g.state.ws v (4 * N) (t - 4 * N) byte)

  gone_none : gone 0 ≡ void
  unfolding closing erased_part blank
  gone_none = ap (λ (n : ℕ). closed A R (blank cells n (spread g.state.ws (mark_words cells (marked cells) (4 * N) (t - 4 * N))))) (zero-mul g.state.es)

  closing_swap : (v : ℕ) → read_state g.state (closing g A R t (4 * N) v).state ≡ Swap
  unfolding closing closed
  closing_swap v = reads_swap g.state course.ws v (4 * N) (t - 4 * N) (omega (arith, course.room))

  close_all : (v : ℕ) → apply_all (close_ops g S) (closing g A R t (4 * N) v) ≡ done
  unfolding closing
  close_all v =
      finished A R g S (spread g.state.ws (mark_words cells v (4 * N) (t - 4 * N))) course.units
      (state_size g A R t (4 * N) course.room v) (omega arith)

  -- where the last operations are cut after the first j: before the erase, or after i units of it
  data Stop (j : ℕ) (x : Flash) : Type 0 where
    early : j < 2 → Turning x 1 → read_state g.state x.state ≡ Swap → Stop j x
    late : (i : ℕ) → j ≡ suc i → 1 ≤ i → i ≤ U → x ≡ gone i → Stop j x

  close_cut : (v : ℕ) → v < 256 → Turning (closing g A R t (4 * N) v) 1 → (j : ℕ) → j < 2 + U
      → Stop j (after j (close_ops g S) (closing g A R t (4 * N) v))
  close_cut v byte on zero less =
      subst (Stop 0) (sym (after_first (close_ops g S) (closing g A R t (4 * N) v))) (early (omega arith) on (closing_swap v))
  close_cut v byte on (suc zero) less =
      let e : after 1 (close_ops g S) (closing g A R t (4 * N) v) ≡ void = close_gone v 0 byte (omega arith) ∙ gone_none in
      early (omega arith) (voided e) (ap (λ (x : Flash). read_state g.state x.state) e ∙ closing_swap (marked cells))
  close_cut v byte on (suc (suc i)) less = late (suc i) refl (omega arith) (omega arith) (close_gone v (suc i) byte (omega arith))

  -- the steps that were left, then the last operations
  tail_run : (v : ℕ) → v < 256 → Turning (closing g A R t (4 * N) v) 1 → (now : Flash) (m k : ℕ) (os : List Op) → length os ≤ k
      → apply_all os now ≡ closing g A R t (4 * N) v → read_state g.state now.state ≡ Swap → 0 < m
      → (next_cost g now ≤ k → k < length os + 2 → 1 < m) → Turned now m k (os ++ close_ops g S)
  tail_run v byte on now m k os l d swap more some = go (dec_le (length os + (2 + U)) k)
    where
      size : length (os ++ close_ops g S) ≡ length os + (2 + U)
      size = length-append os (close_ops g S) ∙ ap (λ (n : ℕ). length os + n) (close_count g S)

      j : ℕ
      j = k - length os

      e : length os + j ≡ k
      e = omega (arith, l)

      at : after k (os ++ close_ops g S) now ≡ after j (close_ops g S) (closing g A R t (4 * N) v)
      at =
          ap (λ (z : ℕ). after z (os ++ close_ops g S) now) (sym e) ∙ after_past j os (close_ops g S) now
          ∙ ap (after j (close_ops g S)) d

      -- in a clause of its own, for the flash where it stops
      stop : (x : Flash) → x ≡ after k (os ++ close_ops g S) now → k < length os + (2 + U) → Stop j x
          → Turned now m k (os ++ close_ops g S)
      stop x same short (early few on' reads) =
          cut 1 (omega (arith, size)) (λ c. some c (omega (arith, e))) (subst (λ (y : Flash). Turning y 1) same on')
          (inr (
            λ r one most q. omega (arith, size, e),
            ap (λ (y : Flash). read_state g.state y.state) (sym same) ∙ reads,
          ))
      stop x same short (late i is one most there) =
          let r : ℕ = U + 1 - i in
          let back : i ≡ U + 1 - r = omega arith in
          cut 0 (omega (arith, size)) (λ c. more) (emptied i one most (sym same ∙ there))
          (inl (r, omega arith, omega arith, omega (arith, size, e, is), sym same ∙ there ∙ ap gone back))

      go : Dec (length os + (2 + U) ≤ k) → Turned now m k (os ++ close_ops g S)
      go (yes y) =
          ends (omega (arith, size)) (apply_append os (close_ops g S) now ∙ ap (apply_all (close_ops g S)) d ∙ close_all v) swap
      go (no y) =
          stop _ (sym at) (lt_of_not-le y) (close_cut v byte on j (omega (arith, e, lt_of_not-le y)))

  void_reads : Reads g N S (2 + (4 * N + (t - 4 * N)) - 3) void
  unfolding closing closed page_count pages
  void_reads =
      record {
        swap = reads_swap g.state course.ws (marked cells) (4 * N) (t - 4 * N) (omega (arith, course.room));
        paged = ap (λ (l : ℕ). l / page g) course.active ∙ mul-div_cancel N course.page_some;
        sized = state_size g A R t (4 * N) course.room (marked cells);
        done = progress_void g.state course.ws (4 * N) (t - 4 * N) (omega (arith, course.room));
        settled =
            confirming_reverted g.state N _
            (omega (arith, done_marks g.state course.ws (marked cells) (4 * N) (t - 4 * N) (omega (arith, course.room))));
      }

  void_wants : boot_ops g void ≡ close_ops g S
  void_wants =
      wants_revert void_reads (omega arith)
      ∙ ap₂ (λ (l r : List Op). l ++ r) (copies_past g void N 0 (2 * N) (omega (arith, void_reads.done)))
      (finish_close g void S void_reads.sized)

  void_run : (k : ℕ) → Turned void 1 k (boot_ops g void)
  unfolding apply_all
  void_run k =
      subst (λ (os : List Op). Turned void 1 k os) (sym void_wants)
      (tail_run (marked cells) (marked_byte cells) (voided refl) void 1 k [] zero-le refl void_reads.swap (omega arith)
      (λ x y. absurd (omega (arith, course.cost void))))

  -- ---- steps are left

  module _ {now : Flash} {rest : ℕ} (on : OnWay g N S h now (2 * N) (revert_from N 0 (2 * N)) rest) where
    abbrev cs : List Copy
    cs = revert_from N 0 (2 * N)

    abbrev steps : List Op
    steps = copies_ops g cs now

    found : Stage g N S now (2 * N) (length cs) rest
    found = on_stage on

    copy_wants : boot_ops g now ≡ steps ++ close_ops g S
    copy_wants =
        wants_revert found.reads found.past
        ∙ ap (λ (l : List Op). steps ++ l) (finish_close g now S found.reads.sized)

    -- where no step is left, none is wanted
    no_steps : rest ≡ 0 → steps ≡ []
    no_steps e =
        copies_past g now N 0 (2 * N) (omega (arith, found.sum, found.reads.done, revert_count N 0 (2 * N)))

    copy_run : (k : ℕ) → Turned now (suc rest) k (boot_ops g now)
    copy_run k =
        subst (λ (os : List Op). Turned now (suc rest) k os) (sym copy_wants) (go (run_on course.whole on k))
      where
        some : next_cost g now ≤ k → k < length steps + 2 → Dec (1 ≤ rest) → 1 < suc rest
        some x y (yes z) = omega arith
        some x y (no z) = absurd (omega (arith, course.cost now, ap length (no_steps (omega (arith, lt_of_not-le z)))))

        go : Went g N S h (2 * N) cs rest now k steps → Turned now (suc rest) k (steps ++ close_ops g S)
        go (through l d none) =
            tail_run (erased cells) (erased_byte cells) (copying (on_end g N S h cs (2 * N) f₀ course.way)) now (suc rest) k steps l d
            found.reads.swap (omega arith) (λ x y. some x y (dec_le 1 rest))
        go (stopped l c z b gain still o) =
            let at : after k (steps ++ close_ops g S) now ≡ after k steps now =
            after_within k steps (close_ops g S) now c in
            cut (suc l) (omega (arith, length-append steps (close_ops g S)))
            (λ x. omega (arith, gain x))
            (copying (subst (λ (x : Flash). OnWay g N S h x (2 * N) cs l) (sym at) o))
            (inr (
              λ r one most q. omega (arith, c, length-append steps (close_ops g S), close_count g S),
              ap (λ (x : Flash). read_state g.state x.state) at
                  ∙ (on_stage o).reads.swap,
            ))

    -- below the next step's cost a run is cut, and gains no step
    pub revert_stay : 0 < rest → (k : ℕ) → k < next_cost g now
        → (k < length (boot_ops g now)) × OnWay g N S h (after k (boot_ops g now) now) (2 * N) cs rest
    revert_stay some k few =
        subst (λ (os : List Op). (k < length os) × OnWay g N S h (after k os now) (2 * N) cs rest) (sym copy_wants)
        (go (run_on course.whole on k))
      where
        go : Went g N S h (2 * N) cs rest now k steps
            → (k < length (steps ++ close_ops g S)) × OnWay g N S h (after k (steps ++ close_ops g S) now) (2 * N) cs rest
        go (through l d none) = absurd (omega (arith, none few))
        go (stopped l c z b gain still o) = (
          omega (arith, length-append steps (close_ops g S)),
          subst (λ (x : Flash). OnWay g N S h x (2 * N) cs rest)
              (sym (after_within k steps (close_ops g S) now c))
              (subst (λ (i : ℕ). OnWay g N S h (after k steps now) (2 * N) cs i) (still few) o),
        )

    pub revert_at : progress g.state now.state + rest ≡ 4 * N
    revert_at = omega (arith, found.sum, found.reads.done, revert_count N 0 (2 * N))

  -- ---- a run

  revert_run : {now : Flash} {m : ℕ} → Turning now m → (k : ℕ) → Turned now m k (boot_ops g now)
  revert_run (copying on) k = copy_run on k
  revert_run (voided e) k = subst (λ (x : Flash). Turned x 1 k (boot_ops g x)) (sym e) (void_run k)
  revert_run (emptied j one most e) k = idle j one most e (ap (boot_ops g) e ∙ gone_idle j one most)

  pub revert_kept : {now : Flash} {m : ℕ} → Turning now m → (k : ℕ) → k < length (boot_ops g now)
      → Kept Turning (after k (boot_ops g now) now) k (next_cost g now) m
  revert_kept {now} {m} on k short = go (revert_run on k)
    where
      go : Turned now m k (boot_ops g now) → Kept Turning (after k (boot_ops g now) now) k (next_cost g now) m
      go (ends l d s) = absurd (not-le_of_lt short l)
      go (idle j one most e d) = absurd (omega (arith, ap length d))
      go (cut l c gain o w) = record { rest = l; inv = o; gain = gain }

  -- all steps are done where only the end is left and nothing is erased
  past_steps : {x : Flash} {m : ℕ} → Turning x m → m ≤ 1 → read_state g.state x.state ≡ Swap → 4 * N ≤ progress g.state x.state
  past_steps (copying on) less swap = omega (arith, revert_at on)
  past_steps (voided e) less swap = rw e (omega (arith, void_reads.done, course.room))
  past_steps {x} (emptied j one most e) less swap = absurd (not_gone x j one most e swap)

  -- where steps are left: the progress is below 4N, and something is wanted
  steps_left : {now : Flash} {m : ℕ} → Turning now m → 0 < length (boot_ops g now) → progress g.state now.state < 4 * N
      → (rest : ℕ) × (m ≡ suc rest) × OnWay g N S h now (2 * N) (revert_from N 0 (2 * N)) rest
  steps_left (copying {rest = rest} on) wanted few = (rest, refl, on)
  steps_left (voided e) wanted few =
      absurd
      (omega (
        arith,
        past_steps (voided e) (omega arith) (ap (λ (x : Flash). read_state g.state x.state) e ∙ void_reads.swap),
      ))
  steps_left (emptied j one most e) wanted few = absurd (omega (arith, ap length (ap (boot_ops g) e ∙ gone_idle j one most)))

  -- a run that is cut there gains a step if it has the next step's cost, and none if not
  module _ {now : Flash} {m : ℕ} (on : Turning now m) (k : ℕ) (short : k < length (boot_ops g now))
      (few : progress g.state now.state < 4 * N) where
    abbrev next : Flash
    next = after k (boot_ops g now) now

    pub revert_gains : next_cost g now ≤ k → read_state g.state next.state ≡ Swap
        → progress g.state now.state < progress g.state next.state
    revert_gains paid swap =
        let o = revert_kept on k short in
        let left = steps_left on (omega arith) few in
        go left.0 left.2 o.rest o.inv (omega (arith, o.gain paid, left.1))
      where
        go : (rest : ℕ) → OnWay g N S h now (2 * N) (revert_from N 0 (2 * N)) rest → (l : ℕ) → Turning next l → l < suc rest
            → progress g.state now.state < progress g.state next.state
        go rest o l (copying o') less = omega (arith, revert_at o, revert_at o')
        go rest o l (voided e) less = omega (arith, past_steps {x = next} (voided e) (omega arith) swap)
        go rest o l (emptied j one most e) less = absurd (not_gone next j one most e swap)

    pub revert_stays : k < next_cost g now → progress g.state next.state ≡ progress g.state now.state
    revert_stays less =
        let left = steps_left on (omega arith) few in
        let here = revert_at left.2 in
        let o = revert_stay left.2 (omega (arith, here)) k less in
        omega (arith, here, revert_at o.1)

  -- where only the end is left, it is all that is wanted
  pub last_most : {now : Flash} {m : ℕ} → Turning now m → m ≤ 1 → length (boot_ops g now) ≤ 2 + U
  last_most {now} (copying on) e =
      omega (
        arith,
        ap length (copy_wants on),
        length-append (copies_ops g (revert_from N 0 (2 * N)) now) (close_ops g S),
        close_count g S,
        ap length
            (no_steps on (omega arith)),
      )
  last_most (voided q) e = omega (arith, ap length (ap (boot_ops g) q ∙ void_wants), close_count g S)
  last_most (emptied j one most q) e = omega (arith, ap length (ap (boot_ops g) q ∙ gone_idle j one most))

  pub revert_place : {now : Flash} {m : ℕ} → Turning now m → (k : ℕ) → k < length (boot_ops g now)
      → LastCut g U gone (λ (r : ℕ). k + r ≡ length (boot_ops g now)) (after k (boot_ops g now) now)
  revert_place {now} {m} on k short = go (revert_run on k)
    where
      go : Turned now m k (boot_ops g now)
          → LastCut g U gone (λ (r : ℕ). k + r ≡ length (boot_ops g now)) (after k (boot_ops g now) now)
      go (ends l d s) = absurd (not-le_of_lt short l)
      go (idle j one most e d) = absurd (omega (arith, ap length d))
      go (cut l c gain o w) = w

  -- a run that is not cut leaves the images, from a state area that reads Swap or from one with erased units
  pub revert_done : {now : Flash} {m : ℕ} → Turning now m → read_state g.state now.state ≡ Swap → (k : ℕ)
      → length (boot_ops g now) ≤ k → after k (boot_ops g now) now ≡ done
  revert_done {now} {m} on swap k long = go (revert_run on k)
    where
      go : Turned now m k (boot_ops g now) → after k (boot_ops g now) now ≡ done
      go (ends l d s) = after_all k (boot_ops g now) now long ∙ d
      go (idle j one most e d) = absurd (not_gone now j one most e swap)
      go (cut l c gain o w) = absurd (not-le_of_lt c long)
