-- The first open mark, found by bytes: the first erased byte among the marks stands in it. Assumes nothing.
use mathlib.Core.Path.{◌≡◌, ap, ◌∙◌, sym}
use mathlib.Core.Bool.{Bool, true, false}
use mathlib.Core.List.{List}
use Prim.Native.Nat.{ℕ, zero, suc, ◌+◌, ◌-◌, ◌*◌, ◌/◌, ◌%◌, ◌≤◌, ◌<◌}
use native.Mathlib.Nat.{sub-zero, div-zero, div-mul-le_self, mul-le-mul_right, le-mul_of_pos_right, le-div_iff_mul-le, div-lt_iff_lt-mul, div-add-mod', mod-lt}
use native.Mathlib.Decide.{dec_lt}
use native.Mathlib.Omega.{arith}
use lib.ListN.{length, get_or, take, drop, length-take, length-drop}
use lib.Seq.{get_or-take, get_or-drop}
use Rattle.state.specs.declared.Cell.{Cell}
use Rattle.state.specs.Cells.{erased}
use Rattle.state.specs.Magic.{throughout}
use Rattle.geometry.specs.declared.StateSizes.{StateSizes}
use Rattle.geometry.specs.Geometry.{cell, words}
use Rattle.rules.specs.StateArea.{word, valid, mark_open, most_marks, first_open, marks_done, progress}
use Rattle.rules.proofs.StateWords.{open_here, open_turn, open_end, progress_invalid}
use Rattle.byte_search.specs.First.{First}
use Rattle.byte_search.proofs.Places.{holds_at, holds_not}

-- ---- the erased byte, as the code asks the sizes for it

module _ (z : StateSizes) {c : Cell} {v : ℕ} (h : c ≡ cell z) (e : v ≡ erased c) where
  pub is_erased : v ≡ erased (cell z)
  is_erased = e ∙ ap erased h

  pub is_valid : (st : List ℕ) {b : Bool} → b ≡ throughout v (word z 1 st) → b ≡ valid z st
  unfolding valid
  is_valid st w = rw is_erased at w

-- ---- how many marks are read

module _ (ws n : ℕ) where
  pub no_words : ws ≡ 0 → words ws n - 3 ≡ 0
  unfolding words
  no_words e =
      let y : n / ws ≡ 0 = rw e (div-zero n) in
      omega arith

  module _ (w : 0 < ws) where
    pub few_words : n / 4 < ws → words ws n - 3 ≡ 0
    unfolding words
    few_words h =
        let a : n < ws * 4 = (div-lt_iff_lt-mul {k = 4} (omega arith)).0 h in
        let b : n / ws < 4 = (div-lt_iff_lt-mul w).1 (omega arith) in
        omega arith

-- else the first mark has its word
pub enough : (ws n : ℕ) → ws ≤ n / 4 → (3 + 0) * ws ≤ n
enough ws n h =
    let a : ws * 4 ≤ n = (le-div_iff_mul-le {k = 4} (omega arith)).0 h in
    omega arith

-- where the mark from which one searches has its word, it is no later than the last that is read, and all these lie in the area
pub marks_fit : (ws n most from : ℕ) → most ≡ words ws n - 3 → (0 < ws) × ((3 + from) * ws ≤ n)
    → (from ≤ most) × ((2 + most) * ws ≤ n) × ((2 + from) * ws ≤ (2 + most) * ws)
unfolding words
marks_fit ws n most from e h =
    let a : 3 + from ≤ n / ws = (le-div_iff_mul-le h.0).1 h.1 in
    let b : (2 + most) * ws ≤ n / ws * ws = mul-le-mul_right ws (omega arith) in
    (omega arith, omega (arith, div-mul-le_self n ws), mul-le-mul_right ws (omega arith))

-- and what the code adds and multiplies is no more than the area's length
pub start_low : (ws n from : ℕ) → (0 < ws) × ((3 + from) * ws ≤ n) → (2 + from < n) × ((2 + from) * ws < n)
start_low ws n from h = (omega (arith, h, le-mul_of_pos_right (3 + from) h.0), omega (arith, h))

pub end_low : (ws n most : ℕ) → 0 < ws → (2 + most) * ws ≤ n → 2 + most ≤ n
end_low ws n most w h = omega (arith, le-mul_of_pos_right (2 + most) w)

-- ---- the first open mark is the one with none open before it

module _ (z : StateSizes) (most first r : ℕ) (st : List ℕ) (w : r ≤ most) (done : (i : ℕ) → first ≤ i → i < r → mark_open z st i ≡ false)
    (here : r < most → mark_open z st r ≡ true) where
  stops : Dec (r < most) → first_open z st (most - r) r ≡ r
  stops (yes h) = open_here z most r st h (here h)
  stops (no h) = open_end z most r st (omega (arith, h))

  on : (d i : ℕ) → first ≤ i → i + d ≡ r → first_open z st (most - i) i ≡ r
  on zero i l e =
      let n : i ≡ r = omega arith in
      rw n (stops (dec_lt r most))
  on (suc d) i l e = sym (open_turn z most i st (omega arith) (done i l (omega arith))) ∙ on d (i + 1) (omega arith) (omega arith)

-- ---- a mark's bytes among the bytes of the marks from one on

-- the bytes of the marks that are searched, as the code cuts them out
abbrev pub marks : ℕ → ℕ → ℕ → List ℕ → List ℕ
marks ws from most st = take ((2 + most) * ws - (2 + from) * ws) (drop ((2 + from) * ws) st)

module _ (z : StateSizes) (from most : ℕ) (st : List ℕ) (w : 0 < z.ws) (some : from ≤ most) (fits : (2 + most) * z.ws ≤ length st) where
  -- mark k of those
  module _ (k : ℕ) (h : from + k < most) where
    room : (2 + (from + k)) * z.ws + z.ws ≤ (2 + most) * z.ws
    room =
        let l : (3 + (from + k)) * z.ws ≤ (2 + most) * z.ws = mul-le-mul_right z.ws (omega arith) in
        omega arith

    whole : length (word z (2 + (from + k)) st) ≡ z.ws
    unfolding word
    whole = simp (length-take, length-drop) (omega (arith, room))

    byte : (j : ℕ) → j < z.ws → get_or (word z (2 + (from + k)) st) j 0 ≡ get_or (marks z.ws from most st) (k * z.ws + j) 0
    unfolding word
    byte j o =
        let l : k * z.ws + j < (2 + most) * z.ws - (2 + from) * z.ws = omega (arith, room) in
        let e : (2 + (from + k)) * z.ws + j ≡ (2 + from) * z.ws + (k * z.ws + j) = omega arith in
        get_or-take z.ws (drop ((2 + (from + k)) * z.ws) st) j 0 o
        ∙ get_or-drop ((2 + (from + k)) * z.ws) st j 0
        ∙ ap (λ (n : ℕ). get_or st n 0) e
        ∙ sym (get_or-drop ((2 + from) * z.ws) st (k * z.ws + j) 0)
        ∙ sym (get_or-take ((2 + most) * z.ws - (2 + from) * z.ws) (drop ((2 + from) * z.ws) st) (k * z.ws + j) 0 l)

  all : length (marks z.ws from most st) ≡ (most - from) * z.ws
  all =
      let e : (2 + most) * z.ws ≡ (2 + from) * z.ws + (most - from) * z.ws = span (most - from) (omega arith) in
      simp (length-take, length-drop) (omega arith)
    where
      span : (d : ℕ) → most ≡ from + d → (2 + most) * z.ws ≡ (2 + from) * z.ws + d * z.ws
      span d e = rw e (omega arith)

  module _ (p : ℕ) (f : First (erased (cell z)) (marks z.ws from most st) p) where
    last : from + p / z.ws ≤ most
    last =
        let q : p / z.ws < most - from + 1 = (div-lt_iff_lt-mul w).1 (omega (arith, f.within, all)) in
        omega arith

    -- every byte of a mark before the first erased byte's has changed
    done : (k : ℕ) → k < p / z.ws → mark_open z st (from + k) ≡ false
    unfolding mark_open
    done k h =
        let m : (k + 1) * z.ws ≤ p = (le-div_iff_mul-le w).0 (omega arith) in
        let n : from + k < most = omega (arith, last) in
        holds_not (erased (cell z)) (word z (2 + (from + k)) st) (λ j l e.
        let a : j < z.ws = omega (arith, whole k n) in
        f.before (k * z.ws + j) (omega arith) (sym (byte k n j a) ∙ e))

    -- and its own is open
    here : from + p / z.ws < most → mark_open z st (from + p / z.ws) ≡ true
    unfolding mark_open
    here h =
        let j : p % z.ws < z.ws = mod-lt p w in
        let e : p / z.ws * z.ws + p % z.ws ≡ p = div-add-mod' p z.ws in
        let l : p < (most - from) * z.ws = (div-lt_iff_lt-mul w).0 (omega arith) in
        holds_at (erased (cell z)) (word z (2 + (from + p / z.ws)) st) (p % z.ws) (omega (arith, whole (p / z.ws) h))
        (byte (p / z.ws) h (p % z.ws) j ∙ ap (λ (k : ℕ). get_or (marks z.ws from most st) k 0) e ∙ f.found (omega (arith, all)))

    pub by_bytes : from + p / z.ws ≡ first_open z st (most - from) from
    by_bytes = sym (on z most from (from + p / z.ws) st last passed here (p / z.ws) from (omega arith) (omega arith))
      where
        passed : (i : ℕ) → from ≤ i → i < from + p / z.ws → mark_open z st i ≡ false
        passed i l h =
            let e : i ≡ from + (i - from) = omega arith in
            rw e (done (i - from) (omega arith))

-- ---- each way out of the search

module _ (z : StateSizes) (most : ℕ) (st : List ℕ) (m : most ≡ words z.ws (length st) - 3) where
  counted : most ≡ most_marks z st
  unfolding most_marks
  counted = m

  module _ (from : ℕ) (h : (0 < z.ws) × ((3 + from) * z.ws ≤ length st)) where
    pub found_at : {v : ℕ} (p : ℕ) → v ≡ erased (cell z) → First v (marks z.ws from most st) p → from + p / z.ws ≡ first_open z st (most_marks z st - from) from
    found_at p q f =
        let i = marks_fit z.ws (length st) most from m h in
        by_bytes z from most st h.0 i.0 i.1 p (rw q at f) ∙ ap (λ (n : ℕ). first_open z st (n - from) from) counted

    pub found_low : {v : ℕ} (p : ℕ) → v ≡ erased (cell z) → First v (marks z.ws from most st) p → from + p / z.ws ≤ most
    found_low p q f = let i = marks_fit z.ws (length st) most from m h in last z from most st h.0 i.0 i.1 p (rw q at f)

    -- an erased byte in front: the mark is open, or is not read
    pub found_first : get_or st ((2 + from) * z.ws) 0 ≡ (erased (cell z)) → from ≡ first_open z st (most_marks z st - from) from
    unfolding mark_open word
    found_first e = go (dec_lt from (most_marks z st))
      where
        is_open : mark_open z st from ≡ true
        is_open =
            let a : (2 + from) * z.ws + 0 ≡ (2 + from) * z.ws = omega arith in
            holds_at (erased (cell z)) (take z.ws (drop ((2 + from) * z.ws) st)) 0 (simp (length-take, length-drop) (omega (arith, h)))
            (get_or-take z.ws (drop ((2 + from) * z.ws) st) 0 0 h.0 ∙ get_or-drop ((2 + from) * z.ws) st 0 0 ∙ ap (λ (k : ℕ). get_or st k 0) a ∙ e)

        go : Dec (from < most_marks z st) → from ≡ first_open z st (most_marks z st - from) from
        go (yes l) = sym (open_here z (most_marks z st) from st l is_open)
        go (no l) = sym (open_end z (most_marks z st) from st (omega (arith, l)))

  pub not_counting : valid z st ≡ false → most ≡ progress z st
  not_counting v = counted ∙ sym (progress_invalid z st v)

pub no_mark : (z : StateSizes) (st : List ℕ) → words z.ws (length st) - 3 ≡ 0 → 0 ≡ marks_done z st
unfolding marks_done first_open most_marks
no_mark z st e = rw e

-- from the first mark on it is the leading done marks
pub all_marks : (z : StateSizes) (st : List ℕ) {r : ℕ} → r ≡ first_open z st (most_marks z st - 0) 0 → r ≡ marks_done z st
unfolding marks_done
all_marks z st e = rw sub-zero at e
