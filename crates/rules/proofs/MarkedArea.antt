-- The state area while a swap or a revert runs, n marks done: what is read of it, whether a confirmation is pending, the next mark
-- and the invalidation written; and that the areas which specs/Power names are such areas. Of the bytes they use that a mark stays
-- as it is written and is not erased. Assumes nothing.
use mathlib.Core.Path.{◌≡◌, refl, sym, ap, ap₂, ◌∙◌}
use mathlib.Core.Bool.{Bool, true, false}
use mathlib.Core.Logic.{◌⊎◌, inl, inr}
use mathlib.Core.List.{List, ◌∷◌, ◌++◌, append_assoc}
use Prim.Native.Nat.{ℕ, zero, suc, ◌+◌, ◌-◌, ◌*◌, ◌/◌, ◌≤◌, ◌<◌}
use native.Mathlib.Nat.{mul-div_cancel, eq-or-lt_of_le}
use native.Mathlib.Omega.{arith}
use lib.Dec.{ltb}
use lib.ListN.{length, replicate, get_or, set, length-append, length-replicate, get_or-replicate, replicate-append-replicate, get_or-append}
use lib.Seq.{get_or-append-add, set_at}
use borrow.Author.Tests.{lt-ltb, le-ltb}
use Rattle.state.specs.declared.Cell.{Cell}
use Rattle.state.specs.declared.State.TheVariants.{Boot, Swap}
use Rattle.state.specs.Choice.{pick}
use Rattle.state.specs.Cells.{erased, marked, programmed}
use Rattle.state.specs.Magic.{magic, throughout, state_of}
use Rattle.geometry.specs.declared.StateSizes.{StateSizes}
use Rattle.geometry.specs.Geometry.{cell, words}
use Rattle.mem_flash.specs.Flash.{written_at}
use Rattle.state.proofs.Cells.{programmed_erased, programmed_marked, marked_not_erased, marked_byte}
use Rattle.rules.specs.StateArea.{word, read_state, valid, mark_open, most_marks, first_open, marks_done, progress}
use Rattle.rules.specs.Boot.{confirming}
use Rattle.rules.specs.Power.{magic_area, swap_marks, revert_marks, void_marks}
use Rattle.rules.proofs.StateWords.{progress_valid, progress_invalid}
use Rattle.rules.proofs.Spread.{spread, length_spread, spread_append, spread_replicate, throughout_same, throughout_other, holds_same, boot_no_other, holds_other, word_spread, written_spread}

-- ---- the state area while a swap or a revert runs: the magic, the validity, n marks done, r words left

unfoldable pub mark_words : Cell → ℕ → ℕ → ℕ → List ℕ
mark_words c v n r = magic Swap ∷ v ∷ (replicate n (marked c) ++ replicate r (erased c))

length_runs : (c : Cell) (n r : ℕ) → length (replicate n (marked c) ++ replicate r (erased c)) ≡ n + r
length_runs c n r = simp (length-append, length-replicate)

pub length_marks : (c : Cell) (v n r : ℕ) → length (mark_words c v n r) ≡ 2 + (n + r)
unfolding mark_words
length_marks c v n r = omega (arith, length_runs c n r)

get_or_done : (c : Cell) (n r k : ℕ) → k < n → get_or (replicate n (marked c) ++ replicate r (erased c)) k 0 ≡ marked c
get_or_done c n r k h =
    get_or-append (replicate n (marked c)) (replicate r (erased c)) 0 k (rw (length-replicate {A = ℕ} n (marked c)) h)
    ∙ get_or-replicate n k (marked c) 0 h

get_or_open : (c : Cell) (n r : ℕ) → 0 < r → get_or (replicate n (marked c) ++ replicate r (erased c)) n 0 ≡ erased c
get_or_open c n r h =
    let e : n ≡ length (replicate n (marked c)) + 0 = omega (arith, length-replicate n (marked c)) in
    ap (λ (k : ℕ). get_or (replicate n (marked c) ++ replicate r (erased c)) k 0) e
    ∙ get_or-append-add (replicate n (marked c)) (replicate r (erased c)) 0 0 ∙ get_or-replicate r 0 (erased c) 0 h

module _ (z : StateSizes) (some : 0 < z.ws) (v n r : ℕ) (more : 0 < r) where
  reads : (k : ℕ) → k < n + r
      → word z (2 + k) (spread z.ws (mark_words (cell z) v n r)) ≡ replicate z.ws (get_or (replicate n (marked (cell z)) ++ replicate r (erased (cell z))) k 0)
  unfolding mark_words
  reads k h =
      let e : 2 + k ≡ suc (suc k) = omega arith in
      ap (λ (i : ℕ). word z i (spread z.ws (mark_words (cell z) v n r))) e
      ∙ word_spread z (suc (suc k)) (mark_words (cell z) v n r) (omega (arith, length_runs (cell z) n r))

  done_mark : (k : ℕ) → k < n → mark_open z (spread z.ws (mark_words (cell z) v n r)) k ≡ false
  unfolding mark_open
  done_mark k h = rw (reads k (omega arith), get_or_done (cell z) n r k h) (holds_other z.ws (erased (cell z)) (marked (cell z)) (marked_not_erased (cell z)))

  mark_left : mark_open z (spread z.ws (mark_words (cell z) v n r)) n ≡ true
  unfolding mark_open
  mark_left = rw (reads n (omega arith), get_or_open (cell z) n r more) (holds_same z.ws (erased (cell z)) some)

  first_open_lem : (j i : ℕ) → i ≤ n → n ≤ i + j → i + j < n + r → first_open z (spread z.ws (mark_words (cell z) v n r)) j i ≡ n
  unfolding first_open pick
  first_open_lem zero i lo hi up = omega arith
  first_open_lem (suc j) i lo hi up = go (eq-or-lt_of_le lo) (λ h. first_open_lem j (suc i) h (omega arith) (omega arith))
    where
      go : (i ≡ n) ⊎ (i < n) → (i < n → first_open z (spread z.ws (mark_words (cell z) v n r)) j (suc i) ≡ n)
          → first_open z (spread z.ws (mark_words (cell z) v n r)) (suc j) i ≡ n
      go (inl e) f = rw (e, mark_left)
      go (inr h) f = rw (done_mark i h) (f h)

  most_marks_lem : most_marks z (spread z.ws (mark_words (cell z) v n r)) ≡ 2 + (n + r) - 3
  unfolding most_marks words
  most_marks_lem =
      ap (λ (k : ℕ). k / z.ws - 3) (length_spread z.ws (mark_words (cell z) v n r))
      ∙ ap (λ (k : ℕ). k - 3) (mul-div_cancel (length (mark_words (cell z) v n r)) some ∙ length_marks (cell z) v n r)

  pub reads_swap : read_state z (spread z.ws (mark_words (cell z) v n r)) ≡ Swap
  unfolding read_state state_of pick mark_words
  reads_swap = rw (word_spread z 0 (mark_words (cell z) v n r) (omega (arith, length_marks (cell z) v n r)), throughout_same z.ws (magic Swap))

  -- the Boot magic is not there yet
  pub not_booted : throughout (magic Boot) (word z 0 (spread z.ws (mark_words (cell z) v n r))) ≡ false
  unfolding mark_words
  not_booted =
      ap (throughout (magic Boot)) (word_spread z 0 (mark_words (cell z) v n r) (omega (arith, length_marks (cell z) v n r)))
      ∙ throughout_other z.ws (magic Boot) (magic Swap) some (λ e. boot_no_other.0 (sym e))

  reads_valid : word z 1 (spread z.ws (mark_words (cell z) v n r)) ≡ replicate z.ws v
  unfolding mark_words
  reads_valid = word_spread z 1 (mark_words (cell z) v n r) (omega (arith, length_marks (cell z) v n r))

  pub done_marks : marks_done z (spread z.ws (mark_words (cell z) v n r)) ≡ n
  unfolding marks_done
  done_marks = rw most_marks_lem (first_open_lem (2 + (n + r) - 3) 0 (omega arith) (omega arith) (omega arith))

module _ (z : StateSizes) (some : 0 < z.ws) (n r : ℕ) (more : 0 < r) where
  -- the validity word erased, and written over
  pub marks_valid : valid z (spread z.ws (mark_words (cell z) (erased (cell z)) n r)) ≡ true
  unfolding valid
  marks_valid = ap (throughout (erased (cell z))) (reads_valid z some (erased (cell z)) n r more) ∙ throughout_same z.ws (erased (cell z))

  pub marks_void : valid z (spread z.ws (mark_words (cell z) (marked (cell z)) n r)) ≡ false
  unfolding valid
  marks_void =
      ap (throughout (erased (cell z))) (reads_valid z some (marked (cell z)) n r more)
      ∙ throughout_other z.ws (erased (cell z)) (marked (cell z)) some (marked_not_erased (cell z))

  pub progress_marks : progress z (spread z.ws (mark_words (cell z) (erased (cell z)) n r)) ≡ n
  progress_marks = progress_valid z (spread z.ws (mark_words (cell z) (erased (cell z)) n r)) marks_valid ∙ done_marks z some (erased (cell z)) n r more

  pub progress_void : progress z (spread z.ws (mark_words (cell z) (marked (cell z)) n r)) ≡ 2 + (n + r) - 3
  progress_void = progress_invalid z (spread z.ws (mark_words (cell z) (marked (cell z)) n r)) marks_void ∙ most_marks_lem z some (marked (cell z)) n r more

-- a confirmation is pending with a swap's marks and a revert's not all done, and void; not while they count, nor with all done
module _ (z : StateSizes) (N : ℕ) (st : List ℕ) where
  pub confirming_counted : valid z st ≡ true → confirming z N st ≡ false
  unfolding confirming pick
  confirming_counted e = rw e

  pub confirming_reverted : 4 * N ≤ marks_done z st → confirming z N st ≡ false
  unfolding confirming pick
  confirming_reverted h = rw (le-ltb (marks_done z st) (4 * N) h) (go (valid z st) (ltb (marks_done z st) (2 * N)))
    where
      go : (a b : Bool) → pick a false (pick b false false) ≡ false
      go true b = refl
      go false true = refl
      go false false = refl

  pub confirming_swapped : valid z st ≡ false → 2 * N ≤ marks_done z st → marks_done z st < 4 * N → confirming z N st ≡ true
  unfolding confirming pick
  confirming_swapped e h l = rw (e, le-ltb (marks_done z st) (2 * N) h, lt-ltb (marks_done z st) (4 * N) l)

replicate_snoc : (n x : ℕ) (zs : List ℕ) → replicate n x ++ (x ∷ zs) ≡ x ∷ (replicate n x ++ zs)
replicate_snoc zero x zs = refl
replicate_snoc (suc n) x zs = ap (λ (l : List ℕ). x ∷ l) (replicate_snoc n x zs)

-- the next mark written
pub mark_next : (c : Cell) (w v n r : ℕ)
    → written_at c ((2 + n) * w) (replicate w (marked c)) (spread w (mark_words c v n (suc r))) ≡ spread w (mark_words c v (suc n) r)
unfolding mark_words
mark_next c w v n r =
    let e : 2 + n ≡ suc (suc n) = omega arith in
    let bs : List ℕ = mark_words c v n (suc r) in
    ap (λ (k : ℕ). written_at c (k * w) (replicate w (marked c)) (spread w bs)) e
    ∙ written_spread c w (suc (suc n)) (marked c) bs (omega (arith, length_marks c v n (suc r)))
    ∙ ap (λ (x : ℕ). spread w (set bs (suc (suc n)) x)) (ap (λ (x : ℕ). programmed c x (marked c)) (get_or_open c n (suc r) (omega arith)) ∙ programmed_erased c (marked c) (marked_byte c))
    ∙ ap (λ (l : List ℕ). spread w (magic Swap ∷ v ∷ l))
    (set_at (replicate n (marked c)) (erased c) (replicate r (erased c)) (marked c) n (length-replicate n (marked c))
    ∙ replicate_snoc n (marked c) (replicate r (erased c)))

-- the validity word written over
pub void_written : (c : Cell) (w v n r : ℕ) → v < 256 → written_at c w (replicate w (marked c)) (spread w (mark_words c v n r)) ≡ spread w (mark_words c (marked c) n r)
unfolding mark_words
void_written c w v n r h =
    ap (λ (z : ℕ). written_at c z (replicate w (marked c)) (spread w (mark_words c v n r))) (sym (one_times w))
    ∙ written_spread c w 1 (marked c) (mark_words c v n r) (omega (arith, length_marks c v n r))
    ∙ ap (λ (x : ℕ). spread w (mark_words c x n r)) (programmed_marked c v h)
  where
    one_times : (k : ℕ) → 1 * k ≡ k
    one_times k = omega arith

-- ---- the areas of specs/Power, of 2 + t words

pub fresh_marks : (z : StateSizes) (t : ℕ) → magic_area z Swap ((2 + t) * z.ws) ≡ spread z.ws (mark_words (cell z) (erased (cell z)) 0 (t - 0))
unfolding magic_area spread mark_words
fresh_marks z t =
    let e : (2 + t) * z.ws - z.ws ≡ z.ws + t * z.ws = omega arith in
    let o : t ≡ t - 0 = omega arith in
    ap (λ (r : List ℕ). replicate z.ws (magic Swap) ++ r)
    (ap (λ (n : ℕ). replicate n (erased (cell z))) e ∙ sym (replicate-append-replicate z.ws (t * z.ws) (erased (cell z)))
    ∙ ap (λ (r : List ℕ). replicate z.ws (erased (cell z)) ++ r)
    (sym (spread_replicate z.ws t (erased (cell z))) ∙ ap (λ (n : ℕ). spread z.ws (replicate n (erased (cell z)))) o))

pub swapped_marks : (z : StateSizes) (N t : ℕ) → 2 * N ≤ t → spread z.ws (mark_words (cell z) (erased (cell z)) (2 * N) (t - 2 * N)) ≡ swap_marks z N ((2 + t) * z.ws)
unfolding swap_marks spread mark_words
swapped_marks z N t h =
    let u : ℕ = t - 2 * N in
    let a : t ≡ 2 * N + u = omega arith in
    let b : t * z.ws ≡ (2 * N + u) * z.ws = ap (λ (o : ℕ). o * z.ws) a in
    let e : u * z.ws ≡ (2 + t) * z.ws - (2 + 2 * N) * z.ws = omega (arith, b) in
    ap (λ (r : List ℕ). replicate z.ws (magic Swap) ++ (replicate z.ws (erased (cell z)) ++ r))
    (spread_append z.ws (replicate (2 * N) (marked (cell z))) (replicate u (erased (cell z)))
    ∙ ap₂ (λ (l r : List ℕ). l ++ r) (spread_replicate z.ws (2 * N) (marked (cell z)))
    (spread_replicate z.ws u (erased (cell z)) ∙ ap (λ (n : ℕ). replicate n (erased (cell z))) e))

-- n marks done, and invalid
pub void_marks_lem : (z : StateSizes) (n t : ℕ) → n ≤ t → spread z.ws (mark_words (cell z) (marked (cell z)) n (t - n)) ≡ void_marks z n ((2 + t) * z.ws)
unfolding void_marks spread mark_words
void_marks_lem z n t h =
    let u : ℕ = t - n in
    let a : t ≡ n + u = omega arith in
    let b : t * z.ws ≡ (n + u) * z.ws = ap (λ (o : ℕ). o * z.ws) a in
    let e : u * z.ws ≡ (2 + t) * z.ws - (2 + n) * z.ws = omega (arith, b) in
    let m : z.ws + n * z.ws ≡ (1 + n) * z.ws = omega arith in
    ap (λ (r : List ℕ). replicate z.ws (magic Swap) ++ (replicate z.ws (marked (cell z)) ++ r))
    (spread_append z.ws (replicate n (marked (cell z))) (replicate u (erased (cell z)))
    ∙ ap₂ (λ (l r : List ℕ). l ++ r) (spread_replicate z.ws n (marked (cell z)))
    (spread_replicate z.ws u (erased (cell z)) ∙ ap (λ (i : ℕ). replicate i (erased (cell z))) e))
    ∙ ap (λ (r : List ℕ). replicate z.ws (magic Swap) ++ r)
    (sym (append_assoc (replicate z.ws (marked (cell z))) (replicate (n * z.ws) (marked (cell z))) (replicate ((2 + t) * z.ws - (2 + n) * z.ws) (erased (cell z))))
    ∙ ap (λ (r : List ℕ). r ++ replicate ((2 + t) * z.ws - (2 + n) * z.ws) (erased (cell z)))
    (replicate-append-replicate z.ws (n * z.ws) (marked (cell z)) ∙ ap (λ (i : ℕ). replicate i (marked (cell z))) m))

pub reverted_marks : (z : StateSizes) (N t : ℕ) → 4 * N ≤ t → spread z.ws (mark_words (cell z) (marked (cell z)) (4 * N) (t - 4 * N)) ≡ revert_marks z N ((2 + t) * z.ws)
unfolding revert_marks void_marks
reverted_marks z N t h = void_marks_lem z (4 * N) t h

pub reverted_size : (z : StateSizes) (N t : ℕ) → 4 * N ≤ t → length (revert_marks z N ((2 + t) * z.ws)) ≡ (2 + t) * z.ws
reverted_size z N t h =
    let e : length (mark_words (cell z) (marked (cell z)) (4 * N) (t - 4 * N)) ≡ 2 + t = omega (arith, length_marks (cell z) (marked (cell z)) (4 * N) (t - 4 * N)) in
    ap length (sym (reverted_marks z N t h)) ∙ length_spread z.ws (mark_words (cell z) (marked (cell z)) (4 * N) (t - 4 * N)) ∙ ap (λ (o : ℕ). o * z.ws) e
