-- The state area as one byte for each word: how words are read and written, and what a word of one byte reads as. Assumes nothing.
use mathlib.Core.Path.{◌≡◌, refl, sym, ap, ap₂, ◌∙◌}
use mathlib.Core.Bool.{true, false}
use mathlib.Core.Logic.{◌≢◌}
use mathlib.Core.List.{List, [], ◌∷◌, ◌++◌, append_assoc}
use Prim.Native.Nat.{ℕ, zero, suc, ◌+◌, ◌-◌, ◌*◌, ◌≤◌, ◌<◌}
use native.Mathlib.Nat.{zero-mul, not-suc-le-zero, le_of_suc-le-suc}
use native.Mathlib.Omega.{arith}
use lib.ListN.{length, take, drop, replicate, get_or, set, length-append, length-replicate, replicate-append-replicate}
use lib.Seq.{take_at, drop-append-add, take-append-add}
use borrow.Author.Tests.{eq-eqb, ne_eqb}
use Rattle.state.specs.declared.Cell.{Cell}
use Rattle.state.specs.declared.State.{State}
use Rattle.state.specs.declared.State.TheVariants.{Boot, Swap, Revert, DfuDetach}
use Rattle.state.specs.Choice.{pick}
use Rattle.state.specs.Cells.{erased, programmed}
use Rattle.state.specs.Magic.{magic, throughout, holds, state_of}
use Rattle.state.proofs.Cells.{erased_no_magic}
use Rattle.geometry.specs.declared.StateSizes.{StateSizes}
use Rattle.geometry.specs.Geometry.{cell}
use Rattle.mem_flash.specs.Flash.{blank, program, written_at}
use Rattle.mem_flash.proofs.Bytes.{program_none}
use Rattle.mem_flash.proofs.Stretches.{blank_is}
use Rattle.rules.specs.StateArea.{word, read_state}
use Rattle.rules.specs.Power.{magic_area}

-- ---- a byte for each word

-- each byte of bs filling a word of w bytes
unfoldable pub spread : ℕ → List ℕ → List ℕ
spread w [] = []
spread w (x ∷ bs) = replicate w x ++ spread w bs

pub length_spread : (w : ℕ) (bs : List ℕ) → length (spread w bs) ≡ length bs * w
unfolding spread
length_spread w [] = sym (zero-mul w)
length_spread w (x ∷ bs) = length-append (replicate w x) (spread w bs) ∙ omega (arith, length-replicate w x, length_spread w bs)

pub spread_append : (w : ℕ) (us bs : List ℕ) → spread w (us ++ bs) ≡ spread w us ++ spread w bs
unfolding spread
spread_append w [] bs = refl
spread_append w (x ∷ us) bs =
    ap (λ (r : List ℕ). replicate w x ++ r) (spread_append w us bs)
    ∙ sym (append_assoc (replicate w x) (spread w us) (spread w bs))

pub spread_replicate : (w n x : ℕ) → spread w (replicate n x) ≡ replicate (n * w) x
unfolding spread
spread_replicate w zero x = ap (λ (k : ℕ). replicate k x) (sym (zero-mul w))
spread_replicate w (suc n) x =
    let e : w + n * w ≡ suc n * w = omega arith in
    ap (λ (r : List ℕ). replicate w x ++ r) (spread_replicate w n x) ∙ replicate-append-replicate w (n * w) x
    ∙ ap (λ (k : ℕ). replicate k x) e

-- past the first word
skip : (w k x : ℕ) (zs : List ℕ) → drop (suc k * w) (replicate w x ++ zs) ≡ drop (k * w) zs
skip w k x zs =
    let e : suc k * w ≡ length (replicate w x) + k * w = omega (arith, length-replicate w x) in
    ap (λ (n : ℕ). drop n (replicate w x ++ zs)) e ∙ drop-append-add (replicate w x) zs (k * w)

pub word_spread : (z : StateSizes) (k : ℕ) (bs : List ℕ) → k < length bs → word z k (spread z.ws bs) ≡ replicate z.ws (get_or bs k 0)
unfolding spread word
word_spread z k [] h = absurd (not-suc-le-zero h)
word_spread z zero (x ∷ bs) h =
    ap (λ (n : ℕ). take z.ws (drop n (replicate z.ws x ++ spread z.ws bs))) (zero-mul z.ws)
    ∙ take_at (replicate z.ws x) (spread z.ws bs) z.ws (length-replicate z.ws x)
word_spread z (suc k) (x ∷ bs) h = ap (take z.ws) (skip z.ws k x (spread z.ws bs)) ∙ word_spread z k bs (le_of_suc-le-suc h)

-- a word of one byte programmed onto a word of one byte
program_word : (c : Cell) (n x y : ℕ) (zs : List ℕ) → program c (replicate n x ++ zs) (replicate n y) ≡ replicate n (programmed c x y) ++ zs
unfolding program
program_word c zero x y zs = program_none c zs
program_word c (suc n) x y zs = ap (λ (r : List ℕ). programmed c x y ∷ r) (program_word c n x y zs)

pub written_spread : (c : Cell) (w k y : ℕ) (bs : List ℕ) → k < length bs
    → written_at c (k * w) (replicate w y) (spread w bs) ≡ spread w (set bs k (programmed c (get_or bs k 0) y))
unfolding spread written_at
written_spread c w k y [] h = absurd (not-suc-le-zero h)
written_spread c w zero y (x ∷ bs) h =
    ap (λ (n : ℕ). take n (replicate w x ++ spread w bs) ++ program c (drop n (replicate w x ++ spread w bs)) (replicate w y))
    (zero-mul w)
    ∙ program_word c w x y (spread w bs)
written_spread c w (suc k) y (x ∷ bs) h =
    let e : suc k * w ≡ length (replicate w x) + k * w = omega (arith, length-replicate w x) in
    ap (λ (n : ℕ). take n (replicate w x ++ spread w bs) ++ program c (drop n (replicate w x ++ spread w bs)) (replicate w y)) e
    ∙ ap₂ (λ (l r : List ℕ). l ++ program c r (replicate w y))
    (take-append-add (replicate w x) (spread w bs) (k * w))
    (drop-append-add (replicate w x) (spread w bs) (k * w))
    ∙ append_assoc (replicate w x) (take (k * w) (spread w bs)) (program c (drop (k * w) (spread w bs)) (replicate w y))
    ∙ ap (λ (r : List ℕ). replicate w x ++ r) (written_spread c w k y bs (le_of_suc-le-suc h))

-- ---- what a word of one byte reads as

pub throughout_same : (n b : ℕ) → throughout b (replicate n b) ≡ true
unfolding throughout pick
throughout_same zero b = refl
throughout_same (suc n) b = rw (eq-eqb b b refl) (throughout_same n b)

pub throughout_other : (n b x : ℕ) → 0 < n → x ≢ b → throughout b (replicate n x) ≡ false
unfolding throughout pick
throughout_other zero b x h d = absurd (not-suc-le-zero h)
throughout_other (suc n) b x h d = rw (ne_eqb x b d)

pub holds_same : (n b : ℕ) → 0 < n → holds b (replicate n b) ≡ true
unfolding holds pick
holds_same zero b h = absurd (not-suc-le-zero h)
holds_same (suc n) b h = rw (eq-eqb b b refl)

pub holds_other : (n b x : ℕ) → x ≢ b → holds b (replicate n x) ≡ false
unfolding holds pick
holds_other zero b x d = refl
holds_other (suc n) b x d = rw (ne_eqb x b d) (holds_other n b x d)

-- an erased byte is no magic, so an erased word reads Boot
pub erased_reads_boot : (c : Cell) (w : ℕ) → 0 < w → state_of (replicate w (erased c)) ≡ Boot
unfolding state_of pick
erased_reads_boot c w h =
    rw (no_magic Swap, no_magic Revert, no_magic DfuDetach)
  where
    no_magic : (s : State) → throughout (magic s) (replicate w (erased c)) ≡ false
    no_magic s = throughout_other w (magic s) (erased c) h (erased_no_magic c s)

-- and a word of the Revert magic reads Revert, one of the Boot magic Boot
revert_no_swap : magic Revert ≢ magic Swap
unfolding magic
revert_no_swap e = omega arith

pub revert_reads : (w : ℕ) → 0 < w → state_of (replicate w (magic Revert)) ≡ Revert
unfolding state_of pick
revert_reads w h = rw (throughout_other w (magic Swap) (magic Revert) h revert_no_swap, throughout_same w (magic Revert))

pub boot_no_other : (magic Boot ≢ magic Swap) × (magic Boot ≢ magic Revert) × (magic Boot ≢ magic DfuDetach)
unfolding magic
boot_no_other = (λ e. omega arith, λ e. omega arith, λ e. omega arith)

pub boot_reads : (w : ℕ) → 0 < w → state_of (replicate w (magic Boot)) ≡ Boot
unfolding state_of pick
boot_reads w h =
    rw (
      throughout_other w (magic Swap) (magic Boot) h boot_no_other.0,
      throughout_other w (magic Revert) (magic Boot) h boot_no_other.1,
      throughout_other w (magic DfuDetach) (magic Boot) h boot_no_other.2,
    )

-- so does a state area that begins with such a word
pub area_reads : (s : State) (z : StateSizes) (n : ℕ) → state_of (replicate z.ws (magic s)) ≡ s → read_state z (magic_area z s n) ≡ s
unfolding read_state word magic_area
area_reads s z n e =
    ap (λ (i : ℕ). state_of (take z.ws (drop i (replicate z.ws (magic s) ++ replicate (n - z.ws) (erased (cell z)))))) (zero-mul z.ws)
    ∙ ap state_of (take_at (replicate z.ws (magic s)) (replicate (n - z.ws) (erased (cell z))) z.ws (length-replicate z.ws (magic s))) ∙ e

-- a state area whose first word is erased reads Boot
pub blank_boot : (z : StateSizes) (n : ℕ) (st : List ℕ) → 0 < z.ws → z.ws ≤ n → n ≤ length st → read_state z (blank (cell z) n st) ≡ Boot
unfolding read_state word
blank_boot z n st some more fit =
    let r : ℕ = n - z.ws in
    let e : n ≡ z.ws + r = omega arith in
    ap state_of
    (ap₂ (λ (i : ℕ) (xs : List ℕ). take z.ws (drop i xs)) (zero-mul z.ws)
    (blank_is (cell z) n st fit
    ∙ ap (λ (l : List ℕ). l ++ drop n st)
    (ap (λ (o : ℕ). replicate o (erased (cell z))) e ∙ sym (replicate-append-replicate z.ws r (erased (cell z))))
    ∙ append_assoc (replicate z.ws (erased (cell z))) (replicate r (erased (cell z))) (drop n st))
    ∙ take_at (replicate z.ws (erased (cell z))) (replicate r (erased (cell z)) ++ drop n st) z.ws (length-replicate z.ws (erased (cell z))))
    ∙ erased_reads_boot (cell z) z.ws some

-- every magic is a byte
pub magic_byte : (s : State) → magic s < 256
unfolding magic
magic_byte Boot = omega arith
magic_byte Swap = omega arith
magic_byte Revert = omega arith
magic_byte DfuDetach = omega arith
