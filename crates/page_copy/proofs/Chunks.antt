-- Laws of the copy of a page on one area, whichever it is: its chunks, a turn, a cut and an end; and the erase with the chunks after
-- it. `copy_chunks` and `copy_page` cite them. Assumes nothing.
use mathlib.Core.Path.{◌≡◌, refl, ap, sym, ◌∙◌}
use mathlib.Core.List.{List, ◌∷◌, ◌++◌}
use Prim.Native.Nat.{ℕ, zero, suc, ◌+◌, ◌-◌, ◌*◌, ◌/◌, ◌≤◌, ◌<◌}
use native.Mathlib.Nat.{add-div_left, div-eq_of_lt, div-mul-le_self, suc-mul}
use native.Mathlib.Numerals.{add-one}
use native.Mathlib.Omega.{arith}
use lib.ListN.{length, take, drop, length-append, length-drop}
use lib.Seq.{take_at, drop_at, drop-drop, length-take-le}
use Rattle.std.proofs.lemmas.List.{drop-take, take-take}
use Rattle.state.specs.declared.Cell.{Cell}
use Rattle.geometry.specs.declared.Geometry.{Geometry}
use Rattle.geometry.specs.Geometry.{cell, page}
use Rattle.mem_flash.specs.declared.Budget.{Budget}
use Rattle.std.specs.Prelude.{Ok}
use Rattle.mem_flash.specs.Flash.{Area, Flash, write, erase_ops}
use Rattle.mem_flash.specs.Run.{Flow, cut, on, ended, run, placed, InArea, write_ops}
use Rattle.mem_flash.proofs.Runs.{then_on, then_cut, area_on, area_cut}
use Rattle.rules.specs.Steps.{chunk_ops, fill_ops}

-- ---- the chunks

-- the room for those that are left
pub chunk_room : (to i next b l : ℕ) (page chunk rest : List ℕ) → next ≡ i + 1 → page ≡ chunk ++ rest → length chunk ≡ b
    → to + i * b + length page ≤ l → to + next * b + length rest ≤ l
chunk_room to i next b l page chunk rest e s n h = rw e (omega (arith, h, n, ap length s, length-append chunk rest))

module _ (c : Cell) where
  -- chunks from a place on are those of what lies there
  chunks_from : (n : ℕ) (a : Area) (at m from b : ℕ) (src : List ℕ) → chunk_ops c n a at (m + from) b src ≡ chunk_ops c n a at from b (drop m src)
  unfolding chunk_ops
  chunks_from zero a at m from b src = refl
  chunks_from (suc n) a at m from b src =
      let e : m + from + b ≡ m + (from + b) = omega arith in
      rw (e, ← drop-drop from m src, chunks_from n a (at + b) m (from + b) b src)

  -- the first chunk, and those of the rest
  chunks_next : (a : Area) (at b : ℕ) (chunk rest : List ℕ) → 0 < b → length chunk ≡ b
      → chunk_ops c (length (chunk ++ rest) / b) a at 0 b (chunk ++ rest) ≡ write c a at chunk ∷ chunk_ops c (length rest / b) a (at + b) 0 b rest
  unfolding chunk_ops
  chunks_next a at b chunk rest h l =
      let n : length (chunk ++ rest) / b ≡ suc (length rest / b) = rw (length-append chunk rest, l, add-div_left (length rest) h, add-one) in
      let z : 0 + b ≡ b + 0 = omega arith in
      rw (n, z, take_at chunk rest b l, chunks_from (length rest / b) a (at + b) b 0 b (chunk ++ rest), drop_at chunk rest b l)

  -- a turn: the chunk at the index j, after i of them
  module _ (k to i j b : ℕ) (page chunk rest xs xs' : List ℕ) (r : Flow) (w : InArea k (write_ops c (to + j * b) chunk) xs xs' r) (z : j ≡ i)
      (s : page ≡ chunk ++ rest) (n : length chunk ≡ b) (h : 0 < b) where
    chunk_at : InArea k (write_ops c (to + i * b) chunk) xs xs' r
    chunk_at = rw z at w

    pub chunk_on : (l : Budget) (next : ℕ) → r ≡ Ok l → next ≡ i + 1 → (a : Area) (f : Flash)
        → run k (chunk_ops c (length page / b) a (to + i * b) 0 b page) (placed a xs f)
        ≡ run l.0 (chunk_ops c (length rest / b) a (to + next * b) 0 b rest) (placed a xs' f)
    chunk_on l next o e a f =
        let q : to + (i + 1) * b ≡ to + i * b + b = omega arith in
        rw (s, e, q, chunks_next a (to + i * b) b chunk rest h n)
        (then_on k (write_ops c (to + i * b) chunk a) _ (placed a xs f) (placed a xs' f) r (chunk_at a f) l o)

    pub chunk_cut : r ≡ cut → (a : Area) (f : Flash)
        → run k (chunk_ops c (length page / b) a (to + i * b) 0 b page) (placed a xs f) ≡ ended (placed a xs' f) cut
    chunk_cut o a f =
        rw (s, chunks_next a (to + i * b) b chunk rest h n)
        (then_cut k (write_ops c (to + i * b) chunk a) _ (placed a xs f) (placed a xs' f) r (chunk_at a f) o)

  -- no whole chunk is left
  pub chunk_end : (k at b : ℕ) (rest xs : List ℕ) → length rest < b → (a : Area) (f : Flash)
      → run k (chunk_ops c (length rest / b) a at 0 b rest) (placed a xs f) ≡ ended (placed a xs f) (on k)
  unfolding chunk_ops run
  chunk_end k at b rest xs h a f = rw (div-eq_of_lt h)

  -- chunks know nothing of what lies behind them
  chunks_front : (n : ℕ) (a : Area) (at from b p : ℕ) (src : List ℕ) → from + n * b ≤ p
      → chunk_ops c n a at from b (take p src) ≡ chunk_ops c n a at from b src
  unfolding chunk_ops
  chunks_front zero a at from b p src h = refl
  chunks_front (suc n) a at from b p src h =
      let m : from + (b + n * b) ≤ p = omega (arith, suc-mul n b) in
      let q : from + (p - from) ≡ p = omega arith in
      let t : take b (drop from (take p src)) ≡ take b (drop from src) =
      ap (λ (k : ℕ). take b (drop from (take k src))) (sym q)
      ∙ ap (take b) (drop-take from (p - from) src)
      ∙ take-take b (p - from) (drop from src) (omega arith) in
      rw (t, chunks_front n a (at + b) (from + b) b p src (omega arith))

  -- the chunks of a page of p bytes, as the code lends it
  page_chunks : (p off b at : ℕ) (src : List ℕ) (a : Area) → off + p ≤ length src
      → chunk_ops c (length (take (off + p - off) (drop off src)) / b) a at 0 b (take (off + p - off) (drop off src)) ≡ chunk_ops c (p / b) a at off b src
  page_chunks p off b at src a fit =
      let d : off + p - off ≡ p = omega arith in
      let l : length (take p (drop off src)) ≡ p = length-take-le p (drop off src) (simp length-drop (omega arith)) in
      let z : off ≡ off + 0 = omega arith in
      rw (d, l, chunks_front (p / b) a at 0 b p (drop off src) (omega (arith, div-mul-le_self p b)))
      (sym (chunks_from (p / b) a at off 0 b src) ∙ ap (λ (k : ℕ). chunk_ops c (p / b) a at k b src) (sym z))

-- ---- a page: the erase, then the chunks

module _ (g : Geometry) (k unit to from : ℕ) (src xs xs₁ : List ℕ) (r : Flow) {c : Cell} {p at : ℕ} (h : c ≡ cell g.state) (e : p ≡ page g) (x : at ≡ to * p)
    (w : InArea k (λ a. erase_ops c unit a at (at + p - at)) xs xs₁ r) where
  wiped : InArea k (λ a. erase_ops (cell g.state) unit a (to * page g) (page g)) xs xs₁ r
  wiped = let d : at + p - at ≡ p = omega arith in rw (e, h) at (rw x at (rw d at w))

  pub fill_cut : r ≡ cut → InArea k (fill_ops (cell g.state) unit (page g) g.b (to * page g) (from * page g) src) xs xs₁ cut
  unfolding fill_ops
  fill_cut o = area_cut k _ xs xs₁ r wiped (λ a. chunk_ops (cell g.state) (page g / g.b) a (to * page g) (from * page g) g.b src) o

  pub fill_on : {l : Budget} {off : ℕ} (xs₂ : List ℕ) (q : Flow) → r ≡ Ok l → off ≡ from * p → off + p ≤ length src
      → InArea l.0 (λ a. chunk_ops c (length (take (off + p - off) (drop off src)) / g.b) a at 0 g.b (take (off + p - off) (drop off src))) xs₁ xs₂ q
      → InArea k (fill_ops (cell g.state) unit (page g) g.b (to * page g) (from * page g) src) xs xs₂ q
  unfolding fill_ops
  fill_on {l} {off} xs₂ q o y fit v =
      let u : InArea l.0 (λ a. chunk_ops c (p / g.b) a at off g.b src) xs₁ xs₂ q = λ a f. rw (page_chunks c p off g.b at src a fit) at (v a f) in
      area_on k _ xs xs₁ r wiped (λ a. chunk_ops (cell g.state) (page g / g.b) a (to * page g) (from * page g) g.b src) l xs₂ q o (rw (e, h) at (rw (x, y) at u))
