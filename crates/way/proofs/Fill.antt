-- A page filled, from a page that may hold anything: erased unit by unit, then written in chunks. Done whole it holds the source's
-- page; cut anywhere, nothing but the page is touched. Serves `power`, on either kind of
-- cells. Assumes nothing.
use mathlib.Core.Path.{◌≡◌, refl, sym, ap, ◌∙◌, subst}
use mathlib.Core.List.{List, ◌++◌}
use Prim.Native.Nat.{ℕ, zero, suc, ◌+◌, ◌-◌, ◌*◌, ◌/◌, ◌≤◌, ◌<◌}
use native.Mathlib.Nat.{mul-le-mul_right, not-suc-le-zero, le_of_suc-le-suc, lt_of_not-le}
use native.Mathlib.Decide.{dec_le}
use native.Mathlib.Omega.{arith}
use lib.ListN.{length, take, drop, length-append}
use Rattle.state.specs.declared.Cell.{Cell}
use Rattle.mem_flash.specs.Flash.{Area, Flash, Op, write, erased_at, written_at, apply_all, erase_ops, after}
use Rattle.mem_flash.specs.Run.{placed}
use Rattle.mem_flash.specs.Areas.{Bytes}
use Rattle.mem_flash.proofs.Runs.{write_placed}
use Rattle.mem_flash.proofs.Stretches.{Beside, beside_erased}
use Rattle.mem_flash.proofs.Chunks.{chunked, beside_chunked, page_filled}
use Rattle.mem_flash.proofs.After.{apply_append, after_within, after_first, after_next, after_behind}
use Rattle.mem_flash.proofs.Erases.{Held, erase_count, erase_whole, erase_held}
use Rattle.rules.specs.Steps.{chunk_ops, fill_ops}

-- ---- the chunks of a copy

module _ (c : Cell) where
  chunks_placed : (n : ℕ) (a : Area) (at from b : ℕ) (source xs : List ℕ) (f : Flash)
      → apply_all (chunk_ops c n a at from b source) (placed a xs f) ≡ placed a (chunked c n at from b source xs) f
  unfolding apply_all chunk_ops chunked
  chunks_placed zero a at from b source xs f = refl
  chunks_placed (suc n) a at from b source xs f =
      ap (apply_all (chunk_ops c n a (at + b) (from + b) b source)) (write_placed c a at (take b (drop from source)) xs f)
      ∙ chunks_placed n a (at + b) (from + b) b source (written_at c at (take b (drop from source)) xs) f

  pub chunks_count : (n : ℕ) (a : Area) (at from b : ℕ) (source : List ℕ) → length (chunk_ops c n a at from b source) ≡ n
  unfolding chunk_ops
  chunks_count zero a at from b source = refl
  chunks_count (suc n) a at from b source = ap suc (chunks_count n a (at + b) (from + b) b source)

  -- cut at a chunk: those before it are written, and it is as it was
  chunks_part : (j n : ℕ) (a : Area) (at from b : ℕ) (source xs : List ℕ) (f : Flash) → j < n
      → after j (chunk_ops c n a at from b source) (placed a xs f) ≡ placed a (chunked c j at from b source xs) f
  unfolding chunk_ops chunked
  chunks_part j zero a at from b source xs f h = absurd (not-suc-le-zero h)
  chunks_part zero (suc n) a at from b source xs f h = after_first (chunk_ops c (suc n) a at from b source) (placed a xs f)
  chunks_part (suc j) (suc n) a at from b source xs f h =
      after_next j (write c a at (take b (drop from source))) (chunk_ops c n a (at + b) (from + b) b source) (placed a xs f)
      ∙ ap (after j (chunk_ops c n a (at + b) (from + b) b source)) (write_placed c a at (take b (drop from source)) xs f)
      ∙ chunks_part j n a (at + b) (from + b) b source (written_at c at (take b (drop from source)) xs) f (le_of_suc-le-suc h)

  -- ---- a page filled

  fill_placed : (unit p b at from : ℕ) (a : Area) (source ys : List ℕ) (f : Flash) → p / unit * unit ≡ p
      → apply_all (fill_ops c unit p b at from source a) (placed a ys f)
      ≡ placed a (chunked c (p / b) at from b source (erased_at c at p ys)) f
  unfolding fill_ops
  fill_placed unit p b at from a source ys f units =
      apply_append (erase_ops c unit a at p) (chunk_ops c (p / b) a at from b source) (placed a ys f)
      ∙ ap (apply_all (chunk_ops c (p / b) a at from b source)) (erase_whole c unit a at p units ys f)
      ∙ chunks_placed (p / b) a at from b source (erased_at c at p ys) f

  -- it counts an operation for each unit and each chunk
  pub fill_count : (unit p b at from : ℕ) (source : List ℕ) (a : Area) → length (fill_ops c unit p b at from source a) ≡ p / unit + p / b
  unfolding fill_ops
  fill_count unit p b at from source a =
      omega (
        arith,
        length-append (erase_ops c unit a at p) (chunk_ops c (p / b) a at from b source),
        erase_count c unit a at p,
        chunks_count (p / b) a at from b source,
      )

-- a page of p bytes at `at`, in whole units and whole chunks, of an area that held base and now holds ys, which may differ there
pub record Fillable (unit p b at : ℕ) (base ys : List ℕ) : Type 0 where
  pub units : p / unit * unit ≡ p
  pub chunks : p / b * b ≡ p
  pub inside : at + p ≤ length base
  pub beside : Beside at p base ys

module _ (c : Cell) {unit p b at : ℕ} {base ys : List ℕ} (r : Fillable unit p b at base ys) (from : ℕ) (source : List ℕ) (a : Area)
    (f : Flash) where
  abbrev erases : List Op
  erases = erase_ops c unit a at p

  abbrev chunks : List Op
  chunks = chunk_ops c (p / b) a at from b source

  pub fill_whole : Bytes source → from + p ≤ length source
      → apply_all (fill_ops c unit p b at from source a) (placed a ys f)
      ≡ placed a (take at base ++ (take p (drop from source) ++ drop (at + p) base)) f
  fill_whole bytes inside =
      fill_placed c unit p b at from a source ys f r.units
      ∙ ap (λ (l : List ℕ). placed a l f) (page_filled c (p / b) from b source r.chunks bytes inside r.inside r.beside)

  -- the erase, and then some chunks, touch nothing but the page
  chunks_beside : (j : ℕ) → j ≤ p / b → Beside at p base (chunked c j at from b source (erased_at c at p ys))
  chunks_beside j l =
      beside_chunked c j at from b source (omega arith) (omega (arith, mul-le-mul_right b l, r.chunks)) r.inside
      (beside_erased c at p (omega arith) (omega arith) r.inside r.beside)

  pub fill_held : Held at p a base f (apply_all (fill_ops c unit p b at from source a) (placed a ys f))
  fill_held =
      record {
        held = chunked c (p / b) at from b source (erased_at c at p ys);
        same = fill_placed c unit p b at from a source ys f r.units;
        beside = chunks_beside (p / b) (omega arith);
      }

  -- and so does what a cut inside leaves of them
  pub fill_cut_held : (k : ℕ) → k < p / unit + p / b → Held at p a base f (after k (fill_ops c unit p b at from source a) (placed a ys f))
  unfolding fill_ops
  fill_cut_held k few = go (dec_le (length erases) k)
    where
      go : Dec (length erases ≤ k) → Held at p a base f (after k (erases ++ chunks) (placed a ys f))
      go (no h) =
          subst (λ (x : Flash). Held at p a base f x) (sym (after_within k erases chunks (placed a ys f) (lt_of_not-le h)))
          (erase_held c unit a at p f r.inside r.beside k (omega (arith, lt_of_not-le h, erase_count c unit a at p)))
      go (yes h) =
          let j : ℕ = k - length erases in
          let l : j < p / b = omega (arith, erase_count c unit a at p) in
          record {
            held = chunked c j at from b source (erased_at c at p ys);
            same =
                after_behind k erases chunks (placed a ys f) h
                ∙ ap (after j chunks) (erase_whole c unit a at p r.units ys f)
                ∙ chunks_part c j (p / b) a at from b source (erased_at c at p ys) f l;
            beside = chunks_beside j (omega arith);
          }
