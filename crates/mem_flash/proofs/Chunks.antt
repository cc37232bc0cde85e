-- Laws of a copy in chunks, byte by byte: it stays within its stretch, and a stretch that is erased and filled in chunks holds the
-- source's bytes, whatever it held. Assumes nothing.
use mathlib.Core.Path.{◌≡◌, sym, ap, ◌∙◌, subst}
use mathlib.Core.List.{List, ◌++◌, append_assoc}
use Prim.Native.Nat.{ℕ, zero, suc, ◌+◌, ◌*◌, ◌≤◌}
use native.Mathlib.Nat.{zero-mul, suc-mul, min-le_left}
use native.Mathlib.Omega.{arith}
use lib.ListN.{length, take, drop, replicate, length-append, length-take, length-drop, replicate-append-replicate}
use lib.Seq.{drop-drop, take-add, length-take-le}
use Rattle.state.specs.declared.Cell.{Cell}
use Rattle.state.specs.Cells.{erased}
use Rattle.mem_flash.specs.Flash.{erased_at, written_at}
use Rattle.mem_flash.specs.Areas.{Bytes}
use Rattle.mem_flash.proofs.Stretches.{bytes_take, bytes_drop, erased_within, Beside, beside_written, erased_beside, written_erased}

-- n chunks of b bytes written one after the other
unfoldable pub chunked : Cell → ℕ → ℕ → ℕ → ℕ → List ℕ → List ℕ → List ℕ
chunked c zero at from b source xs = xs
chunked c (suc n) at from b source xs = chunked c n (at + b) (from + b) b source (written_at c at (take b (drop from source)) xs)

module _ (c : Cell) where
  pub beside_chunked : {at n : ℕ} {xs ys : List ℕ} (j p from b : ℕ) (source : List ℕ) → at ≤ p → p + j * b ≤ at + n → at + n ≤ length xs
      → Beside at n xs ys → Beside at n xs (chunked c j p from b source ys)
  unfolding chunked
  beside_chunked zero p from b source lo hi fit h = h
  beside_chunked {at = at} {n = n} {xs = xs} {ys = ys} (suc j) p from b source lo hi fit h =
      let bs : List ℕ = take b (drop from source) in
      let l : length bs ≤ b = simp length-take (min-le_left b (length (drop from source))) in
      let m : p + (j * b + b) ≤ at + n = rw suc-mul at hi in
      beside_chunked {ys = written_at c p bs ys} j (p + b) (from + b) b source (omega arith) (omega arith) fit (beside_written c p bs lo (omega arith) fit h)

  -- on an erased stretch the chunks leave the source's bytes
  chunked_erased : (n at from b : ℕ) (source before behind : List ℕ) → length before ≡ at → Bytes source
      → from + n * b ≤ length source
      → chunked c n at from b source (before ++ (replicate (n * b) (erased c) ++ behind))
      ≡ before ++ (take (n * b) (drop from source) ++ behind)
  unfolding chunked
  chunked_erased zero at from b source before behind e h fit = rw (zero-mul b)
  chunked_erased (suc n) at from b source before behind e h fit =
      let bs : List ℕ = take b (drop from source) in
      let fit' : from + (n * b + b) ≤ length source = rw suc-mul at fit in
      let l : length bs ≡ b = length-take-le b (drop from source) (simp length-drop (omega arith)) in
      let m : suc n * b ≡ b + n * b = omega arith in
      let rest : List ℕ = replicate (n * b) (erased c) ++ behind in
      ap (λ (k : ℕ). chunked c n (at + b) (from + b) b source (written_at c at bs (before ++ (replicate k (erased c) ++ behind)))) m
      ∙ ap (λ (r : List ℕ). chunked c n (at + b) (from + b) b source (written_at c at bs (before ++ r)))
      (ap (λ (r : List ℕ). r ++ behind) (sym (replicate-append-replicate b (n * b) (erased c)))
      ∙ append_assoc (replicate b (erased c)) (replicate (n * b) (erased c)) behind)
      ∙ ap (chunked c n (at + b) (from + b) b source)
      (written_erased c before bs rest at b e l (bytes_take b (drop from source) (bytes_drop from source h))
      ∙ sym (append_assoc before bs rest))
      ∙ chunked_erased n (at + b) (from + b) b source (before ++ bs) behind (simp length-append (omega arith)) h (omega arith)
      ∙ append_assoc before bs (take (n * b) (drop (from + b) source) ++ behind)
      ∙ ap (λ (r : List ℕ). before ++ r)
      (sym (append_assoc bs (take (n * b) (drop (from + b) source)) behind)
      ∙ ap (λ (r : List ℕ). r ++ behind)
      (ap (λ (r : List ℕ). bs ++ take (n * b) r) (sym (drop-drop b from source))
      ∙ sym (take-add b (n * b) (drop from source))
      ∙ ap (λ (k : ℕ). take k (drop from source)) (sym m)))

  -- a page erased and filled in chunks holds the source's page, whatever it held
  pub page_filled : {at p : ℕ} {xs ys : List ℕ} (n from b : ℕ) (source : List ℕ) → n * b ≡ p → Bytes source → from + p ≤ length source
      → at + p ≤ length xs
      → Beside at p xs ys
      → chunked c n at from b source (erased_at c at p ys) ≡ take at xs ++ (take p (drop from source) ++ drop (at + p) xs)
  page_filled {at} {p} {xs} n from b source e h hs ht near =
      ap (chunked c n at from b source) (erased_beside c ht near ∙ erased_within c at p xs ht)
      ∙ subst
      (λ (z : ℕ). chunked c n at from b source (take at xs ++ (replicate z (erased c) ++ drop (at + p) xs))
      ≡ take at xs ++ (take z (drop from source) ++ drop (at + p) xs))
      e
      (chunked_erased n at from b source (take at xs) (drop (at + p) xs) (length-take-le at xs (omega arith)) h (omega arith))
