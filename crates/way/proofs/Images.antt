-- The images before and after a swap, in pages: the first and the last table of the swap and of the revert are those that the
-- statement names. Serves `power` and `never_mixed`. Assumes nothing.
use mathlib.Core.Path.{◌≡◌, sym, ap, ap₂, ◌∙◌}
use mathlib.Core.List.{List, ◌++◌, append_assoc, append-nil}
use Prim.Native.Nat.{ℕ, suc, ◌+◌, ◌-◌, ◌*◌, ◌≤◌, ◌<◌}
use native.Mathlib.Nat.{one-mul}
use native.Mathlib.Omega.{arith}
use lib.ListN.{length, take, drop, length-append, length-drop, take-append-drop, drop_of_length-le}
use lib.Seq.{drop_at, length-take-le, take_all, drop-append-add, drop-append-le}
use Rattle.mem_flash.specs.Areas.{Bytes}
use Rattle.mem_flash.proofs.Stretches.{bytes_take, bytes_drop, bytes_append}
use Rattle.rules.specs.Power.{page_at, with_page}
use Rattle.rules.proofs.Pages.{mix, pages_le, page_take, page_append_left, page_append_right}
use Rattle.way.proofs.Tables.{Images}

-- DFU after the swap: its first page, the old active image, and what lay behind
unfoldable pub new_dfu : ℕ → List ℕ → List ℕ → List ℕ
new_dfu p A D = take p D ++ (A ++ drop (p + length A) D)

-- A of N pages of p bytes, D at least a page longer
pub record Paged (p N : ℕ) (A D : List ℕ) : Type 0 where
  pub some : 0 < p
  pub active : length A ≡ N * p
  pub dfu : N * p + p ≤ length D

module _ {p N : ℕ} {A D : List ℕ} (q : Paged p N A D) where
  first : length (take p D) ≡ p
  first = length-take-le p D (omega arith)

  pub images : Bytes A → Bytes D → Images p N A D (take (length A) D) (new_dfu p A D)
  unfolding new_dfu
  images hA hD =
      let a : length (take (length A) D) ≡ length A = length-take-le (length A) D (omega arith) in
      record {
        some = q.some;
        active = q.active;
        dfu = q.dfu;
        active_same = a;
        dfu_same = simp (length-append, length-drop) (omega (arith, first));
        active_bytes = hA;
        dfu_bytes = hD;
        active_bytes' = bytes_take (length A) D hD;
        dfu_bytes' =
            bytes_append (take p D) (A ++ drop (p + length A) D) (bytes_take p D hD)
            (bytes_append A (drop (p + length A) D) hA (bytes_drop (p + length A) D hD));
        active_page = λ k h. page_take p k (length A) D (omega (arith, pages_le p h));
        dfu_page = λ k h.
            page_append_right p (suc k) 1 k (take p D) (A ++ drop (p + length A) D) (first ∙ omega arith) (omega arith)
            ∙ page_append_left p k A (drop (p + length A) D) (omega (arith, pages_le p h));
      }

  -- all of A
  pub mix_all_active : (ys : List ℕ) → length ys ≡ length A → mix p N A ys ≡ A
  unfolding mix
  mix_all_active ys e =
      ap₂ (λ (l r : List ℕ). l ++ r) (take_all (N * p) A (omega arith)) (drop_of_length-le ys {i = N * p} (omega arith))
      ∙ append-nil A

  -- what lies behind the pages of the swap is as it was
  pub dfu_behind : drop (p + length A) (new_dfu p A D) ≡ drop (p + length A) D
  unfolding new_dfu
  dfu_behind =
      ap (drop (p + length A)) (sym (append_assoc (take p D) A (drop (p + length A) D)))
      ∙ drop_at (take p D ++ A) (drop (p + length A) D) (p + length A) (simp length-append (omega (arith, first)))

  -- all of D, and its first page
  pub mix_all_dfu : mix p (suc N) D (new_dfu p A D) ≡ D
  unfolding mix
  mix_all_dfu =
      let e : suc N * p ≡ p + length A = omega arith in
      ap (λ (z : ℕ). take z D ++ drop z (new_dfu p A D)) e
      ∙ ap (λ (r : List ℕ). take (p + length A) D ++ r) dfu_behind ∙ take-append-drop (p + length A) D

  pub mix_first : mix p 1 D (new_dfu p A D) ≡ new_dfu p A D
  unfolding mix new_dfu
  mix_first =
      ap (λ (z : ℕ). take z D ++ drop z (new_dfu p A D)) (one-mul p)
      ∙ ap (λ (r : List ℕ). take p D ++ r) (drop_at (take p D) (A ++ drop (p + length A) D) p first)

  -- the old DFU but for page N
  pub mix_reverted : 1 ≤ N → mix p N D (new_dfu p A D) ≡ with_page p N (page_at p (N - 1) A) D
  unfolding mix new_dfu with_page page_at
  mix_reverted more =
      let k : ℕ = N - 1 in
      let n : N ≡ suc k = omega arith in
      let np : N * p ≡ suc k * p = ap (λ (z : ℕ). z * p) n in
      let e : N * p ≡ length (take p D) + k * p = omega (arith, np, first) in
      let z : p + length A ≡ N * p + p = omega arith in
      let s : length (drop (k * p) A) ≤ p = simp length-drop (omega (arith, np)) in
      ap (λ (r : List ℕ). take (N * p) D ++ r)
      (ap (λ (z : ℕ). drop z (new_dfu p A D)) e
      ∙ drop-append-add (take p D) (A ++ drop (p + length A) D) (k * p)
      ∙ drop-append-le (k * p) A (drop (p + length A) D) (omega (arith, np))
      ∙ ap₂ (λ (l : List ℕ) (z : ℕ). l ++ drop z D) (sym (take_all p (drop (k * p) A) s)) z)
