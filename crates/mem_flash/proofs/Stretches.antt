-- Laws of an area's bytes under erases and writes: lengths are kept, erases that touch are one, and what a stretch may hold
-- without the rest being touched (`Beside`). Of the byte rule they use that an erased byte takes what is written. Assumes nothing.
use mathlib.Core.Path.{◌≡◌, refl, sym, ap, ap₂, ◌∙◌, subst}
use mathlib.Core.List.{List, [], ◌∷◌, ◌++◌, append-nil}
use Prim.Native.Nat.{ℕ, zero, suc, ◌+◌, ◌-◌, ◌≤◌, ◌<◌}
use native.Mathlib.Nat.{zero-add, suc-add, not-suc-le-zero, le_of_suc-le-suc}
use native.Mathlib.Omega.{arith}
use lib.ListN.{length, take, drop, replicate, length-append, length-drop, length-replicate, take-append-drop, drop_of_length-le}
use lib.Seq.{take_at, drop_at, take-append-le, drop-append-add, take-take, drop-drop, length-take-le}
use Rattle.state.specs.declared.Cell.{Cell}
use Rattle.state.specs.Cells.{erased}
use Rattle.mem_flash.specs.Flash.{blank, program, erased_at, written_at}
use Rattle.mem_flash.specs.Areas.{Bytes}
use Rattle.state.proofs.Cells.{programmed_erased}
use Rattle.mem_flash.proofs.Bytes.{program_none, program_split}

-- ---- lists of bytes

pub bytes_take : (n : ℕ) (xs : List ℕ) → Bytes xs → Bytes (take n xs)
bytes_take zero xs h = tt
bytes_take (suc n) [] h = tt
bytes_take (suc n) (x ∷ xs) h = (h.0, bytes_take n xs h.1)

pub bytes_drop : (n : ℕ) (xs : List ℕ) → Bytes xs → Bytes (drop n xs)
bytes_drop zero xs h = h
bytes_drop (suc n) [] h = tt
bytes_drop (suc n) (x ∷ xs) h = bytes_drop n xs h.1

pub bytes_append : (xs ys : List ℕ) → Bytes xs → Bytes ys → Bytes (xs ++ ys)
bytes_append [] ys h k = k
bytes_append (x ∷ xs) ys h k = (h.0, bytes_append xs ys h.1 k)

pub bytes_replicate : (n x : ℕ) → x < 256 → Bytes (replicate n x)
bytes_replicate zero x h = tt
bytes_replicate (suc n) x h = (h, bytes_replicate n x h)

-- ---- erases and writes

module _ (c : Cell) where
  -- within an area an erase is a run of erased bytes
  pub blank_is : (n : ℕ) (ys : List ℕ) → n ≤ length ys → blank c n ys ≡ replicate n (erased c) ++ drop n ys
  unfolding blank
  blank_is zero ys h = refl
  blank_is (suc n) [] h = absurd (not-suc-le-zero h)
  blank_is (suc n) (y ∷ ys) h = ap (λ (l : List ℕ). erased c ∷ l) (blank_is n ys (le_of_suc-le-suc h))

  pub erased_within : (from n : ℕ) (xs : List ℕ) → from + n ≤ length xs
      → erased_at c from n xs ≡ take from xs ++ (replicate n (erased c) ++ drop (from + n) xs)
  unfolding erased_at
  erased_within from n xs fit =
      ap (λ (l : List ℕ). take from xs ++ l)
      (blank_is n (drop from xs) (simp length-drop (omega arith))
      ∙ ap (λ (l : List ℕ). replicate n (erased c) ++ l) (drop-drop n from xs))

  -- an erase of all bytes
  pub blank_all : (n : ℕ) (ys : List ℕ) → length ys ≡ n → blank c n ys ≡ replicate n (erased c)
  blank_all n ys e =
      blank_is n ys (omega arith) ∙ ap (λ (l : List ℕ). replicate n (erased c) ++ l) (drop_of_length-le ys {i = n} (omega arith))
      ∙ append-nil (replicate n (erased c))

  -- an erase, and one right behind it, are one erase of both stretches
  erased_nil : (from n : ℕ) → erased_at c from n [] ≡ []
  unfolding erased_at blank
  erased_nil zero zero = refl
  erased_nil zero (suc n) = refl
  erased_nil (suc from) zero = refl
  erased_nil (suc from) (suc n) = refl

  blank_add : (n m : ℕ) (xs : List ℕ) → erased_at c n m (blank c n xs) ≡ blank c (n + m) xs
  unfolding erased_at blank
  blank_add zero m xs = ap (λ (k : ℕ). blank c k xs) (sym (zero-add m))
  blank_add (suc n) m [] = erased_nil (suc n) m ∙ sym (erased_nil 0 (suc n + m))
  blank_add (suc n) m (x ∷ xs) = rw (suc-add n m) (ap (λ (l : List ℕ). erased c ∷ l) (blank_add n m xs))

  pub erased_add : (from n m : ℕ) (xs : List ℕ) → erased_at c (from + n) m (erased_at c from n xs) ≡ erased_at c from (n + m) xs
  unfolding erased_at
  erased_add zero n m xs = ap (λ (k : ℕ). erased_at c k m (blank c n xs)) (zero-add n) ∙ blank_add n m xs
  erased_add (suc from) n m [] =
      ap (erased_at c (suc from + n) m) (erased_nil (suc from) n) ∙ erased_nil (suc from + n) m ∙ sym (erased_nil (suc from) (n + m))
  erased_add (suc from) n m (x ∷ xs) = rw (suc-add from n) (ap (λ (l : List ℕ). x ∷ l) (erased_add from n m xs))

  -- bytes programmed onto as many erased ones
  program_erased : (ys zs : List ℕ) → Bytes ys → program c (replicate (length ys) (erased c) ++ zs) ys ≡ ys ++ zs
  unfolding program
  program_erased [] zs h = program_none c zs
  program_erased (y ∷ ys) zs h =
      ap₂ (λ (a : ℕ) (r : List ℕ). a ∷ r) (programmed_erased c y h.0) (program_erased ys zs h.1)

  -- no erase and no write changes the length of an area, wherever it lies
  length_blank : (n : ℕ) (xs : List ℕ) → length (blank c n xs) ≡ length xs
  unfolding blank
  length_blank zero xs = refl
  length_blank (suc n) [] = refl
  length_blank (suc n) (x ∷ xs) = ap suc (length_blank n xs)

  length_program : (xs bs : List ℕ) → length (program c xs bs) ≡ length xs
  unfolding program
  length_program [] bs = refl
  length_program (x ∷ xs) [] = refl
  length_program (x ∷ xs) (b ∷ bs) = ap suc (length_program xs bs)

  length_parts : (from : ℕ) (xs ys : List ℕ) → length ys ≡ length (drop from xs) → length (take from xs ++ ys) ≡ length xs
  length_parts from xs ys e =
      length-append (take from xs) ys ∙ ap (λ (n : ℕ). length (take from xs) + n) e
      ∙ sym (length-append (take from xs) (drop from xs)) ∙ ap length (take-append-drop from xs)

  pub length_erased : (from n : ℕ) (xs : List ℕ) → length (erased_at c from n xs) ≡ length xs
  unfolding erased_at
  length_erased from n xs = length_parts from xs (blank c n (drop from xs)) (length_blank n (drop from xs))

  pub length_written : (at : ℕ) (bs xs : List ℕ) → length (written_at c at bs xs) ≡ length xs
  unfolding written_at
  length_written at bs xs = length_parts at xs (program c (drop at xs) bs) (length_program (drop at xs) bs)

-- ---- a stretch of n bytes from `at` on may differ, and nothing else

pub record Beside (at n : ℕ) (xs ys : List ℕ) : Type 0 where
  pub before : take at ys ≡ take at xs
  pub behind : drop (at + n) ys ≡ drop (at + n) xs
  pub size : length ys ≡ length xs

pub beside_refl : {at n : ℕ} {xs : List ℕ} → Beside at n xs xs
beside_refl = record { before = refl; behind = refl; size = refl }

-- bytes put in the place of as many
splice : ℕ → List ℕ → List ℕ → List ℕ
splice p mid ys = take p ys ++ (mid ++ drop (p + length mid) ys)

-- whatever is put inside the stretch
beside_splice : {at n : ℕ} {xs ys : List ℕ} (p : ℕ) (mid : List ℕ) → at ≤ p → p + length mid ≤ at + n → at + n ≤ length xs → Beside at n xs ys
    → Beside at n xs (splice p mid ys)
unfolding splice
beside_splice {at} {n} {xs} {ys} p mid lo hi fit b =
    let s : length ys ≡ length xs = b.size in
    let lp : length (take p ys) ≡ p = length-take-le p ys (omega arith) in
    let m : ℕ = length mid in
    let r : ℕ = at + n - (p + m) in
    let here : at + n ≡ length (take p ys) + (m + r) = omega arith in
    let there : p + m + r ≡ at + n = omega arith in
    record {
      before = take-append-le at (take p ys) (mid ++ drop (p + m) ys) (omega arith) ∙ take-take at p ys lo ∙ b.before;
      behind =
          ap (λ (k : ℕ). drop k (take p ys ++ (mid ++ drop (p + m) ys))) here
          ∙ drop-append-add (take p ys) (mid ++ drop (p + m) ys) (m + r)
          ∙ drop-append-add mid (drop (p + m) ys) r
          ∙ drop-drop r (p + m) ys
          ∙ ap (λ (k : ℕ). drop k ys) there
          ∙ b.behind;
      size = simp (length-append, length-drop) (omega arith);
    }

module _ (c : Cell) where
  pub beside_erased : {at n : ℕ} {xs ys : List ℕ} (p m : ℕ) → at ≤ p → p + m ≤ at + n → at + n ≤ length xs → Beside at n xs ys
      → Beside at n xs (erased_at c p m ys)
  unfolding splice
  beside_erased {at} {n} {xs} {ys} p m lo hi fit b =
      let s : length ys ≡ length xs = b.size in
      let l : length (replicate m (erased c)) ≡ m = length-replicate m (erased c) in
      subst (λ (zs : List ℕ). Beside at n xs zs)
      (ap (λ (k : ℕ). take p ys ++ (replicate m (erased c) ++ drop (p + k) ys)) l ∙ sym (erased_within c p m ys (omega arith)))
      (beside_splice p (replicate m (erased c)) lo (omega arith) fit b)

  pub beside_written : {at n : ℕ} {xs ys : List ℕ} (p : ℕ) (bs : List ℕ) → at ≤ p → p + length bs ≤ at + n → at + n ≤ length xs → Beside at n xs ys
      → Beside at n xs (written_at c p bs ys)
  unfolding splice written_at
  beside_written {at} {n} {xs} {ys} p bs lo hi fit b =
      let s : length ys ≡ length xs = b.size in
      let mid : List ℕ = program c (take (length bs) (drop p ys)) bs in
      let l : length mid ≡ length bs =
      length_program c (take (length bs) (drop p ys)) bs
      ∙ length-take-le (length bs) (drop p ys) (simp length-drop (omega arith)) in
      subst (λ (zs : List ℕ). Beside at n xs zs)
      (ap (λ (k : ℕ). take p ys ++ (mid ++ drop (p + k) ys)) l
      ∙ ap (λ (r : List ℕ). take p ys ++ r)
      (ap (λ (r : List ℕ). mid ++ r) (sym (drop-drop (length bs) p ys)) ∙ sym (program_split c (drop p ys) bs)))
      (beside_splice p mid lo (omega arith) fit b)

  -- an erase of the whole stretch forgets what it held
  pub erased_beside : {at n : ℕ} {xs ys : List ℕ} → at + n ≤ length xs → Beside at n xs ys → erased_at c at n ys ≡ erased_at c at n xs
  erased_beside {at} {n} {xs} {ys} fit b =
      let s : length ys ≡ length xs = b.size in
      erased_within c at n ys (omega arith)
      ∙ ap₂ (λ (l r : List ℕ). l ++ (replicate n (erased c) ++ r)) b.before b.behind
      ∙ sym (erased_within c at n xs fit)

  -- bytes written onto as many erased ones
  pub written_erased : (before bs behind : List ℕ) (at b : ℕ) → length before ≡ at → length bs ≡ b → Bytes bs
      → written_at c at bs (before ++ (replicate b (erased c) ++ behind)) ≡ before ++ (bs ++ behind)
  unfolding written_at
  written_erased before bs behind at b e l h =
      ap₂ (λ (x y : List ℕ). x ++ program c y bs) (take_at before (replicate b (erased c) ++ behind) at e)
      (drop_at before (replicate b (erased c) ++ behind) at e)
      ∙ ap (λ (k : ℕ). before ++ program c (replicate k (erased c) ++ behind) bs) (sym l)
      ∙ ap (λ (r : List ℕ). before ++ r) (program_erased c bs behind h)
