-- Laws of an image in pages of p bytes: a page of it, another page put in, and two images mixed at a page's edge. Every stage of
-- a swap and of a revert is such a mix, and a step moves the edge by one page. Assumes nothing.
use mathlib.Core.Path.{◌≡◌, sym, ap, ap₂, ◌∙◌}
use mathlib.Core.List.{List, [], ◌∷◌, ◌++◌, append_assoc}
use Prim.Native.Nat.{ℕ, zero, suc, ◌+◌, ◌-◌, ◌*◌, ◌≤◌, ◌<◌}
use native.Mathlib.Nat.{suc-mul, zero-add, suc-add, mul-le-mul_right, zero-mul}
use native.Mathlib.Omega.{arith}
use lib.ListN.{length, take, drop, length-append, length-drop, take-append-drop}
use lib.Seq.{take-append-le, drop-append-le, drop-append-add, take-take, drop-drop, take-add, length-take-le, take-nil, take_at, drop_at}
use Rattle.rules.specs.Power.{page_at, with_page}

-- the first m pages of xs, then the rest of ys
unfoldable pub mix : ℕ → ℕ → List ℕ → List ℕ → List ℕ
mix p m xs ys = take (m * p) xs ++ drop (m * p) ys

-- none of xs
pub mix_none : (p : ℕ) (xs ys : List ℕ) → mix p 0 xs ys ≡ ys
unfolding mix
mix_none p xs ys = ap (λ (z : ℕ). take z xs ++ drop z ys) (zero-mul p)

-- k pages, and one more, are within n pages
pub pages_le : (p : ℕ) {k n : ℕ} → k < n → k * p + p ≤ n * p
pages_le p {k} {n} h = rw suc-mul at (mul-le-mul_right {m = suc k} {n = n} p h)

-- a page of two lists joined: of the first, and of the second
pub page_append_left : (p k : ℕ) (xs ys : List ℕ) → k * p + p ≤ length xs → page_at p k (xs ++ ys) ≡ page_at p k xs
unfolding page_at
page_append_left p k xs ys fit =
    ap (take p) (drop-append-le (k * p) xs ys (omega arith))
    ∙ take-append-le p (drop (k * p) xs) ys (simp length-drop (omega arith))

pub page_append_right : (p k n j : ℕ) (xs ys : List ℕ) → length xs ≡ n * p → n + j ≡ k → page_at p k (xs ++ ys) ≡ page_at p j ys
unfolding page_at
page_append_right p k n j xs ys l e =
    let a : k * p ≡ length xs + j * p = ap (λ (z : ℕ). z * p) (sym e) ∙ omega (arith, l) in
    ap (take p) (ap (λ (z : ℕ). drop z (xs ++ ys)) a ∙ drop-append-add xs ys (j * p))

drop_of_take : (a m : ℕ) (xs : List ℕ) → drop a (take (a + m) xs) ≡ take m (drop a xs)
drop_of_take zero m xs = ap (λ (k : ℕ). take k xs) (zero-add m)
drop_of_take (suc a) m [] = ap (drop (suc a)) (take-nil (suc a + m)) ∙ sym (take-nil m)
drop_of_take (suc a) m (x ∷ xs) = ap (λ (k : ℕ). drop (suc a) (take k (x ∷ xs))) (suc-add a m) ∙ drop_of_take a m xs

pub page_take : (p k n : ℕ) (xs : List ℕ) → k * p + p ≤ n → page_at p k (take n xs) ≡ page_at p k xs
unfolding page_at
page_take p k n xs fit =
    let r : ℕ = n - k * p in
    let e : n ≡ k * p + r = omega arith in
    ap (λ (z : ℕ). take p (drop (k * p) (take z xs))) e ∙ ap (take p) (drop_of_take (k * p) r xs)
    ∙ take-take p r (drop (k * p) xs) (omega arith)

-- the first c of xs, then the rest of ys: what lies before the seam, and behind it
seam_take : (e c : ℕ) (xs ys : List ℕ) → e ≤ c → c ≤ length xs → take e (take c xs ++ drop c ys) ≡ take e xs
seam_take e c xs ys h fit = take-append-le e (take c xs) (drop c ys) (rw (length-take-le c xs fit) h) ∙ take-take e c xs h

seam_drop : (e c : ℕ) (xs ys : List ℕ) → c ≤ e → c ≤ length xs → drop e (take c xs ++ drop c ys) ≡ drop e ys
seam_drop e c xs ys h fit =
    let r : ℕ = e - c in
    let l : length (take c xs) ≡ c = length-take-le c xs fit in
    let a : e ≡ length (take c xs) + r = omega arith in
    let b : c + r ≡ e = omega arith in
    ap (λ (z : ℕ). drop z (take c xs ++ drop c ys)) a ∙ drop-append-add (take c xs) (drop c ys) r ∙ drop-drop r c ys
    ∙ ap (λ (z : ℕ). drop z ys) b

module _ (p m : ℕ) (xs ys : List ℕ) (same : length ys ≡ length xs) (fit : m * p ≤ length xs) where
  pub length_mix : length (mix p m xs ys) ≡ length xs
  unfolding mix
  length_mix = simp (length-append, length-drop) (omega (arith, length-take-le (m * p) xs fit))

  pub page_mix_left : (k : ℕ) → k < m → page_at p k (mix p m xs ys) ≡ page_at p k xs
  unfolding mix
  page_mix_left k h =
      let hh : k * p + p ≤ m * p = pages_le p h in
      page_append_left p k (take (m * p) xs) (drop (m * p) ys) (rw (length-take-le (m * p) xs fit) hh)
      ∙ page_take p k (m * p) xs hh

  pub page_mix_right : (k : ℕ) → m ≤ k → page_at p k (mix p m xs ys) ≡ page_at p k ys
  unfolding mix page_at
  page_mix_right k h = ap (take p) (seam_drop (k * p) (m * p) xs ys (mul-le-mul_right p h) fit)

module _ (p m : ℕ) (xs ys : List ℕ) (fit : m * p + p ≤ length xs) where
  -- one more page of xs
  pub mix_up : with_page p m (page_at p m xs) (mix p m xs ys) ≡ mix p (suc m) xs ys
  unfolding mix page_at with_page
  mix_up =
      ap₂ (λ (l r : List ℕ). l ++ (take p (drop (m * p) xs) ++ r)) (seam_take (m * p) (m * p) xs ys (omega arith) (omega arith))
      (seam_drop (m * p + p) (m * p) xs ys (omega arith) (omega arith))
      ∙ sym (append_assoc (take (m * p) xs) (take p (drop (m * p) xs)) (drop (m * p + p) ys))
      ∙ ap (λ (l : List ℕ). l ++ drop (m * p + p) ys) (sym (take-add (m * p) p xs))
      ∙ ap (λ (z : ℕ). take z xs ++ drop z ys) (sym (suc-mul m p))

  -- one more page of ys
  pub mix_down : with_page p m (page_at p m ys) (mix p (suc m) xs ys) ≡ mix p m xs ys
  unfolding mix page_at with_page
  mix_down =
      ap (λ (z : ℕ). with_page p m (page_at p m ys) (take z xs ++ drop z ys)) (suc-mul m p)
      ∙ ap₂ (λ (l r : List ℕ). l ++ (take p (drop (m * p) ys) ++ r)) (seam_take (m * p) (m * p + p) xs ys (omega arith) fit)
      (seam_drop (m * p + p) (m * p + p) xs ys (omega arith) fit)
      ∙ ap (λ (r : List ℕ). take (m * p) xs ++ (take p (drop (m * p) ys) ++ r)) (sym (drop-drop p (m * p) ys))
      ∙ ap (λ (r : List ℕ). take (m * p) xs ++ r) (take-append-drop p (drop (m * p) ys))

pub length_page : (p k : ℕ) (xs : List ℕ) → k * p + p ≤ length xs → length (page_at p k xs) ≡ p
unfolding page_at
length_page p k xs fit = length-take-le p (drop (k * p) xs) (simp length-drop (omega arith))

-- an image with a page put in: that page, what lies before and behind it, and its length
module _ (p k : ℕ) (bytes xs : List ℕ) (l : length bytes ≡ p) (fit : k * p + p ≤ length xs) where
  before : length (take (k * p) xs) ≡ k * p
  before = length-take-le (k * p) xs (omega arith)

  pub page_put : page_at p k (with_page p k bytes xs) ≡ bytes
  unfolding page_at with_page
  page_put =
      rw (drop_at (take (k * p) xs) (bytes ++ drop (k * p + p) xs) (k * p) before) (take_at bytes (drop (k * p + p) xs) p l)

  pub before_put : take (k * p) (with_page p k bytes xs) ≡ take (k * p) xs
  unfolding with_page
  before_put = take_at (take (k * p) xs) (bytes ++ drop (k * p + p) xs) (k * p) before

  pub behind_put : drop (k * p + p) (with_page p k bytes xs) ≡ drop (k * p + p) xs
  unfolding with_page
  behind_put =
      let e : k * p + p ≡ length (take (k * p) xs) + p = omega (arith, before) in
      ap (λ (i : ℕ). drop i (take (k * p) xs ++ (bytes ++ drop (k * p + p) xs))) e
      ∙ drop-append-add (take (k * p) xs) (bytes ++ drop (k * p + p) xs) p ∙ drop_at bytes (drop (k * p + p) xs) p l

  pub length_put : length (with_page p k bytes xs) ≡ length xs
  unfolding with_page
  length_put = simp (length-append, length-drop) (omega (arith, before))
