-- The steps by their numbers: the swap's are the first 2n, the revert's the next 2n, and step i is the page copy that the tables
-- have at that place. Assumes nothing.
use mathlib.Core.Path.{◌≡◌, refl, ap, ◌∙◌}
use mathlib.Core.Logic.{◌⊎◌, inl, inr}
use mathlib.Core.List.{[], ◌∷◌, ◌++◌}
use Prim.Native.Nat.{ℕ, zero, suc, ◌+◌, ◌-◌, ◌*◌, ◌/◌, ◌%◌, ◌≤◌, ◌<◌}
use native.Mathlib.Nat.{zero-add, div-add-mod'}
use native.Mathlib.Decide.{dec_lt}
use native.Mathlib.Omega.{arith}
use lib.ListN.{length, get_or, take, drop, length-append, length-take, drop_of_length-le, get_or-append}
use lib.Seq.{get_or-append-add, take_at, drop_at, take_all, slice, slice-cons}
use Rattle.mem_flash.specs.Flash.{Area, active, dfu, state}
use Rattle.mem_flash.specs.Areas.{Image}
use Rattle.rules.specs.Steps.{Copy, to_dfu, to_active, swap_from, revert_from, swap_steps, revert_steps, all_steps, step_at}

-- ---- how many there are

pub swap_count : (k i : ℕ) → length (swap_from k i) ≡ 2 * k
unfolding swap_from
swap_count zero i = refl
swap_count (suc k) i = omega (arith, swap_count k (i + 2))

pub revert_count : (j k i : ℕ) → length (revert_from j k i) ≡ 2 * j
unfolding revert_from
revert_count zero k i = refl
revert_count (suc j) k i = omega (arith, revert_count j (k + 1) (i + 2))

module _ (n : ℕ) where
  swaps : length (swap_steps n) ≡ 2 * n
  unfolding swap_steps
  swaps = swap_count n 0

  reverts : length (revert_steps n) ≡ 2 * n
  unfolding revert_steps
  reverts = revert_count n 0 (2 * n)

  all : length (all_steps n) ≡ 4 * n
  unfolding all_steps
  all = omega (arith, length-append (swap_steps n) (revert_steps n), swaps, reverts)

  -- ---- the two tables among them

  pub first_half : slice 0 (2 * n) (all_steps n) ≡ swap_steps n
  unfolding all_steps
  first_half = take_at (swap_steps n) (revert_steps n) (2 * n) swaps

  pub second_half : slice (2 * n) (4 * n) (all_steps n) ≡ revert_steps n
  unfolding all_steps
  second_half =
      ap (drop (2 * n)) (take_all (4 * n) (swap_steps n ++ revert_steps n) (omega (arith, length-append (swap_steps n) (revert_steps n), swaps, reverts)))
      ∙ drop_at (swap_steps n) (revert_steps n) (2 * n) swaps

  pub next_step : (i end : ℕ) → i < end → end ≤ 4 * n → slice i end (all_steps n) ≡ step_at n i ∷ slice (suc i) end (all_steps n)
  unfolding step_at
  next_step i end h k = slice-cons i end (all_steps n) (to_dfu 0 0 0) h (omega (arith, all))

  pub no_step : (i end : ℕ) → end ≤ i → slice i end (all_steps n) ≡ []
  no_step i end h = drop_of_length-le (take end (all_steps n)) {i = i} (omega (arith, length-take end (all_steps n)))

-- ---- what each of them is

module _ (d : Copy) where
  swap_even : (m k i : ℕ) → m < k → get_or (swap_from k i) (m * 2) d ≡ to_dfu (i + m * 2) (k - 1 - m) (k - 1 - m + 1)
  unfolding swap_from
  swap_even m zero i h = absurd (omega arith)
  swap_even zero (suc k) i h =
      let a : i + 0 * 2 ≡ i = omega arith in
      let b : suc k - 1 - 0 ≡ k = omega arith in
      rw (a, b)
  swap_even (suc m) (suc k) i h =
      let a : suc m * 2 ≡ suc (suc (m * 2)) = omega arith in
      let b : i + suc m * 2 ≡ i + 2 + m * 2 = omega arith in
      let c : suc k - 1 - suc m ≡ k - 1 - m = omega arith in
      rw (b, c, a) (swap_even m k (i + 2) (omega arith))

  swap_odd : (m k i : ℕ) → m < k → get_or (swap_from k i) (m * 2 + 1) d ≡ to_active (i + m * 2 + 1) (k - 1 - m) (k - 1 - m)
  unfolding swap_from
  swap_odd m zero i h = absurd (omega arith)
  swap_odd zero (suc k) i h =
      let a : i + 0 * 2 + 1 ≡ i + 1 = omega arith in
      let b : suc k - 1 - 0 ≡ k = omega arith in
      rw (a, b)
  swap_odd (suc m) (suc k) i h =
      let a : suc m * 2 + 1 ≡ suc (suc (m * 2 + 1)) = omega arith in
      let b : i + suc m * 2 + 1 ≡ i + 2 + m * 2 + 1 = omega arith in
      let c : suc k - 1 - suc m ≡ k - 1 - m = omega arith in
      rw (b, c, a) (swap_odd m k (i + 2) (omega arith))

  revert_even : (m j k i : ℕ) → m < j → get_or (revert_from j k i) (m * 2) d ≡ to_dfu (i + m * 2) (k + m) (k + m)
  unfolding revert_from
  revert_even m zero k i h = absurd (omega arith)
  revert_even zero (suc j) k i h =
      let a : i + 0 * 2 ≡ i = omega arith in
      let b : k + 0 ≡ k = omega arith in
      rw (a, b)
  revert_even (suc m) (suc j) k i h =
      let a : suc m * 2 ≡ suc (suc (m * 2)) = omega arith in
      let b : i + suc m * 2 ≡ i + 2 + m * 2 = omega arith in
      let c : k + suc m ≡ k + 1 + m = omega arith in
      rw (b, c, a) (revert_even m j (k + 1) (i + 2) (omega arith))

  revert_odd : (m j k i : ℕ) → m < j → get_or (revert_from j k i) (m * 2 + 1) d ≡ to_active (i + m * 2 + 1) (k + m + 1) (k + m)
  unfolding revert_from
  revert_odd m zero k i h = absurd (omega arith)
  revert_odd zero (suc j) k i h =
      let a : i + 0 * 2 + 1 ≡ i + 1 = omega arith in
      let b : k + 0 ≡ k = omega arith in
      rw (a, b)
  revert_odd (suc m) (suc j) k i h =
      let a : suc m * 2 + 1 ≡ suc (suc (m * 2 + 1)) = omega arith in
      let b : i + suc m * 2 + 1 ≡ i + 2 + m * 2 + 1 = omega arith in
      let c : k + suc m ≡ k + 1 + m = omega arith in
      rw (b, c, a) (revert_odd m j (k + 1) (i + 2) (omega arith))

-- turn m of n: two steps of the swap, two of the revert
module _ (n m : ℕ) (h : m < n) where
  pub swap_dfu : step_at n (m * 2) ≡ to_dfu (m * 2) (n - 1 - m) (n - 1 - m + 1)
  unfolding step_at all_steps swap_steps
  swap_dfu =
      get_or-append (swap_from n 0) (revert_steps n) (to_dfu 0 0 0) (m * 2) (omega (arith, swap_count n 0)) ∙ (rw zero-add at (swap_even (to_dfu 0 0 0) m n 0 h))

  pub swap_active : step_at n (m * 2 + 1) ≡ to_active (m * 2 + 1) (n - 1 - m) (n - 1 - m)
  unfolding step_at all_steps swap_steps
  swap_active =
      get_or-append (swap_from n 0) (revert_steps n) (to_dfu 0 0 0) (m * 2 + 1) (omega (arith, swap_count n 0)) ∙ (rw zero-add at (swap_odd (to_dfu 0 0 0) m n 0 h))

  behind : (j : ℕ) → step_at n (2 * n + j) ≡ get_or (revert_steps n) j (to_dfu 0 0 0)
  unfolding step_at all_steps
  behind j =
      let e : 2 * n + j ≡ length (swap_steps n) + j = omega (arith, swaps n) in
      rw e (get_or-append-add (swap_steps n) (revert_steps n) j (to_dfu 0 0 0))

  pub revert_dfu : step_at n (2 * n + m * 2) ≡ to_dfu (2 * n + m * 2) m m
  unfolding revert_steps
  revert_dfu = behind (m * 2) ∙ (rw zero-add at (revert_even (to_dfu 0 0 0) m n 0 (2 * n) h))

  pub revert_active : step_at n (2 * n + m * 2 + 1) ≡ to_active (2 * n + m * 2 + 1) (m + 1) m
  unfolding revert_steps
  revert_active =
      let e : 2 * n + m * 2 + 1 ≡ 2 * n + (m * 2 + 1) = omega arith in
      ap (step_at n) e ∙ behind (m * 2 + 1) ∙ (rw zero-add at (revert_odd (to_dfu 0 0 0) m n 0 (2 * n) h))

-- ---- what holds of every step

module _ (P : ℕ → Copy → Type 0) (n : ℕ)
    (a : (m : ℕ) → m < n → P (m * 2) (to_dfu (m * 2) (n - 1 - m) (n - 1 - m + 1)))
    (b : (m : ℕ) → m < n → P (m * 2 + 1) (to_active (m * 2 + 1) (n - 1 - m) (n - 1 - m)))
    (c : (m : ℕ) → m < n → P (2 * n + m * 2) (to_dfu (2 * n + m * 2) m m))
    (d : (m : ℕ) → m < n → P (2 * n + m * 2 + 1) (to_active (2 * n + m * 2 + 1) (m + 1) m)) where
  of_swap : (m i : ℕ) → m < n → (i ≡ m * 2) ⊎ (i ≡ m * 2 + 1) → P i (step_at n i)
  of_swap m i h (inl e) = rw (e, swap_dfu n m h) (a m h)
  of_swap m i h (inr e) = rw (e, swap_active n m h) (b m h)

  of_revert : (m i : ℕ) → m < n → (i ≡ 2 * n + m * 2) ⊎ (i ≡ 2 * n + m * 2 + 1) → P i (step_at n i)
  of_revert m i h (inl e) = rw (e, revert_dfu n m h) (c m h)
  of_revert m i h (inr e) = rw (e, revert_active n m h) (d m h)

  pub each_step : (i : ℕ) → i < 4 * n → P i (step_at n i)
  each_step i h = go (dec_lt i (2 * n)) (dec_lt (i % 2) 1)
    where
      go : Dec (i < 2 * n) → Dec (i % 2 < 1) → P i (step_at n i)
      go (yes x) (yes y) = of_swap (i / 2) i (omega (arith, div-add-mod' i 2)) (inl (omega (arith, div-add-mod' i 2)))
      go (yes x) (no y) = of_swap (i / 2) i (omega (arith, div-add-mod' i 2)) (inr (omega (arith, div-add-mod' i 2, y)))
      go (no x) (yes y) = of_revert (i / 2 - n) i (omega (arith, div-add-mod' i 2, x)) (inl (omega (arith, div-add-mod' i 2, x)))
      go (no x) (no y) = of_revert (i / 2 - n) i (omega (arith, div-add-mod' i 2, x)) (inr (omega (arith, div-add-mod' i 2, x, y)))

pub step_mark : (n i : ℕ) → i < 4 * n → (step_at n i).mark ≡ i
unfolding to_dfu to_active
step_mark n i h = each_step (λ (j : ℕ) (s : Copy). s.mark ≡ j) n (λ m l. refl) (λ m l. refl) (λ m l. refl) (λ m l. refl) i h

-- a step between the images: active has n pages, DFU one more
abbrev pub Between : ℕ → Copy → Area → Type 0
Between n c active = (c.source ≤ n) × (c.target < n)
Between n c dfu = (c.source < n) × (c.target ≤ n)
Between n c state = ⊥

pub step_between : (n i : ℕ) → i < 4 * n → Between n (step_at n i) (step_at n i).to
unfolding to_dfu to_active
step_between n i h =
    each_step (λ (j : ℕ) (s : Copy). Between n s s.to) n (λ m l. (omega arith, omega arith)) (λ m l. (omega arith, omega arith))
    (λ m l. (omega arith, omega arith)) (λ m l. (omega arith, omega arith)) i h

pub step_image : (n i : ℕ) → i < 4 * n → Image (step_at n i).to
step_image n i h = go (step_at n i).to (step_between n i h)
  where
    go : (a : Area) → Between n (step_at n i) a → Image a
    go active b = tt
    go dfu b = tt
    go state b = b
