-- One word more of the schedule, and one round more. Assumes nothing.
use Prim.Native.Nat.{ℕ, zero, suc, ◌+◌, ◌-◌, ◌*◌, ◌≤◌, ◌<◌}
use mathlib.Core.Path.{◌≡◌, refl, sym, ap, ap₂, ◌∙◌}
use mathlib.Core.List.{List, [], ◌∷◌, ◌++◌}
use mathlib.Core.Logic.{⊎_elim}
use native.Mathlib.Nat.{eq-or-lt_of_le}
use native.Mathlib.Numerals.{add-one}
use native.Mathlib.Omega.{arith}
use borrow.Author.Tests.{lt-ltb, le-ltb}
use lib.ListN.{length, get_or, take, set, drop_of_length-le, length-append}
use lib.Seq.{drop-cons, take-suc, take-suc-set, get_or-take, take-take, take_at, take-length, get_or_at}
use Rattle.state.specs.Choice.{pick}
use Rattle.sha512_words.specs.declared.Eight.{Eight}
use Rattle.sha512_block.specs.Constants.{ks}
use Rattle.sha512_block.specs.Rounds.{round, rounds, word_at, mixed, next_word, grow, schedule}
use Rattle.sha512_block.specs.Partly.{rounds_from, Passed}

-- ---- the schedule

pub next_own : (b : List ℕ) (t : ℕ) (w : List ℕ) → t < 16 → next_word b t w ≡ word_at b (8 * t)
unfolding next_word pick
next_own b t w h = rw (lt-ltb t 16 h)

pub next_mixed : (b : List ℕ) (t : ℕ) (w : List ℕ) → 16 ≤ t → next_word b t (take t w) ≡ mixed t w
unfolding next_word pick mixed
next_mixed b t w h =
    let h2 : t - 2 < t = omega arith in
    let h7 : t - 7 < t = omega arith in
    let h15 : t - 15 < t = omega arith in
    let h16 : t - 16 < t = omega arith in
    rw
    (le-ltb t 16 h, get_or-take t w (t - 2) 0 h2, get_or-take t w (t - 7) 0 h7, get_or-take t w (t - 15) 0 h15, get_or-take t w (t - 16) 0 h16)

-- the list with its next word
more : List ℕ → List ℕ → List ℕ
more b w = w ++ (next_word b (length w) w ∷ [])

more_length : (b w : List ℕ) → length (more b w) ≡ length w + 1
unfolding more
more_length b w = length-append w (next_word b (length w) w ∷ [])

grow_suc : (b : List ℕ) (n : ℕ) (w : List ℕ) → grow b (suc n) w ≡ grow b n (more b w)
unfolding grow more
grow_suc b n w = refl

grow_length : (b : List ℕ) (n : ℕ) (w : List ℕ) → length (grow b n w) ≡ length w + n
unfolding grow
grow_length b zero w = omega arith
grow_length b (suc n) w = ap length (grow_suc b n w) ∙ grow_length b n (more b w) ∙ omega (arith, more_length b w)

-- what is there stays
grow_front : (b : List ℕ) (n : ℕ) (w : List ℕ) → take (length w) (grow b n w) ≡ w
unfolding grow more
grow_front b zero w = take-length w
grow_front b (suc n) w =
    let m : List ℕ = more b w in
    sym (take-take (length w) (length m) (grow b n m) (omega (arith, more_length b w)))
    ∙ ap (take (length w)) (grow_front b n m)
    ∙ take_at w (next_word b (length w) w ∷ []) (length w) refl

grow_here : (b : List ℕ) (n : ℕ) (w : List ℕ) (i : ℕ) → length w ≡ i
    → get_or (grow b (suc n) w) i 0 ≡ next_word b i (take i (grow b (suc n) w))
unfolding grow more
grow_here b n w i e =
    let m : List ℕ = more b w in
    let g : List ℕ = grow b n m in
    let k : i < length m = omega (arith, more_length b w) in
    sym (get_or-take (length m) g i 0 k)
    ∙ ap (λ (y : List ℕ). get_or y i 0) (grow_front b n m)
    ∙ get_or_at w (next_word b (length w) w) [] 0 i e
    ∙ ap₂ (next_word b) e (sym (ap (λ (j : ℕ). take j g) (sym e) ∙ grow_front b (suc n) w))

-- each word is the next after those before it
grow_at : (b : List ℕ) (n : ℕ) (w : List ℕ) (i : ℕ) → length w ≤ i → i < length w + n
    → get_or (grow b n w) i 0 ≡ next_word b i (take i (grow b n w))
unfolding grow more
grow_at b zero w i h l = absurd (omega arith)
grow_at b (suc n) w i h l =
    ⊎_elim (λ e. grow_here b n w i e)
    (λ k. grow_at b n (more b w) i (omega (arith, more_length b w)) (omega (arith, more_length b w)))
    (eq-or-lt_of_le h)

pub schedule_length : (b : List ℕ) → length (schedule b) ≡ 80
unfolding schedule
schedule_length b = grow_length b 80 []

schedule_at : (b : List ℕ) (i : ℕ) → i < 80 → get_or (schedule b) i 0 ≡ next_word b i (take i (schedule b))
unfolding schedule
schedule_at b i h = grow_at b 80 [] i (omega arith) (omega arith)

pub word_more : (b w : List ℕ) (u v : ℕ) → length w ≡ 80 → u < 80 → v ≡ next_word b u (take u w) → take u (schedule b) ≡ take u w
    → take (u + 1) (schedule b) ≡ take (u + 1) (set w u v)
word_more b w u v l h e p =
    let hs : u < length (schedule b) = omega (arith, schedule_length b) in
    let hw : u < length w = omega arith in
    let q : get_or (schedule b) u 0 ≡ v = schedule_at b u h ∙ ap (next_word b u) p ∙ sym e in
    ap (λ (i : ℕ). take i (schedule b)) (add-one u)
    ∙ take-suc (schedule b) u 0 hs
    ∙ ap₂ (λ (y : List ℕ) (x : ℕ). y ++ (x ∷ [])) p q
    ∙ sym (take-suc-set w u v hw)
    ∙ ap (λ (i : ℕ). take i (set w u v)) (sym (add-one u))

pub fewer : (n m : ℕ) (w v : List ℕ) → n ≤ m → take m w ≡ take m v → take n w ≡ take n v
fewer n m w v h e = sym (take-take n m w h) ∙ ap (take n) e ∙ take-take n m v h

-- ---- the rounds

pub ks_length : length ks ≡ 80
unfolding ks
ks_length = refl

round_more : (ws : List ℕ) (t : ℕ) (s : Eight) → t < 80 → length ws ≡ 80
    → rounds_from (t + 1) ws (round s (get_or ks t 0) (get_or ws t 0)) ≡ rounds_from t ws s
unfolding rounds rounds_from
round_more ws t s h hw =
    let hk : t < length ks = omega (arith, ks_length) in
    let hl : t < length ws = omega arith in
    rw (add-one, drop-cons ks t 0, drop-cons ws t 0)

round_one : (ws w : List ℕ) (n t u : ℕ) (s r : Eight) → u ≡ t + 1 → t < n → n ≤ 80 → length ws ≡ 80 → take n ws ≡ take n w
    → r ≡ round s (get_or ks t 0) (get_or w t 0) → rounds_from u ws r ≡ rounds_from t ws s
round_one ws w n t u s r eu h hn l e er =
    let g : get_or w t 0 ≡ get_or ws t 0 = sym (get_or-take n w t 0 h) ∙ ap (λ (y : List ℕ). get_or y t 0) (sym e) ∙ get_or-take n ws t 0 h in
    ap₂ (λ (i : ℕ) (y : Eight). rounds_from i ws y) eu (er ∙ ap (round s (get_or ks t 0)) g) ∙ round_more ws t s (omega arith) l

pub passed_none : (w : List ℕ) (t : ℕ) (s : Eight) → Passed t t w s s
unfolding Passed
passed_none w t s ws l e = refl

pub passed_more : (w : List ℕ) (t i : ℕ) (s x r : Eight) → i < 80 → Passed t i w s x → r ≡ round x (get_or ks i 0) (get_or w i 0)
    → Passed t (i + 1) w s r
unfolding Passed
passed_more w t i s x r h p er ws l e =
    round_one ws w (i + 1) i (i + 1) x r refl (omega arith) (omega arith) l e er ∙ p ws l (fewer i (i + 1) ws w (omega arith) e)

pub rounds_none : (ws : List ℕ) (s : Eight) → rounds_from 0 ws s ≡ rounds ks ws s
unfolding rounds_from
rounds_none ws s = refl

pub rounds_done : (ws : List ℕ) (t : ℕ) (s : Eight) → 80 ≤ t → rounds_from t ws s ≡ s
unfolding rounds rounds_from
rounds_done ws t s h =
    let hk : length ks ≤ t = omega (arith, ks_length) in
    rw (drop_of_length-le ks hk)
