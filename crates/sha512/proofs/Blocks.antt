-- Block after block: what a list's whole blocks make of a hash value, and what is left. Assumes nothing.
use Rattle.std.proofs.Common.{◌≡◌, ℕ, zero, suc, ◌+◌, ◌-◌, ◌/◌, ◌%◌, ◌<◌, List, [], ◌++◌, length, take, drop, sym, refl, ap, ◌∙◌, ap₂, append_assoc, append-nil, arith, length-append, length-drop, take-append-drop, length-take-le, take_at, drop_at}
use lib.Seq.{drop-append-add}
use Rattle.std.specs.List.{fold}
use Rattle.std.specs.Simd.{first_chunks}
use Rattle.sha512_words.specs.declared.Eight.{Eight}
use Rattle.sha512_block.specs.Rounds.{compress}
use Rattle.sha512.specs.Sha512.{blocks, hashed}
use Rattle.sha512.specs.Streams.{left}

-- ---- the hash value

pub hashed_block : (b m : List ℕ) (s : Eight) → length b ≡ 128 → hashed (b ++ m) s ≡ hashed m (compress s b)
unfolding hashed blocks
hashed_block b m s h =
    let n : length (b ++ m) / 128 ≡ suc (length m / 128) = omega (arith, length-append b m) in
    ap (λ (k : ℕ). blocks k (b ++ m) s) n
    ∙ ap₂ (λ (x y : List ℕ). blocks (length m / 128) x (compress s y)) (drop_at b m 128 h) (take_at b m 128 h)

pub hashed_short : (m : List ℕ) (s : Eight) → length m < 128 → hashed m s ≡ s
unfolding hashed blocks
hashed_short m s h =
    let n : length m / 128 ≡ 0 = omega arith in
    ap (λ (k : ℕ). blocks k m s) n

pub hashed_one : (b : List ℕ) (s : Eight) → length b ≡ 128 → hashed b s ≡ compress s b
hashed_one b s h =
    ap (λ (y : List ℕ). hashed y s) (sym (append-nil b)) ∙ hashed_block b [] s h ∙ hashed_short [] (compress s b) (omega arith)

-- .. of the blocks that a slice is cut into
pub hashed_chunks : (n : ℕ) (m : List ℕ) (s : Eight) → fold compress s (first_chunks 128 n m) ≡ blocks n m s
unfolding blocks
hashed_chunks zero m s = refl
hashed_chunks (suc n) m s = hashed_chunks n (drop 128 m) (compress s (take 128 m))

-- ---- what is left

pub left_length : (m : List ℕ) → length (left m) ≡ length m % 128
unfolding left
left_length m = length-drop (length m - length m % 128) m ∙ omega arith

pub left_short : (m : List ℕ) → length m < 128 → left m ≡ m
unfolding left
left_short m h =
    let n : length m - length m % 128 ≡ 0 = omega arith in
    ap (λ (k : ℕ). drop k m) n

-- whole blocks in front change nothing
pub left_behind : (w m : List ℕ) → length w % 128 ≡ 0 → left (w ++ m) ≡ left m
unfolding left
left_behind w m h =
    let n : length (w ++ m) - length (w ++ m) % 128 ≡ length w + (length m - length m % 128) = omega (arith, length-append w m) in
    ap (λ (k : ℕ). drop k (w ++ m)) n ∙ drop-append-add w m (length m - length m % 128)

-- the whole blocks of a list
front : List ℕ → List ℕ
front m = take (length m - length m % 128) m

front_left : (m : List ℕ) → front m ++ left m ≡ m
unfolding front left
front_left m = take-append-drop (length m - length m % 128) m

front_length : (m : List ℕ) → length (front m) % 128 ≡ 0
unfolding front
front_length m = omega (arith, length-take-le (length m - length m % 128) m (omega arith))

-- ---- what follows a list may be added to what is left of it

pub left_on : (m x : List ℕ) → left (left m ++ x) ≡ left (m ++ x)
left_on m x =
    sym (left_behind (front m) (left m ++ x) (front_length m))
    ∙ ap left (sym (append_assoc (front m) (left m) x) ∙ ap (λ (y : List ℕ). y ++ x) (front_left m))

hashed_on_block : (b d m x : List ℕ) (s : Eight) → length b ≡ 128 → b ++ d ≡ m
    → hashed (left d ++ x) (hashed d (compress s b)) ≡ hashed (d ++ x) (compress s b)
    → hashed (left m ++ x) (hashed m s) ≡ hashed (m ++ x) s
hashed_on_block b d m x s h e on =
    let k : length b % 128 ≡ 0 = omega arith in
    ap (λ (y : List ℕ). hashed (left y ++ x) (hashed y s)) (sym e)
    ∙ ap₂ (λ (y : List ℕ) (t : Eight). hashed (y ++ x) t) (left_behind b d k) (hashed_block b d s h)
    ∙ on
    ∙ sym (hashed_block b (d ++ x) s h)
    ∙ ap (λ (y : List ℕ). hashed y s) (sym (append_assoc b d x) ∙ ap (λ (y : List ℕ). y ++ x) e)

hashed_on_for : (n : ℕ) (m x : List ℕ) (s : Eight) → length m / 128 ≡ n → hashed (left m ++ x) (hashed m s) ≡ hashed (m ++ x) s
hashed_on_for zero m x s h =
    ap₂ (λ (y : List ℕ) (t : Eight). hashed (y ++ x) t) (left_short m (omega arith)) (hashed_short m s (omega arith))
hashed_on_for (suc n) m x s h =
    hashed_on_block (take 128 m) (drop 128 m) m x s (length-take-le 128 m (omega arith)) (take-append-drop 128 m)
    (hashed_on_for n (drop 128 m) x (compress s (take 128 m)) (omega (arith, length-drop 128 m)))

pub hashed_on : (m x : List ℕ) (s : Eight) → hashed (left m ++ x) (hashed m s) ≡ hashed (m ++ x) s
hashed_on m x s = hashed_on_for (length m / 128) m x s refl
