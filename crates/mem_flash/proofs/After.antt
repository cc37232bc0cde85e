-- What a cut leaves: `after k os f`, the flash after a run of the operations os that has k of them. Outside this crate `after` is
-- known by these laws alone, and each says which cut it speaks of: one inside a list has k below its length, and with the length
-- or more the list is done whole. `after_first` alone says what becomes of the operation that the cut falls on. Assumes nothing.
use mathlib.Core.Path.{◌≡◌, refl, ap, ◌∙◌}
use mathlib.Core.List.{List, [], ◌∷◌, ◌++◌}
use Prim.Native.Nat.{ℕ, suc, ◌+◌, ◌-◌, ◌≤◌, ◌<◌}
use native.Mathlib.Omega.{arith}
use lib.ListN.{length, take}
use lib.Seq.{take-nil, take-append-le, take-append-add, take_all}
use Rattle.mem_flash.specs.Flash.{Flash, Op, apply, apply_all, after}
use Rattle.mem_flash.specs.Areas.{SameLengths}
use Rattle.mem_flash.proofs.Areas.{all_lengths}

-- operations one after another, none of them cut
pub apply_append : (os ps : List Op) (f : Flash) → apply_all (os ++ ps) f ≡ apply_all ps (apply_all os f)
unfolding apply_all
apply_append [] ps f = refl
apply_append (o ∷ os) ps f = apply_append os ps (apply o f)

-- nothing is wanted
pub after_none : (k : ℕ) (f : Flash) → after k [] f ≡ f
unfolding after apply_all
after_none k f = ap (λ (os : List Op). apply_all os f) (take-nil k)

-- the list is done whole
pub after_all : (k : ℕ) (os : List Op) (f : Flash) → length os ≤ k → after k os f ≡ apply_all os f
unfolding after
after_all k os f h = ap (λ (l : List Op). apply_all l f) (take_all k os h)

-- cut at the first operation: it changes nothing
pub after_first : (os : List Op) (f : Flash) → after 0 os f ≡ f
unfolding after apply_all
after_first os f = refl

-- the first operation done, then what the rest leaves
pub after_next : (k : ℕ) (o : Op) (os : List Op) (f : Flash) → after (suc k) (o ∷ os) f ≡ after k os (apply o f)
unfolding after apply_all
after_next k o os f = refl

-- of two lists: cut inside the first, and past it
pub after_within : (k : ℕ) (os ps : List Op) (f : Flash) → k < length os → after k (os ++ ps) f ≡ after k os f
unfolding after
after_within k os ps f h = ap (λ (l : List Op). apply_all l f) (take-append-le k os ps (omega arith))

pub after_past : (j : ℕ) (os ps : List Op) (f : Flash) → after (length os + j) (os ++ ps) f ≡ after j ps (apply_all os f)
unfolding after
after_past j os ps f = ap (λ (l : List Op). apply_all l f) (take-append-add os ps j) ∙ apply_append os (take j ps) f

pub after_behind : (k : ℕ) (os ps : List Op) (f : Flash) → length os ≤ k
    → after k (os ++ ps) f ≡ after (k - length os) ps (apply_all os f)
after_behind k os ps f h =
    let e : k ≡ length os + (k - length os) = omega arith in
    ap (λ (z : ℕ). after z (os ++ ps) f) e ∙ after_past (k - length os) os ps f

-- right behind the first the cut falls on the first operation of the second
pub after_between : (os ps : List Op) (f : Flash) → after (length os) (os ++ ps) f ≡ apply_all os f
after_between os ps f =
    let e : length os ≡ length os + 0 = omega arith in
    ap (λ (z : ℕ). after z (os ++ ps) f) e ∙ after_past 0 os ps f ∙ after_first ps (apply_all os f)

-- wherever it falls, the areas are as long as before
pub after_lengths : (k : ℕ) (os : List Op) (f : Flash) → SameLengths (after k os f) f
unfolding after
after_lengths k os f = all_lengths (take k os) f
