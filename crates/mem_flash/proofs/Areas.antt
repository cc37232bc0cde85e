-- Laws of one area of a flash among the three, and of the areas' lengths: no operation changes one. Assumes nothing.
use mathlib.Core.Path.{◌≡◌, refl, ◌∙◌}
use mathlib.Core.List.{List, [], ◌∷◌}
use Prim.Native.Nat.{ℕ}
use lib.ListN.{length}
use Rattle.mem_flash.specs.Flash.{Area, active, dfu, state, Flash, Op, erase, write, erased_at, written_at, change, apply, apply_all}
use Rattle.mem_flash.specs.Run.{placed}
use Rattle.mem_flash.specs.Areas.{area_of, Image, SameLengths}
use Rattle.mem_flash.proofs.Stretches.{length_erased, length_written}

-- ---- one area of a flash

pub placed_same : (a : Area) (f : Flash) → placed a (area_of a f) f ≡ f
unfolding placed change area_of
placed_same active f = refl
placed_same dfu f = refl
placed_same state f = refl

pub state_placed : (a : Area) (xs : List ℕ) (f : Flash) → Image a → (placed a xs f).state ≡ f.state
unfolding placed change
state_placed active xs f i = refl
state_placed dfu xs f i = refl
state_placed state xs f i = absurd i

-- bytes that are as many as before keep active's length
pub active_placed : (a : Area) (xs : List ℕ) (f : Flash) → length xs ≡ length (area_of a f)
    → length (placed a xs f).active ≡ length f.active
unfolding placed change area_of
active_placed active xs f e = e
active_placed dfu xs f e = refl
active_placed state xs f e = refl

-- two flashes are equal by their areas
pub flash_path : {a a' d d' s s' : List ℕ} → a ≡ a' → d ≡ d' → s ≡ s'
    → ◌≡◌ {A = Flash} (record { active = a; dfu = d; state = s }) (record { active = a'; dfu = d'; state = s' })
flash_path p q r = λ i. record { active = p i; dfu = q i; state = r i }

-- ---- lengths: no operation changes one

change_lengths : (a : Area) (h : List ℕ → List ℕ) (f : Flash) → ((xs : List ℕ) → length (h xs) ≡ length xs)
    → SameLengths (change a h f) f
unfolding change
change_lengths active h f e = record { active = e f.active; dfu = refl; state = refl }
change_lengths dfu h f e = record { active = refl; dfu = e f.dfu; state = refl }
change_lengths state h f e = record { active = refl; dfu = refl; state = e f.state }

apply_lengths : (o : Op) (f : Flash) → SameLengths (apply o f) f
unfolding apply
apply_lengths (erase c a from n) f = change_lengths a (erased_at c from n) f (length_erased c from n)
apply_lengths (write c a at bs) f = change_lengths a (written_at c at bs) f (length_written c at bs)

pub all_lengths : (os : List Op) (f : Flash) → SameLengths (apply_all os f) f
unfolding apply_all
all_lengths [] f = record { active = refl; dfu = refl; state = refl }
all_lengths (o ∷ os) f =
    let r = all_lengths os (apply o f) in
    let e = apply_lengths o f in
    record { active = r.active ∙ e.active; dfu = r.dfu ∙ e.dfu; state = r.state ∙ e.state }
