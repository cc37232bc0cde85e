-- One step read entry by entry: what an entry makes of a reading, and the invariant of the loop, which looks forward: what is still
-- to be read makes the whole. Serves `Step::read`. Assumes nothing.
use mathlib.Core.Path.{◌≡◌, refl, sym, ap, ◌∙◌}
use mathlib.Core.Bool.{Bool, true, false}
use mathlib.Core.List.{List, [], ◌∷◌}
use mathlib.Core.Logic.{◌⊎◌, inl, inr}
use Prim.Native.Nat.{ℕ, ◌+◌, ◌-◌, ◌≤◌, ◌<◌}
use native.Mathlib.Decide.{dec_lt}
use native.Mathlib.Omega.{arith}
use native.Mathlib.Numerals.{add-one}
use lib.ListN.{length, drop, get_or, length-drop, drop_of_length-le}
use lib.Seq.{drop-cons}
use borrow.Author.Tests.{eq-eqb, ne_eqb}
use Rattle.std.specs.Prelude.{Option, None, Some, Result, Ok, Err, IsErr}
use Rattle.std.specs.Borrow.{Bor}
use Rattle.std.proofs.lemmas.List.{take_rest}
use Rattle.state.specs.Choice.{pick}
use Rattle.log_steps.specs.Entries.{Entry, row_entry, entries}
use Rattle.log_steps.specs.Steps.{Step, nth, size}
use Rattle.log_steps.specs.declared.Misfit.{Misfit}
use Rattle.log_steps.specs.Code.{Tells}
use Rattle.log_steps.specs.Reader.{Reading, same, tried, goes, ends, wrong, marked, read_step}
use Rattle.log_steps.proofs.Entries.{area_few, nth_erase, nth_write, nth_mark, other_kind, other_area}

-- ---- an entry tried

module _ (s : Step) (done : ℕ) (x : Entry) where
  pub tried_on : true ≡ same x (nth s done) → Some (done + 1) ≡ tried s done x
  unfolding tried pick
  tried_on h = rw (sym h)

  pub tried_again : false ≡ same x (nth s done) → true ≡ same x (nth s 0) → Some 1 ≡ tried s done x
  unfolding tried pick
  tried_again h k = rw (sym h, sym k)

  pub tried_no : false ≡ same x (nth s done) → false ≡ same x (nth s 0) → None ≡ tried s done x
  unfolding tried pick
  tried_no h k = rw (sym h, sym k)

  -- an entry of an unknown kind or area is none of a step
  pub tried_unknown : s.area < 3 → (1 < x.kind) ⊎ (2 < x.area) → None ≡ tried s done x
  tried_unknown a u = tried_no (none done) (none 0)
    where
      unlike : (y : Entry) → y.kind < 2 → y.area < 3 → (1 < x.kind) ⊎ (2 < x.area) → false ≡ same x y
      unlike y k a (inl h) = other_kind x y (λ e. omega (arith, e))
      unlike y k a (inr h) = other_area x y (λ e. omega (arith, e))

      none : (j : ℕ) → false ≡ same x (nth s j)
      none j = go (dec_lt j s.units) (dec_lt (j - s.units) s.chunks)
        where
          go : Dec (j < s.units) → Dec (j - s.units < s.chunks) → false ≡ same x (nth s j)
          go (yes h) d = unlike _ (omega arith) a u ∙ ap (same x) (nth_erase s j h)
          go (no h) (yes d) = unlike _ (omega arith) a u ∙ ap (same x) (nth_write s j (omega (arith, h)) d)
          go (no h) (no d) = unlike _ (omega arith) (omega arith) u ∙ ap (same x) (nth_mark s j (omega (arith, h)) (omega (arith, d)))

  -- no more than the step has
  tried_most : {n : ℕ} → done < size s → Some n ≡ tried s done x → n ≤ size s
  unfolding tried pick size
  tried_most {n} h = go (same x (nth s done)) (same x (nth s 0))
    where
      go : (a b : Bool) → Some n ≡ pick a (Some (done + 1)) (pick b (Some 1) None) → n ≤ s.units + s.chunks + 1
      go true b e = let m : n ≡ done + 1 = cc in omega (arith, h)
      go false true e = let m : n ≡ 1 = cc in omega arith
      go false false e = cc

  module _ (es : List Entry) where
    pub turn_wrong : None ≡ tried s done x → read_step s done (x ∷ es) ≡ wrong
    unfolding read_step goes
    turn_wrong e = rw (sym e)

    pub turn_marked : (n : ℕ) → Some n ≡ tried s done x → n ≡ size s → read_step s done (x ∷ es) ≡ marked es
    unfolding read_step goes pick
    turn_marked n e z = rw (sym e, eq-eqb n (size s) z)

    pub turn_on : (n : ℕ) → Some n ≡ tried s done x → (n ≡ size s → ⊥) → read_step s done (x ∷ es) ≡ read_step s n es
    unfolding read_step goes pick
    turn_on n e z = rw (sym e, ne_eqb n (size s) z)

-- an answer that the code leaves with by a `?`
pub tells_wrong : (log : List (List ℕ)) (r : Reading) (a : Result (Option (Bor (List (List ℕ)))) Misfit) → IsErr a → r ≡ wrong → Tells log r a
tells_wrong log r (Ok o) h e = cc
tells_wrong log r (Err x) h e = e

-- ---- the rows that are left

rows_next : (log : List (List ℕ)) (i : ℕ) → i < length log → entries (drop i log) ≡ row_entry (get_or log i []) ∷ entries (drop (i + 1) log)
unfolding entries
rows_next log i h = ap entries (drop-cons log i [] h ∙ ap (λ (j : ℕ). get_or log i [] ∷ drop j log) (sym (add-one i)))

-- ---- the loop: what is still to be read makes the whole

pub record Going (log : List (List ℕ)) (s : Step) (i done : ℕ) : Type 0 where
  pub few : done < size s
  pub whole : read_step s done (entries (drop i log)) ≡ read_step s 0 (entries log)

pub going_start : (log : List (List ℕ)) (s : Step) → Going log s 0 0
unfolding size
going_start log s = record { few = omega arith; whole = refl }

module _ {log : List (List ℕ)} {s : Step} {i done : ℕ} (g : Going log s i done) where
  -- at the log's end
  pub going_ends : length log ≤ i → read_step s 0 (entries log) ≡ ends
  unfolding read_step entries
  going_ends h = sym g.whole ∙ ap (λ (r : List (List ℕ)). read_step s done (entries r)) (drop_of_length-le log h)

  module _ (h : i < length log) where
    abbrev x : Entry
    x = row_entry (get_or log i [])

    here : read_step s done (x ∷ entries (drop (i + 1) log)) ≡ read_step s 0 (entries log)
    here = ap (read_step s done) (sym (rows_next log i h)) ∙ g.whole

    pub going_wrong : None ≡ tried s done x → read_step s 0 (entries log) ≡ wrong
    going_wrong t = sym here ∙ turn_wrong s done x (entries (drop (i + 1) log)) t

    module _ (n : ℕ) (t : Some n ≡ tried s done x) where
      pub going_marked : n ≡ size s → read_step s 0 (entries log) ≡ marked (entries (drop (i + 1) log))
      going_marked z = sym here ∙ turn_marked s done x (entries (drop (i + 1) log)) n t z

      pub going_on : (n ≡ size s → ⊥) → Going log s (i + 1) n
      going_on z =
          record {
            few = let l = tried_most s done x g.few t in omega (arith, z);
            whole = sym (turn_on s done x (entries (drop (i + 1) log)) n t z) ∙ here;
          }

-- what the loop's goals are shown by
pub ruleset rows_read = (area_few, tried_unknown, tells_wrong, take_rest, length-drop, going_start, going_ends, going_wrong, going_marked)
