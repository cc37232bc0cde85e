-- Laws of entries: the entries of a step by their places, and entries compared, as numbers and as the code has them. Serves the readers.
-- Assumes nothing.
use mathlib.Core.Path.{◌≡◌, refl, ap₂, ◌∙◌}
use mathlib.Core.Bool.{Bool, true, false, ◌&&◌}
use Prim.Native.Nat.{ℕ, ◌+◌, ◌-◌, ◌*◌, ◌≤◌, ◌<◌}
use native.Mathlib.Omega.{arith}
use denote.Enum.Bare.{sameb}
use lib.Dec.{eqb}
use borrow.Author.Tests.{lt-ltb, le-ltb, eq-eqb, ne_eqb}
use Rattle.state.specs.Choice.{pick}
use Rattle.log_steps.specs.declared.Kind.{Kind}
use Rattle.log_steps.specs.declared.Kind.TheVariants.{Erase, Write}
use Rattle.log_steps.specs.declared.Area.{Area}
use Rattle.log_steps.specs.declared.Area.TheVariants.{Active, Dfu, State}
use Rattle.log_steps.specs.declared.Entry as code
use Rattle.log_steps.specs.contracts.Kind as kinds
use Rattle.log_steps.specs.contracts.Area as areas
use Rattle.log_steps.specs.Entries.{Entry, entry}
use Rattle.log_steps.specs.Steps.{Step, nth}
use Rattle.log_steps.specs.Reader.{same}
use Rattle.log_steps.specs.Code.{kind_of, area_of, numbers}

-- ---- the entries of a step

module _ (s : Step) (j : ℕ) where
  pub nth_erase : j < s.units → entry 0 s.area (s.start + j * s.unit) s.unit ≡ nth s j
  unfolding nth pick
  nth_erase h = rw (lt-ltb j s.units h)

  pub nth_write : s.units ≤ j → j - s.units < s.chunks → entry 1 s.area (s.start + (j - s.units) * s.chunk) s.chunk ≡ nth s j
  unfolding nth pick
  nth_write h l = rw (le-ltb j s.units h, lt-ltb (j - s.units) s.chunks l)

  pub nth_mark : s.units ≤ j → s.chunks ≤ j - s.units → entry 1 2 s.mark s.word ≡ nth s j
  unfolding nth pick
  nth_mark h l = rw (le-ltb j s.units h, le-ltb (j - s.units) s.chunks l)

-- an area's number
pub area_few : (a : Area) → area_of a < 3
area_few Active = omega arith
area_few Dfu = omega arith
area_few State = omega arith

-- ---- entries compared

module _ (x y : Entry) where
  pub other_kind : (x.kind ≡ y.kind → ⊥) → false ≡ same x y
  unfolding same pick
  other_kind d = rw (ne_eqb x.kind y.kind d)

  pub other_area : (x.area ≡ y.area → ⊥) → false ≡ same x y
  unfolding same pick
  other_area d = rw (ne_eqb x.area y.area d) (go (eqb x.kind y.kind))
    where
      go : (b : Bool) → false ≡ pick b false false
      go true = refl
      go false = refl

  pub other_start : x.kind ≡ y.kind → x.area ≡ y.area → (x.start ≡ y.start → ⊥) → false ≡ same x y
  unfolding same pick
  other_start k a d = rw (eq-eqb x.kind y.kind k, eq-eqb x.area y.area a, ne_eqb x.start y.start d)

-- the code's entries are equal just if their numbers are
kinds_same : (k l : Kind) → sameb kinds.the_type k l ≡ eqb (kind_of k) (kind_of l)
kinds_same Erase Erase = refl
kinds_same Erase Write = refl
kinds_same Write Erase = refl
kinds_same Write Write = refl

areas_same : (a b : Area) → sameb areas.the_type a b ≡ eqb (area_of a) (area_of b)
areas_same Active Active = refl
areas_same Active Dfu = refl
areas_same Active State = refl
areas_same Dfu Active = refl
areas_same Dfu Dfu = refl
areas_same Dfu State = refl
areas_same State Active = refl
areas_same State Dfu = refl
areas_same State State = refl

all_four : (a b c d : Bool) → a && (b && (c && d)) ≡ pick a (pick b (pick c d false) false) false
unfolding pick
all_four true true true d = refl
all_four true true false d = refl
all_four true false c d = refl
all_four false b c d = refl

pub entries_same : (x y : code.Entry)
    → sameb kinds.the_type x.kind y.kind && (sameb areas.the_type x.area y.area && (eqb x.start y.start && eqb x.length y.length))
    ≡ same (numbers x) (numbers y)
unfolding same
entries_same x y =
    ap₂ (λ (a b : Bool). a && (b && (eqb x.start y.start && eqb x.length y.length))) (kinds_same x.kind y.kind) (areas_same x.area y.area)
    ∙ all_four _ _ _ _
