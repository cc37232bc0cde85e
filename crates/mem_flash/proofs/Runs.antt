-- Laws of runs. `joined` is the one that puts two runs together, and its two readings `then_on` and `then_cut` are what every
-- caller of an operation cites; `run_is` shows that the walk and the count are the same. Assumes nothing.
use mathlib.Core.Path.{◌≡◌, refl, ap, ◌∙◌, sym}
use mathlib.Core.List.{List, [], ◌∷◌, ◌++◌}
use Prim.Native.Nat.{ℕ, zero, suc, ◌+◌, ◌-◌, ◌/◌, ◌<◌}
use native.Mathlib.Nat.{sub-zero, suc-sub-suc, div-zero, zero-div, div_self}
use native.Mathlib.Omega.{arith}
use lib.Dec.{leb-zero, leb-suc-zero, leb-suc-suc}
use lib.ListN.{length}
use Rattle.state.specs.declared.Cell.{Cell}
use Rattle.state.specs.Choice.{pick}
use Rattle.mem_flash.specs.declared.Budget.{Budget}
use Rattle.std.specs.Prelude.{Ok, Err, IsErr, Option, Some, None, unwrap_or}
use Rattle.std.specs.Option.{SomeIff}
use Rattle.std.proofs.lemmas.Bool.{false≢true}
use Rattle.mem_flash.specs.Flash.{Area, active, dfu, state, Flash, Op, erase, write, erased_at, written_at, change, apply, apply_all, after, unit_ops, erase_ops}
use Rattle.mem_flash.specs.Run.{Flow, End, on, cut, ended, run, outcome, Ran, placed, InArea, unit_op, write_ops}

-- a cut is the one way in which operations answer with an error
pub cut_of : (r : Flow) → IsErr r → r ≡ cut
cut_of (Err _) e = refl
cut_of (Ok l) e = absurd (false≢true e)

-- ---- two runs

-- more operations after a run: where it goes on they are done with the budget left, and after a cut nothing is
unfoldable pub follow : Flash → Flow → List Op → End
follow f (Ok b) ps = run b.0 ps f
follow f (Err _) ps = ended f cut

-- the join: a run of two lists is the run of the first, followed by the second
pub joined : (k : ℕ) (os ps : List Op) (f : Flash) → run k (os ++ ps) f ≡ follow (run k os f).flash (run k os f).flow ps
unfolding run follow
joined k [] ps f = refl
joined zero (o ∷ os) ps f = refl
joined (suc k) (o ∷ os) ps f = joined k os ps (apply o f)

module _ (k : ℕ) (os ps : List Op) (f f₁ : Flash) (r : Flow) (e : run k os f ≡ ended f₁ r) where
  join_at : run k (os ++ ps) f ≡ follow f₁ r ps
  join_at = joined k os ps f ∙ ap (λ (z : End). follow z.flash z.flow ps) e

  -- the first goes on: then the second
  pub then_on : (b : Budget) → r ≡ Ok b → run k (os ++ ps) f ≡ run b.0 ps f₁
  unfolding follow
  then_on b o = join_at ∙ ap (λ (q : Flow). follow f₁ q ps) o

  -- the first is cut: so is the whole
  pub then_cut : r ≡ cut → run k (os ++ ps) f ≡ ended f₁ cut
  unfolding follow
  then_cut o = join_at ∙ ap (λ (q : Flow). follow f₁ q ps) o

-- a run that goes on has done all
pub on_all : (k : ℕ) (os : List Op) (f f₁ : Flash) (r : Flow) (b : Budget) → run k os f ≡ ended f₁ r → r ≡ Ok b → f₁ ≡ apply_all os f
unfolding run apply_all
on_all k [] f f₁ r b e o = sym (ap (λ (z : End). z.flash) e)
on_all zero (p ∷ os) f f₁ r b e o =
    let y : cut ≡ r = ap (λ (z : End). z.flow) e in
    let z : ◌≡◌ {A = ℕ} 0 1 = cc in
    absurd (omega arith)
on_all (suc k) (p ∷ os) f f₁ r b e o = on_all k os (apply p f) f₁ r b e o

-- ---- the walk is the count

pub run_is : (k : ℕ) (os : List Op) (f : Flash) → run k os f ≡ ended (after k os f) (outcome k (length os))
unfolding run after apply_all outcome pick
run_is zero [] f = refl
run_is (suc k) [] f = simp (leb-zero, sub-zero)
run_is zero (o ∷ os) f = simp leb-suc-zero
run_is (suc k) (o ∷ os) f = simp (leb-suc-suc, suc-sub-suc) (run_is k os (apply o f))

module _ (k : ℕ) (os : List Op) (f f₁ : Flash) (r : Flow) where
  pub ran : run k os f ≡ ended f₁ r → Ran k os f f₁ r
  ran e =
      let i = sym e ∙ run_is k os f in
      record { flash = ap (λ (z : End). z.flash) i; flow = ap (λ (z : End). z.flow) i }

  pub run_of : Ran k os f f₁ r → run k os f ≡ ended f₁ r
  run_of h = run_is k os f ∙ sym (ap (λ g. ended g r) h.flash ∙ ap (λ q. ended (after k os f) q) h.flow)

-- ---- one operation on one area

run_cut : (k : ℕ) (o : Op) (os : List Op) (f : Flash) → k ≡ 0 → run k (o ∷ os) f ≡ ended f cut
unfolding run
run_cut k o os f e = rw e

run_one : (k : ℕ) (l : Budget) (o : Op) (f : Flash) → l.0 + 1 ≡ k → run k (o ∷ []) f ≡ ended (apply o f) (Ok l)
unfolding run
run_one zero l o f h = absurd (omega (arith, h))
run_one (suc k) l o f h = let e : k ≡ l.0 = omega (arith, h) in rw e

module _ (c : Cell) where
  pub erase_placed : (a : Area) (from n : ℕ) (xs : List ℕ) (f : Flash) → apply (erase c a from n) (placed a xs f) ≡ placed a (erased_at c from n xs) f
  unfolding apply placed change
  erase_placed active from n xs f = refl
  erase_placed dfu from n xs f = refl
  erase_placed state from n xs f = refl

  pub write_placed : (a : Area) (at : ℕ) (bs xs : List ℕ) (f : Flash) → apply (write c a at bs) (placed a xs f) ≡ placed a (written_at c at bs xs) f
  unfolding apply placed change
  write_placed active at bs xs f = refl
  write_placed dfu at bs xs f = refl
  write_placed state at bs xs f = refl

  pub cut_erase : (k at n : ℕ) (xs : List ℕ) → k ≡ 0 → InArea k (unit_op c at n) xs xs cut
  cut_erase k at n xs e a f = run_cut k _ _ _ e

  pub cut_write : (k at : ℕ) (bs xs : List ℕ) → k ≡ 0 → InArea k (write_ops c at bs) xs xs cut
  cut_write k at bs xs e a f = run_cut k _ _ _ e

  module _ (k : ℕ) (l : Budget) (xs xs' : List ℕ) (h : l.0 + 1 ≡ k) where
    pub on_erase : (at n : ℕ) → xs' ≡ erased_at c at n xs → InArea k (unit_op c at n) xs xs' (Ok l)
    on_erase at n e a f =
        run_one k l (erase c a at n) (placed a xs f) h
        ∙ ap (λ g. ended g (Ok l)) (erase_placed a at n xs f ∙ ap (λ x. placed a x f) (sym e))

    pub on_write : (at : ℕ) (bs : List ℕ) → xs' ≡ written_at c at bs xs → InArea k (write_ops c at bs) xs xs' (Ok l)
    on_write at bs e a f =
        run_one k l (write c a at bs) (placed a xs f) h
        ∙ ap (λ g. ended g (Ok l)) (write_placed a at bs xs f ∙ ap (λ x. placed a x f) (sym e))

-- ---- operations on one area, and then more

module _ (k : ℕ) (os : Area → List Op) (xs xs₁ : List ℕ) (r : Flow) (w : InArea k os xs xs₁ r) where
  pub area_on : (ps : Area → List Op) (l : Budget) (xs₂ : List ℕ) (q : Flow) → r ≡ Ok l → InArea l.0 ps xs₁ xs₂ q → InArea k (λ a. os a ++ ps a) xs xs₂ q
  area_on ps l xs₂ q o v a f = then_on k (os a) (ps a) (placed a xs f) (placed a xs₁ f) r (w a f) l o ∙ v a f

  pub area_cut : (ps : Area → List Op) → r ≡ cut → InArea k (λ a. os a ++ ps a) xs xs₁ cut
  area_cut ps o a f = then_cut k (os a) (ps a) (placed a xs f) (placed a xs₁ f) r (w a f) o

-- ---- an erase, unit by unit: a turn, a cut, the end

-- units of no bytes are none
unit_count : (n unit count : ℕ) (o : Option ℕ) → SomeIff o (0 < unit) (n / unit) → count ≡ unwrap_or o 0 → count ≡ n / unit
unit_count n unit count None h e = let z : unit ≡ 0 = omega (arith, h) in e ∙ sym (ap (λ (u : ℕ). n / u) z ∙ div-zero n)
unit_count n unit count (Some m) h e = e ∙ h.1

-- a loop that has turns left has one and then the rest
pub one_more : (count i : ℕ) → i < count → count - i ≡ suc (count - (i + 1))
one_more count i h = omega arith

module _ (c : Cell) where
  module _ (k at unit end count i : ℕ) (xs xs' : List ℕ) (r : Flow) (w : InArea k (unit_op c at unit) xs xs' r) (e : end ≡ at + unit)
      (h : i < count) where
    pub unit_on : (l : Budget) → r ≡ Ok l → (a : Area) (f : Flash)
        → run k (unit_ops c (count - i) unit a at) (placed a xs f) ≡ run l.0 (unit_ops c (count - (i + 1)) unit a end) (placed a xs' f)
    unfolding unit_ops
    unit_on l o a f = rw (one_more count i h, e) (then_on k (unit_op c at unit a) _ (placed a xs f) (placed a xs' f) r (w a f) l o)

    pub unit_cut : r ≡ cut → (a : Area) (f : Flash) → run k (unit_ops c (count - i) unit a at) (placed a xs f) ≡ ended (placed a xs' f) cut
    unfolding unit_ops
    unit_cut o a f = rw (one_more count i h) (then_cut k (unit_op c at unit a) _ (placed a xs f) (placed a xs' f) r (w a f) o)

  -- no unit is left to erase
  pub units_none : (k count unit at : ℕ) (xs : List ℕ) → count ≡ 0 → InArea k (λ a. unit_ops c count unit a at) xs xs (on k)
  unfolding unit_ops run
  units_none k count unit at xs e a f = rw e

  -- an erase of no bytes
  pub erase_nothing : (k unit from n : ℕ) (a : Area) (f : Flash) → n ≡ 0 → run k (erase_ops c unit a from n) f ≡ ended f (on k)
  unfolding erase_ops unit_ops run
  erase_nothing k unit from n a f e = rw (e, zero-div unit)

  -- one unit
  pub erase_one : (k unit from n : ℕ) (xs xs' : List ℕ) (r : Flow) → 0 < unit → n ≡ unit → InArea k (λ a. erase_ops c unit a from n) xs xs' r
      → InArea k (unit_op c from unit) xs xs' r
  unfolding erase_ops unit_ops
  erase_one k unit from n xs xs' r h e w = let z : n / unit ≡ 1 = ap (λ (m : ℕ). m / unit) e ∙ div_self h in rw z at w

  -- an erase of n bytes is of as many units as the quotient says, or of none
  pub erase_of_units : (k unit from n m count : ℕ) (o : Option ℕ) (a : Area) (f : Flash) (e : End) → m ≡ n → SomeIff o (0 < unit) (m / unit)
      → count ≡ unwrap_or o 0 → run k (unit_ops c count unit a from) f ≡ e → run k (erase_ops c unit a from n) f ≡ e
  unfolding erase_ops
  erase_of_units k unit from n m count o a f e s q z h = rw (← s) (rw (unit_count m unit count o q z) at h)
