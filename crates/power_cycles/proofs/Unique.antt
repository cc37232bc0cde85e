-- Any two results that the contract of boot_until_whole allows for one input are equal: count, answer and areas. Assumes nothing.
use mathlib.Core.Path.{◌≡◌, sym, ap, ap₂, ◌∙◌}
use mathlib.Core.Logic.{◌⊎◌, inl, inr}
use mathlib.Core.List.{List, [], ◌∷◌}
use Prim.Native.Nat.{ℕ, zero, suc, ◌+◌, ◌-◌, ◌≤◌, ◌<◌}
use native.Mathlib.Nat.{lt_of_not-le}
use native.Mathlib.Decide.{dec_le}
use native.Mathlib.Omega.{arith}
use lib.ListN.{length, take, get_or}
use Rattle.state.specs.OneResult.{OneResult}
use Rattle.geometry.specs.declared.Geometry.{Geometry}
use Rattle.mem_flash.specs.Flash.{Flash}
use Rattle.rules.specs.Calls.{Answer, Report, reported}
use Rattle.rules.proofs.Unique.{answer_unique}
use Rattle.power.specs.Power.{ran, Cut, runs, AllCut}
use Rattle.power_cycles.specs.Cycles.{Uncut, last_answer, Made, Cycles}
use Rattle.power_cycles.proofs.Made.{made_none, made_last}
use Rattle.power_cycles.proofs.boot_until_whole.Kinds as kinds
use Rattle.power_cycles.proofs.boot_until_whole.Reads as boot_until_whole

-- of boots that are all cut, each is
cut_at : (g : Geometry) (ks : List ℕ) (m j : ℕ) (f : Flash) → m < j → m < length ks → AllCut g (take j ks) f
    → Cut g (get_or ks m 0) (runs g (take m ks) f)
unfolding AllCut runs
cut_at g [] m j f a b c = absurd (omega arith)
cut_at g (k ∷ ks) m zero f a b c = absurd (omega arith)
cut_at g (k ∷ ks) zero (suc j) f a b c = c.0
cut_at g (k ∷ ks) (suc m) (suc j) f a b c = cut_at g ks m j (ran g k f) (omega arith) (omega arith) c.1

module _ {g : Geometry} {ks : List ℕ} {f f₁ f₂ : Flash} {q r : Answer} where
  -- where more boots were made, the earlier ones were cut
  earlier : (m n : ℕ) → Made g ks f f₁ m q → Made g ks f f₂ n r → m < n → (reported q).number ≡ 7
  unfolding reported Cut
  earlier zero n a b less = ap (λ (t : Report). t.number) (made_none a)
  earlier (suc m) n a b less =
      ap (λ (t : Report). t.number) (made_last m a).told
      ∙ cut_at g ks m (n - 1) f (omega (arith, less)) (omega (arith, a.budgets)) b.cuts

  -- so the boots do not go on where they stop
  no_more : {m n : ℕ} → Cycles g ks f f₁ m q → Cycles g ks f f₂ n r → m < n → ⊥
  no_more {m} {n} a b less = go a.stops
    where
      go : Uncut q ⊎ (m ≡ length ks) → ⊥
      go (inl w) = w (earlier m n a.made b.made less)
      go (inr e) = omega (arith, b.made.budgets)

same_count : {g : Geometry} {ks : List ℕ} {f f₁ f₂ : Flash} {m n : ℕ} {q r : Answer} → Cycles g ks f f₁ m q → Cycles g ks f f₂ n r
    → m ≡ n
same_count {m = m} {n} a b = go (dec_le (m + 1) n) (dec_le (n + 1) m)
  where
    go : Dec (m + 1 ≤ n) → Dec (n + 1 ≤ m) → m ≡ n
    go (yes x) y = absurd (no_more a b (omega arith))
    go (no x) (yes y) = absurd (no_more b a (omega arith))
    go (no x) (no y) = omega (arith, lt_of_not-le x, lt_of_not-le y)

same : {g : Geometry} {ks : List ℕ} {f f₁ f₂ : Flash} {m n : ℕ} {q r : Answer} → m ≡ n → Made g ks f f₁ m q → Made g ks f f₂ n r
    → (f₁ ≡ f₂) × (q ≡ r)
same {g} {ks} {f} {q = q} {r} e a b = (
  a.leaves ∙ ap (λ (i : ℕ). runs g (take i ks) f) e ∙ sym b.leaves,
  answer_unique q r (a.told ∙ ap (λ (i : ℕ). last_answer g (take i ks) f) e ∙ sym b.told),
)

-- count, areas and answer
pub cycles_unique : {g : Geometry} {ks : List ℕ} {f f₁ f₂ : Flash} {m n : ℕ} {q r : Answer} → Cycles g ks f f₁ m q → Cycles g ks f f₂ n r
    → (m ≡ n) × (f₁ ≡ f₂) × (q ≡ r)
cycles_unique a b = let n = same_count a b in let e = same n a.made b.made in (n, e.0, e.1)

pub boot_until_whole_unique : OneResult kinds.ps kinds.r boot_until_whole.Post
boot_until_whole_unique κs a x y v w p q =
    let e = cycles_unique p q in (
      ap₂ (λ (m : ℕ) (r : Answer). record { runs = m; answer = r }) e.0 e.2,
      ap (λ (f : Flash). (tt, (f.active, (f.dfu, (f.state, (tt, tt)))))) e.1,
    )
