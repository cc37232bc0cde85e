-- No two answers have one number at the C boundary, so nothing of an answer is lost on the way to C. Assumes nothing.
use mathlib.Core.Path.{◌≡◌, refl, ap, ◌∙◌, sym}
use Rattle.std.specs.Prelude.{Option, None, Some}
use Prim.Native.Nat.{ℕ, ◌^◌, ◌≤◌, ◌<◌}
use native.Mathlib.Omega.{arith}
use lib.Dec.{eqb, lit≤}
use Rattle.state.specs.declared.State.{State}
use Rattle.state.specs.declared.State.TheVariants.{Boot, Swap, Revert, DfuDetach}
use Rattle.state.specs.Choice.{pick}
use Rattle.state.specs.Magic.{state_number}
use Rattle.rules.specs.Calls.{Answer, Report, reported}
use Rattle.rules.proofs.Unique.{answer_unique}
use Rattle.packed.specs.Packed.{state_byte, joined, packed}

-- the three numbers can be read back
apart : (a b c x y z : ℕ) → b ≤ 255 → c < 2 ^ 32 → y ≤ 255 → z < 2 ^ 32 → joined a b c ≡ joined x y z → (a ≡ x) × (b ≡ y) × (c ≡ z)
unfolding joined
apart a b c x y z hb hc hy hz e = (omega arith, omega arith, omega arith)

-- and the state of a byte
byte_low : (s : Option State) → state_byte s ≤ 255
unfolding state_byte state_number
byte_low None = lit≤ tt
byte_low (Some Boot) = lit≤ tt
byte_low (Some Swap) = lit≤ tt
byte_low (Some Revert) = lit≤ tt
byte_low (Some DfuDetach) = lit≤ tt

state_at : ℕ → Option State
state_at n =
    pick (eqb n 0) (Some Boot) (pick (eqb n 1) (Some Swap) (pick (eqb n 2) (Some Revert) (pick (eqb n 3) (Some DfuDetach) None)))

state_back : (s : Option State) → state_at (state_byte s) ≡ s
unfolding state_at state_byte state_number pick
state_back None = refl
state_back (Some Boot) = refl
state_back (Some Swap) = refl
state_back (Some Revert) = refl
state_back (Some DfuDetach) = refl

abbrev made : ℕ → Option State → ℕ → Report
made n s c = record { number = n; state = s; count = c }

pub packed_apart : (t u : Report) → t.count < 2 ^ 32 → u.count < 2 ^ 32 → packed t ≡ packed u → t ≡ u
unfolding packed
packed_apart t u h k e =
    let p = apart _ _ _ _ _ _ (byte_low t.state) h (byte_low u.state) k e in
    let s : t.state ≡ u.state = sym (state_back t.state) ∙ ap state_at p.1 ∙ state_back u.state in
    ap (λ (n : ℕ). made n t.state t.count) p.0
    ∙ ap (λ (o : Option State). made u.number o t.count) s
    ∙ ap (made u.number u.state) p.2

pub answer_apart : (q r : Answer) → (reported q).count < 2 ^ 32 → (reported r).count < 2 ^ 32
    → packed (reported q) ≡ packed (reported r) → q ≡ r
answer_apart q r h k e = answer_unique q r (packed_apart (reported q) (reported r) h k e)
