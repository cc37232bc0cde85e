-- A run with a budget: document 01, "A call has a budget K". Two readings of it, by a walk and by counting, which
-- proofs/Runs shows to be one. Assumes nothing.
use Rattle.std.specs.Prelude.{Result, Ok, Err, ◌≡◌, List, [], ◌∷◌, ℕ, zero, suc, ◌-◌, leb, length}
use Rattle.state.specs.declared.Cell.{Cell}
use Rattle.state.specs.Choice.{pick}
use Rattle.mem_flash.specs.declared.Budget.{Budget}
use Rattle.mem_flash.specs.declared.PowerCut.{PowerCut}
use Rattle.mem_flash.specs.Flash.{Area, Flash, Op, erase, write, change, apply, after, Supply, count}

-- the flash of three areas
abbrev pub flash : List ℕ → List ℕ → List ℕ → Flash
flash a d s = record { active = a; dfu = d; state = s }

-- what operations answer: go on with a budget, or the power is cut
abbrev pub Flow : Type 0
Flow = Result Budget PowerCut

abbrev pub on : ℕ → Flow
on k = Ok (record { 0 = k })

abbrev pub cut : Flow
cut = Err (record {})

-- how a run ends: what the flash holds, and whether it goes on
pub record End : Type 0 where
  pub flash : Flash
  pub flow : Flow

abbrev pub ended : Flash → Flow → End
ended f r = record { flash = f; flow = r }

-- the walk: each operation takes one of the budget, and one that is wanted when none is left is the cut
unfoldable pub run : Supply → List Op → Flash → End
run k [] f = ended f (on k)
run zero (o ∷ os) f = ended f cut
run (suc k) (o ∷ os) f = run k os (apply o f)

-- by counting: n operations with a budget of k
unfoldable pub outcome : Supply → ℕ → Flow
outcome k n = pick (leb n (count k)) (on (count k - n)) cut

-- the operations os on the flash f with a budget of k leave the flash f' and the answer r
pub record Ran (k : Supply) (os : List Op) (f f' : Flash) (r : Flow) : Type 0 where
  pub flash : f' ≡ after k os f
  pub flow : r ≡ outcome k (length os)

-- the flash with the bytes xs in the area a
unfoldable pub placed : Area → List ℕ → Flash → Flash
placed a xs f = change a (λ _. xs) f

-- operations on one area, whichever it is: they leave xs' where xs was, and the answer r
abbrev pub InArea : Supply → (Area → List Op) → List ℕ → List ℕ → Flow → Type 0
InArea k os xs xs' r = (a : Area) (f : Flash) → run k (os a) (placed a xs f) ≡ ended (placed a xs' f) r

-- an erase of one unit, and a write, as lists of operations with their area last
abbrev pub unit_op : Cell → ℕ → ℕ → Area → List Op
unit_op c at n a = erase c a at n ∷ []

abbrev pub write_ops : Cell → ℕ → List ℕ → Area → List Op
write_ops c at bs a = write c a at bs ∷ []
