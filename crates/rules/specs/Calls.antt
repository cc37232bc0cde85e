-- A call, and what follows from it: document 01, "A call has a budget K" and "When a call says no". Every call of the
-- crate is one `Call`: the refusal, or the operations of its run without a budget. Assumes nothing.
use Rattle.std.specs.Prelude.{◌≡◌, List, ℕ, leb, eqb, length}
use Rattle.std.specs.Prelude.{Result, Ok, Err, Option, None}
use Rattle.state.specs.declared.State.{State}
use Rattle.state.specs.Choice.{pick}
use Rattle.geometry.specs.Refusals.{number}
use Rattle.mem_flash.specs.Flash.{Flash, Op, after, Supply}
use Rattle.rules.specs.declared.Done.{Done}
use Rattle.rules.specs.declared.Stop.{Stop}
use Rattle.rules.specs.declared.Stop.TheVariants.{Refused, Cut}

-- what a call tells: the number of the table, the state that it carries, the operations done
pub record Report : Type 0 where
  pub number : ℕ
  pub state : Option State
  pub count : ℕ

-- the answer of the code, and what each case of it tells
abbrev pub Answer : Type 0
Answer = Result Done Stop

unfoldable pub reported : Answer → Report
reported (Ok done) = record { number = 0; state = done.state; count = done.count }
reported (Err (Refused r)) = record { number = number r; state = None; count = 0 }
reported (Err (Cut n)) = record { number = 7; state = None; count = n }

-- a call: the number under which it is refused, or 0; the state that it carries when done; its operations
pub record Call : Type 0 where
  pub refusal : ℕ
  pub state : Option State
  pub ops : List Op

-- with a budget of k: the refusal; else done with all operations; else the cut after k
unfoldable pub report : Call → Supply → Report
report c k =
    pick (eqb c.refusal 0)
    (pick (leb (length c.ops) k)
    (record { number = 0; state = c.state; count = length c.ops })
    (record { number = 7; state = None; count = k }))
    (record { number = c.refusal; state = None; count = 0 })

-- a refusal changes nothing; else the first k operations are done
unfoldable pub left : Call → Supply → Flash → Flash
left c k f = pick (eqb c.refusal 0) (after k c.ops f) f

-- the answer r and the flash f' are those of the call c on the flash f with a budget of k
pub record Did (c : Call) (k : Supply) (f f' : Flash) (r : Answer) : Type 0 where
  pub answer : reported r ≡ report c k
  pub flash : f' ≡ left c k f
