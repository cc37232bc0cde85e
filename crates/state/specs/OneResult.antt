-- A contract that leaves nothing open: any two results that it allows for one input are equal. It is said of the contract as Rattle
-- generates it from the source: of `Post` in a function's `Reads`, over the kinds of its parameters and its result (`Kinds`).
-- Each crate's proofs/Unique has it of its public functions. Assumes nothing.
use Rattle.std.specs.Prelude.{◌≡◌, List, ℕ}
use contract.Lifetimes.{Lfts}
use denote.Triple.Clauses.{Lasts, at_exit}
use borrow.Fn.Kinds.{ParamKind, ResultKind, Dens, res_t, ended_of, Out}

-- for the same arguments a: the results x and y are equal, and so is all that is left behind the `&mut`s, v and w
abbrev pub OneResult : {n : ℕ} (ps : List (ParamKind n)) (r : ResultKind n) → Out n ps r → Type 0
OneResult {n} ps r Post =
    (κs : Lfts n) (a : Dens κs ps) (x y : (res_t r κs).Denot) (v w : Lasts (ended_of n ps r) κs a)
    → Post κs a x (at_exit (ended_of n ps r) κs a v) → Post κs a y (at_exit (ended_of n ps r) κs a w) → (x ≡ y) × (v ≡ w)
