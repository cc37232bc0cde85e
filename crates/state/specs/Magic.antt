-- A state: the bytes of its word (document 01, "State area") and its number ("When a call says no"). Assumes nothing.
use Rattle.std.specs.Prelude.{Bool, true, false, List, [], ◌∷◌, ℕ, eqb}
use Rattle.state.specs.declared.State.{State}
use Rattle.state.specs.declared.State.TheVariants.{Boot, Swap, Revert, DfuDetach}
use Rattle.state.specs.Choice.{pick}

-- the byte of which a state's word is made
unfoldable pub magic : State → ℕ
magic Boot = 0xD0
magic Swap = 0xF0
magic Revert = 0xC0
magic DfuDetach = 0xE0

-- and a state's number, where an answer carries one
unfoldable pub state_number : State → ℕ
state_number Boot = 0
state_number Swap = 1
state_number Revert = 2
state_number DfuDetach = 3

-- each byte of a word is b
unfoldable pub throughout : ℕ → List ℕ → Bool
throughout b [] = true
throughout b (x ∷ xs) = pick (eqb x b) (throughout b xs) false

-- some byte of a word is b
unfoldable pub holds : ℕ → List ℕ → Bool
holds b [] = false
holds b (x ∷ xs) = pick (eqb x b) true (holds b xs)

-- the state of a word: a word must hold a magic throughout, and any other reads Boot; no bytes at all read Swap
unfoldable pub state_of : List ℕ → State
state_of w =
    pick (throughout (magic Swap) w) Swap
    (pick (throughout (magic Revert) w) Revert (pick (throughout (magic DfuDetach) w) DfuDetach Boot))
