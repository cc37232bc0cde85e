-- What is promised of the two functions that change the state area, whatever the images hold. Assumes nothing.
use Rattle.std.specs.Prelude.{◌≡◌, List, [], ◌∷◌, ℕ, length}
use Rattle.geometry.specs.declared.StateSizes.{StateSizes}
use Rattle.mem_flash.specs.Run.{Flow}
use Rattle.mem_flash.specs.Flash.{Op}
use Rattle.mem_flash.specs.Run.{flash, ended, run}
use Rattle.rules.specs.StateArea.{invalidate_op}
use Rattle.rules.specs.Boot.{renew_ops}

-- operations on a state area that holds st leave st' and the answer r
abbrev pub InState : ℕ → List Op → List ℕ → List ℕ → Flow → Type 0
InState k ops st st' r = (a d : List ℕ) → run k ops (flash a d st) ≡ ended (flash a d st') r

-- the invalidation
abbrev pub Invalidated : ℕ → StateSizes → List ℕ → List ℕ → Flow → Type 0
Invalidated k z st st' r = InState k (invalidate_op z ∷ []) st st' r

-- the area erased and a magic written
abbrev pub Renewed : ℕ → StateSizes → ℕ → List ℕ → List ℕ → Flow → Type 0
Renewed k z m st st' r = InState k (renew_ops z (length st) m) st st' r
