-- The one choice that the definitions make: by a test. Assumes nothing.
use Rattle.std.specs.Prelude.{Bool, true, false}

-- x where the test passes, y where it fails
unfoldable pub pick {ℓ} : {X : Type ℓ} → Bool → X → X → X
pick true x y = x
pick false x y = y
