-- A device comes to rest: of three boots in a row that are not cut, the third does no operation, whatever the areas held. Proved
-- in proofs/Settled. Assumes nothing.
use Rattle.std.specs.Prelude.{◌≡◌, [], ◌∷◌}
use Rattle.geometry.specs.declared.Geometry.{Geometry}
use Rattle.mem_flash.specs.Flash.{Flash, Supply}
use Rattle.rules.specs.Boot.{prepare_boot}
use Rattle.power.specs.Power.{answer, ran, Cut, runs}

-- a boot of the flash f does nothing, under every budget
pub record Quiet (g : Geometry) (f : Flash) : Type 0 where
  pub done : (k : Supply) → (answer g k f).number ≡ 0
  pub count : (k : Supply) → (answer g k f).count ≡ 0
  pub flash : (k : Supply) → ran g k f ≡ f

-- from any flash that is not refused, two runs that are not cut are enough
abbrev pub Settles : Geometry → Flash → Type 0
Settles g f =
    (prepare_boot g f).refusal ≡ 0 → (j k : Supply) → (Cut g j f → ⊥) → (Cut g k (ran g j f) → ⊥) → Quiet g (runs g (j ∷ k ∷ []) f)
