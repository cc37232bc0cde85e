-- 02, No. 6: no smaller page would serve. Proved of every geometry with positive erase sizes in proofs/PageSize. Assumes nothing.
use Rattle.std.specs.Prelude.{◌≡◌, ◌⊎◌, ℕ, max}
use Rattle.std.specs.Int.{◌∣◌}
use Rattle.geometry.specs.declared.Geometry.{Geometry}
use Rattle.geometry.specs.Geometry.{page}

pub record LeastPage (g : Geometry) : Type 0 where
  -- a page is a whole number of erase units of either image
  pub active : g.ea ∣ page g
  pub dfu : g.ed ∣ page g
  -- and each size of which that holds is a multiple of it
  pub least : (q : ℕ) → g.ea ∣ q → g.ed ∣ q → page g ∣ q
  -- where one erase size divides the other it is the larger of the two, as it is in the Rust
  pub larger : ((g.ea ∣ g.ed) ⊎ (g.ed ∣ g.ea)) → page g ≡ max g.ea g.ed
