-- What a page copy needs: the two pages lie within their images, and a page is a whole number of chunks. Assumes nothing.
use Rattle.std.specs.Prelude.{◌≡◌, ℕ, ◌+◌, ◌*◌, ◌/◌, ◌≤◌, ◌<◌}
use Rattle.geometry.specs.declared.Geometry.{Geometry}
use Rattle.geometry.specs.Geometry.{page}

-- page `from` of an image of m bytes goes to page `to` of an image of n bytes
pub record Room (g : Geometry) (from m to n : ℕ) : Type 0 where
  pub chunk : 0 < g.b
  pub chunks : page g / g.b * g.b ≡ page g
  pub source : from * page g + page g ≤ m
  pub target : to * page g + page g ≤ n
