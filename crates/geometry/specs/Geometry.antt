-- Document 01, "Geometry": what follows from the seven numbers, and from the erase value (02, No. 11). Assumes nothing.
use Rattle.std.specs.Prelude.{ℕ, ◌/◌, eqb}
use Rattle.state.specs.declared.Cell.{Cell}
use Rattle.state.specs.declared.Cell.TheVariants.{High, Low}
use Rattle.state.specs.Choice.{pick}
use Rattle.state.specs.Cells.{erased}
use Rattle.gcd.specs.Multiple.{least_common}
use Rattle.geometry.specs.declared.Geometry.{Geometry}
use Rattle.geometry.specs.declared.StateSizes.{StateSizes}

-- P: the page is the least common multiple of the two images' erase sizes (02, No. 6)
unfoldable pub page : Geometry → ℕ
page g = least_common g.ea g.ed

-- N: the pages of an active area of la bytes
unfoldable pub pages : Geometry → ℕ → ℕ
pages g la = la / page g

-- the cells whose erased bytes hold the erase value
unfoldable pub cell : StateSizes → Cell
cell z = pick (eqb z.ev (erased Low)) Low High

-- T: the words of ws bytes in a state area of ls bytes
unfoldable pub words : ℕ → ℕ → ℕ
words ws ls = ls / ws
