-- A text of the bench program: its bytes, and what else lies in the room for them, of which no clause speaks. Assumes nothing.
use Rattle.std.specs.Prelude.{List, ℕ}

pub record Text : Type 0 where
  pub items : List ℕ
  pub spare : List ℕ
