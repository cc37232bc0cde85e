-- What is promised of hash at the C boundary, beside the other calls in packed/specs/Told. Assumes nothing.
use Rattle.std.specs.Prelude.{◌≡◌, List, ℕ, length}
use Rattle.geometry.specs.declared.Sizes.{Sizes}
use Rattle.mem_flash.specs.Flash.{Flash}
use Rattle.rules.specs.Calls.{report}
use Rattle.firmware_hash.specs.Hash.{hash_call, hash_out}
use Rattle.packed.specs.Packed.{packed}

-- the number r, and the output `out` becomes out'
pub record ToldHash (z : Sizes) (len chunk : ℕ) (out out' : List ℕ) (f : Flash) (r : ℕ) : Type 0 where
  pub answer : r ≡ packed (report (hash_call z len chunk (length out) f) 0)
  pub digest : out' ≡ hash_out z len chunk out f
