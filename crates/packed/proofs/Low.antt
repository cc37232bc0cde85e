-- What makes a packed answer fit. Assumes nothing.
use Prim.Native.Nat.{◌≤◌}
use lib.Dec.{lit≤}
use Rattle.geometry.specs.declared.Refusal.{Refusal}
use Rattle.geometry.specs.declared.Refusal.TheVariants.{Limit, Page, Area, StateArea, BadState, Range, Checksum}
use Rattle.geometry.specs.Refusals.{number}

-- a refusal's number takes four bits
pub number_low : (w : Refusal) → number w ≤ 15
unfolding number
number_low Limit = lit≤ tt
number_low Page = lit≤ tt
number_low Area = lit≤ tt
number_low StateArea = lit≤ tt
number_low BadState = lit≤ tt
number_low Range = lit≤ tt
number_low Checksum = lit≤ tt
