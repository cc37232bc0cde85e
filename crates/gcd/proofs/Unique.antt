-- Any two results that a contract of this crate allows for one input are equal. Assumes nothing.
use mathlib.Core.Path.{refl, sym, ◌∙◌}
use native.Mathlib.Nat.{dvd_antisymm}
use Rattle.state.specs.OneResult.{OneResult}
use Rattle.gcd.proofs.gcd.Kinds as gcd_kinds
use Rattle.gcd.proofs.gcd.Reads as gcd
use Rattle.gcd.proofs.least_common.Kinds as least_common_kinds
use Rattle.gcd.proofs.least_common.Reads as least_common_reads

pub gcd_unique : OneResult gcd_kinds.ps gcd_kinds.r gcd.Post
gcd_unique κs a x y v w p q = (dvd_antisymm (q.greatest x p.first p.second) (p.greatest y q.first q.second), refl)

pub least_common_unique : OneResult least_common_kinds.ps least_common_kinds.r least_common_reads.Post
least_common_unique κs a x y v w p q = (p ∙ sym q, refl)
