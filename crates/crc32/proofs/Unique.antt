-- Any two results that a contract of this crate allows for one input are equal. Assumes nothing.
use mathlib.Core.Path.{refl, sym, ◌∙◌}
use Rattle.state.specs.OneResult.{OneResult}
use Rattle.crc32.proofs.go_on.Kinds as go_on_kinds
use Rattle.crc32.proofs.go_on.Reads as go_on
use Rattle.crc32.proofs.sum.Kinds as sum_kinds
use Rattle.crc32.proofs.sum.Reads as sum

pub go_on_unique : OneResult go_on_kinds.ps go_on_kinds.r go_on.Post
go_on_unique κs a x y v w p q = (p ∙ sym q, refl)

pub sum_unique : OneResult sum_kinds.ps sum_kinds.r sum.Post
sum_unique κs a x y v w p q = (p ∙ sym q, refl)
