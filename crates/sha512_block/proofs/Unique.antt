-- Any two results that a contract of this crate allows for one input are equal: each is an equation. Assumes nothing.
use mathlib.Core.Path.{refl, sym, ◌∙◌}
use Rattle.state.specs.OneResult.{OneResult}
use Rattle.sha512_block.proofs.compress.Kinds as compress_kinds
use Rattle.sha512_block.proofs.compress.Reads as compress

pub compress_unique : OneResult compress_kinds.ps compress_kinds.r compress.Post
compress_unique κs a x y v w p q = (p ∙ sym q, refl)
