-- Any two results that a contract of this crate allows for one input are equal: each is an equation, of the result or of what is left
-- behind the `&mut`. Assumes nothing.
use mathlib.Core.Path.{refl, sym, ap, ◌∙◌}
use mathlib.Core.List.{List}
use Prim.Native.Nat.{ℕ}
use Rattle.state.specs.OneResult.{OneResult}
use Rattle.sha512_bytes.proofs.block_of.Kinds as block_of_kinds
use Rattle.sha512_bytes.proofs.block_of.Reads as block_of
use Rattle.sha512_bytes.proofs.with_length.Kinds as with_length_kinds
use Rattle.sha512_bytes.proofs.with_length.Reads as with_length
use Rattle.sha512_bytes.proofs.put_all.Kinds as put_all_kinds
use Rattle.sha512_bytes.proofs.put_all.Reads as put_all_reads

pub block_of_unique : OneResult block_of_kinds.ps block_of_kinds.r block_of.Post
block_of_unique κs a x y v w p q = (p ∙ sym q, refl)

pub with_length_unique : OneResult with_length_kinds.ps with_length_kinds.r with_length.Post
with_length_unique κs a x y v w p q = (p ∙ sym q, refl)

pub put_all_unique : OneResult put_all_kinds.ps put_all_kinds.r put_all_reads.Post
put_all_unique κs a x y v w p q = (refl, ap (λ (l : List ℕ). (l, (tt, tt))) (p ∙ sym q))
