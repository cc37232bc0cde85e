-- Any two results that a contract of this crate allows for one input are equal: what the area holds, and whether it goes on. A contract
-- says it of whichever area the slice is, so it is enough to ask it of one. Assumes nothing.
use mathlib.Core.Path.{◌≡◌, sym, ap, ◌∙◌}
use mathlib.Core.List.{[]}
use Rattle.state.specs.OneResult.{OneResult}
use Rattle.mem_flash.specs.Flash.{active, Flash, change}
use Rattle.mem_flash.specs.Run.{Flow, flash, End, ended, placed}
use Rattle.mem_flash.proofs.erase.Kinds as erase_kinds
use Rattle.mem_flash.proofs.erase.Reads as erase
use Rattle.mem_flash.proofs.write.Kinds as write_kinds
use Rattle.mem_flash.proofs.write.Reads as write
use Rattle.mem_flash.proofs.write_word.Kinds as write_word_kinds
use Rattle.mem_flash.proofs.write_word.Reads as write_word

-- how a run ends: the flash, and whether it goes on
pub end_unique : {e : End} {f h : Flash} {q r : Flow} → e ≡ ended f q → e ≡ ended h r → (f ≡ h) × (q ≡ r)
end_unique p q = let e = sym p ∙ q in (ap (λ (x : End). x.flash) e, ap (λ (x : End). x.flow) e)

pub erase_unique : OneResult erase_kinds.ps erase_kinds.r erase.Post
unfolding placed change
erase_unique κs a x y v w p q =
    let e = end_unique (p active (flash [] [] [])) (q active (flash [] [] [])) in (e.1, ap (λ (f : Flash). (f.active, (tt, (tt, (tt, (tt, (tt, tt))))))) e.0)

pub write_unique : OneResult write_kinds.ps write_kinds.r write.Post
unfolding placed change
write_unique κs a x y v w p q =
    let e = end_unique (p active (flash [] [] [])) (q active (flash [] [] [])) in (e.1, ap (λ (f : Flash). (f.active, (tt, (tt, (tt, (tt, tt)))))) e.0)

pub write_word_unique : OneResult write_word_kinds.ps write_word_kinds.r write_word.Post
unfolding placed change
write_word_unique κs a x y v w p q =
    let e = end_unique (p active (flash [] [] [])) (q active (flash [] [] [])) in (e.1, ap (λ (f : Flash). (f.active, (tt, (tt, (tt, (tt, (tt, tt))))))) e.0)
