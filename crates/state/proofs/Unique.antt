-- Any two results that a contract of this crate allows for one input are equal. Assumes nothing.
use mathlib.Core.Path.{refl, sym, ◌∙◌}
use Rattle.state.specs.OneResult.{OneResult}
use Rattle.state.proofs.Cell.erased.Kinds as erased_kinds
use Rattle.state.proofs.Cell.erased.Reads as erased
use Rattle.state.proofs.Cell.marked.Kinds as marked_kinds
use Rattle.state.proofs.Cell.marked.Reads as marked
use Rattle.state.proofs.State.magic.Kinds as magic_kinds
use Rattle.state.proofs.State.magic.Reads as magic
use Rattle.state.proofs.State.from_magic.Kinds as from_magic_kinds
use Rattle.state.proofs.State.from_magic.Reads as from_magic
use Rattle.state.proofs.State.from.Kinds as from_kinds
use Rattle.state.proofs.State.from.Reads as from
use Rattle.state.proofs.StateFromRefSliceU8.from.Kinds as converted_kinds
use Rattle.state.proofs.StateFromRefSliceU8.from.Reads as converted
use Rattle.state.proofs.word.all_are.Kinds as all_are_kinds
use Rattle.state.proofs.word.all_are.Reads as all_are

pub erased_unique : OneResult erased_kinds.ps erased_kinds.r erased.Post
erased_unique κs a x y v w p q = (p ∙ sym q, refl)

pub marked_unique : OneResult marked_kinds.ps marked_kinds.r marked.Post
marked_unique κs a x y v w p q = (p ∙ sym q, refl)

pub magic_unique : OneResult magic_kinds.ps magic_kinds.r magic.Post
magic_unique κs a x y v w p q = (p ∙ sym q, refl)

pub from_magic_unique : OneResult from_magic_kinds.ps from_magic_kinds.r from_magic.Post
from_magic_unique κs a x y v w p q = (p ∙ sym q, refl)

pub from_unique : OneResult from_kinds.ps from_kinds.r from.Post
from_unique κs a x y v w p q = (p ∙ sym q, refl)

pub converted_unique : OneResult converted_kinds.ps converted_kinds.r converted.Post
converted_unique κs a x y v w p q = (p ∙ sym q, refl)

pub all_are_unique : OneResult all_are_kinds.ps all_are_kinds.r all_are.Post
all_are_unique κs a x y v w p q = (p ∙ sym q, refl)
