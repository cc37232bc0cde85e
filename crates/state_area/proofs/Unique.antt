-- Any two results that a contract of this crate allows for one input are equal: the answer, and the area. Assumes nothing.
use mathlib.Core.Path.{refl, sym, ap, ◌∙◌}
use mathlib.Core.List.{[]}
use Rattle.state.specs.OneResult.{OneResult}
use Rattle.mem_flash.specs.Flash.{Flash}
use Rattle.mem_flash.proofs.Unique.{end_unique}
use Rattle.state_area.proofs.magic_is.Kinds as magic_is_kinds
use Rattle.state_area.proofs.magic_is.Reads as magic_is
use Rattle.state_area.proofs.read.Kinds as read_kinds
use Rattle.state_area.proofs.read.Reads as read
use Rattle.state_area.proofs.is_valid.Kinds as is_valid_kinds
use Rattle.state_area.proofs.is_valid.Reads as is_valid
use Rattle.state_area.proofs.most_marks.Kinds as most_marks_kinds
use Rattle.state_area.proofs.most_marks.Reads as most_marks_reads
use Rattle.state_area.proofs.first_open.Kinds as first_open_kinds
use Rattle.state_area.proofs.first_open.Reads as first_open_reads
use Rattle.state_area.proofs.marks_done.Kinds as marks_done_kinds
use Rattle.state_area.proofs.marks_done.Reads as marks_done_reads
use Rattle.state_area.proofs.progress.Kinds as progress_kinds
use Rattle.state_area.proofs.progress.Reads as progress
use Rattle.state_area.proofs.invalidate.Kinds as invalidate_kinds
use Rattle.state_area.proofs.invalidate.Reads as invalidate
use Rattle.state_area.proofs.renew.Kinds as renew_kinds
use Rattle.state_area.proofs.renew.Reads as renew

pub magic_is_unique : OneResult magic_is_kinds.ps magic_is_kinds.r magic_is.Post
magic_is_unique κs a x y v w p q = (p ∙ sym q, refl)

pub read_unique : OneResult read_kinds.ps read_kinds.r read.Post
read_unique κs a x y v w p q = (p ∙ sym q, refl)

pub is_valid_unique : OneResult is_valid_kinds.ps is_valid_kinds.r is_valid.Post
is_valid_unique κs a x y v w p q = (p ∙ sym q, refl)

pub most_marks_unique : OneResult most_marks_kinds.ps most_marks_kinds.r most_marks_reads.Post
most_marks_unique κs a x y v w p q = (p ∙ sym q, refl)

pub first_open_unique : OneResult first_open_kinds.ps first_open_kinds.r first_open_reads.Post
first_open_unique κs a x y v w p q = (p ∙ sym q, refl)

pub marks_done_unique : OneResult marks_done_kinds.ps marks_done_kinds.r marks_done_reads.Post
marks_done_unique κs a x y v w p q = (p ∙ sym q, refl)

pub progress_unique : OneResult progress_kinds.ps progress_kinds.r progress.Post
progress_unique κs a x y v w p q = (p ∙ sym q, refl)

-- the area, and whether it goes on
pub invalidate_unique : OneResult invalidate_kinds.ps invalidate_kinds.r invalidate.Post
invalidate_unique κs a x y v w p q =
    let e = end_unique (p [] []) (q [] []) in (e.1, ap (λ (f : Flash). (f.state, (tt, (tt, tt)))) e.0)

pub renew_unique : OneResult renew_kinds.ps renew_kinds.r renew.Post
renew_unique κs a x y v w p q =
    let e = end_unique (p [] []) (q [] []) in (e.1, ap (λ (f : Flash). (f.state, (tt, (tt, (tt, tt))))) e.0)
