use borrow.Author.Rules.{rules}
use Rattle.mem_flash.proofs.Bytes.{write_part}
use Rattle.mem_flash.proofs.Runs.{cut_of, cut_write, on_write}
use Rattle.mem_flash.proofs.write_by.Goals as goal

pub returns-in_err-rest : goal.returns-in_err-rest
returns-in_err-rest g c = λ bs e h. rw (cut_of _ c.from_residual.ensures.0) (cut_write _ _ _ _ _ c.in_err-rest.ensures.err)

pub returns : goal.returns
returns g c =
    λ bs e h.
    on_write _ _ _ _ _ (search rules) _ _
    (write_part _ _ _ _ _ _ _ c.within-range.ensures.start (search rules) (c.program.ensures _ bs c.marked.ensures (search rules) (search rules)))
