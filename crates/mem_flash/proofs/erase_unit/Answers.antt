use borrow.Author.Rules.{rules}
use Rattle.mem_flash.proofs.Bytes.{erase_part}
use Rattle.mem_flash.proofs.Runs.{cut_of, cut_erase, on_erase}
use Rattle.mem_flash.proofs.erase_unit.Goals as goal

pub returns-in_err-rest : goal.returns-in_err-rest
returns-in_err-rest c = rw (cut_of _ c.from_residual.ensures.0) (cut_erase _ _ _ _ _ c.in_err-rest.ensures.err)

pub returns : goal.returns
returns c =
    on_erase _ _ _ _ _ (search rules) _ _
    (erase_part _ _ _ _ _ _ _ _ c.within-range.ensures.start c.within-range.ensures.end c.erased.ensures c.set_all.ensures)
