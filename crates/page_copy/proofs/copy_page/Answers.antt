use Rattle.mem_flash.proofs.Runs.{cut_of}
use Rattle.page_copy.proofs.Chunks.{fill_cut, fill_on}
use borrow.Author.Rules.{rules}
use Rattle.page_copy.proofs.copy_page.Goals as goal

pub returns-in_err-rest : goal.returns-in_err-rest
returns-in_err-rest c =
    let a = c.args in
    rw (cut_of _ c.from_residual.ensures.0)
    (fill_cut a.g _ a.unit a.to.0 a.from.0 a.source.now _ _ _ c.cell-cell.ensures c.page_size-p.ensures c.offset-start.ensures c.erase.ensures
    c.in_err-rest.was)

pub returns : goal.returns
returns c =
    let a = c.args in
    fill_on a.g _ a.unit a.to.0 a.from.0 a.source.now _ _ _ c.cell-cell.ensures c.page_size-p.ensures
    c.offset-start.ensures c.erase.ensures _ _ c.in_ok-rest.was c.offset-first.ensures (search rules)
    c.copy_chunks.ensures
