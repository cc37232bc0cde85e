use mathlib.Core.Path.{◌∙◌}
use native.Mathlib.Omega.{arith}
use borrow.Author.Rules.{rules}
use Rattle.mem_flash.proofs.Runs.{cut_of}
use Rattle.page_copy.proofs.Chunks.{chunk_on, chunk_cut, chunk_end, chunk_room}
use Rattle.page_copy.proofs.copy_chunks.Goals as goal

pub returns-in_err-still : goal.returns-in_err-still
returns-in_err-still c =
    let s = c.in-Some.ensures.steps in
    λ a f.
    rw (cut_of _ c.from_residual.ensures.0)
    (c.loop-i.invariant.2 a f
    ∙ chunk_cut _ _ _ _ _ _ _ _ _ _ _ _ c.write.ensures s.1 s.0.1.0 (s.0.1.1 ∙ c.loop-i.invariant.0) c.requires.chunk c.in_err-still.was a f)

pub loop-i-preserved : goal.loop-i-preserved
loop-i-preserved c =
    let s = c.in-Some.ensures.steps in
    let n = s.0.1.1 ∙ c.loop-i.invariant.0 in (
      search rules,
      chunk_room _ _ _ _ _ _ _ _ s.2 s.0.1.0 n (omega arith),
      λ a f.
          c.loop-i.invariant.2 a f
          ∙ chunk_on _ _ _ _ _ _ _ _ _ _ _ _ c.write.ensures s.1 s.0.1.0 n c.requires.chunk _ _ c.in_ok-still.was s.2 a f,
    )

pub returns : goal.returns
returns c = λ a f. c.loop-i.invariant.2 a f ∙ chunk_end _ _ _ _ _ _ (search rules) a f
