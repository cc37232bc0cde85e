use mathlib.Core.Path.{◌∙◌, refl, sym}
use borrow.Author.Rules.{rules}
use Rattle.mem_flash.proofs.Bytes.{write_turn, write_end}
use Rattle.mem_flash.specs.Flash.{written_at}
use Rattle.mem_flash.proofs.program.Goals as goal

pub loop-i-init : goal.loop-i-init
unfolding written_at
loop-i-init g c = λ k bs m n h. refl

pub loop-i-preserved : goal.loop-i-preserved
loop-i-preserved g c =
    λ k bs m n h.
    write_turn k _ _ _ _ (search rules) (search rules) (search rules)
    ∙ c.loop-i.invariant k bs m (search rules) (search rules)

pub returns : goal.returns
returns g c = λ k bs m n h. sym (write_end k _ _ _ (search rules)) ∙ c.loop-i.invariant k bs m (search rules) (search rules)
