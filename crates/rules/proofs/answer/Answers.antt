use Rattle.rules.proofs.Did.{did_done, did_cut}
use Rattle.rules.proofs.answer.Goals as goal

pub returns-in-Ok : goal.returns-in-Ok
returns-in-Ok c = λ d f f' p s w. did_done d _ f p f' _ w _ c.in-Ok.is _ s

pub returns-in-Err : goal.returns-in-Err
returns-in-Err c = λ d f f' p s w. did_cut d _ f p f' _ w c.in-Err.is
