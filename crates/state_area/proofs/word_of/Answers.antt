use Rattle.state_area.proofs.Words.{nth_word}
use Rattle.state_area.proofs.word_of.Goals as goal

pub returns : goal.returns
returns c = nth_word c.args.z c.args.w.0 _ c.offset.ensures c.least-start.ensures c.least-end.ensures
