use Rattle.std.proofs.Common.{refl}
use Rattle.bench_run.proofs.Writes.{finished}
use Rattle.bench_run.proofs.finish.Goals as goal

pub returns : goal.returns
returns g c = (
  refl,
  finished _ _ _ _ _ c.last-text.new.self _ _ _ _ (c.last-text.ensures.goes, c.last-text.ensures.held) c.close-rest.ensures
      (rw c.as_slice.ensures.value at c.in_ok-say.ensures) (rw c.as_slice-2.ensures.value at c.in_ok-say-2.ensures) c.in_ok-show.ensures
      refl refl refl refl,
)
