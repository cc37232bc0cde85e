-- `is_over`: of each other tail something is due. Assumes nothing.
use Rattle.bench_areas.proofs.Tails.{more_due}
use Rattle.bench_areas.proofs.is_over.Goals as goal

pub returns-in_default : goal.returns-in_default
returns-in_default c = record { more = λ _. more_due _ c.in_default.not-Over; none = λ h. absurd cc }
