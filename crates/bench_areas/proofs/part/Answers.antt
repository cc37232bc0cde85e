-- `part`: some bytes, or what follows the area. Assumes nothing.
use Rattle.std.proofs.Common.{◌<◌, ◌≤◌, length, refl, ◌∙◌, arith}
use Rattle.bench_areas.specs.Tail.{bytes, ends}
use Rattle.bench_areas.proofs.Tails.{part_is}
use Rattle.bench_areas.proofs.part.Goals as goal
use Rattle.bench_areas.proofs.part.Goals.{then-n-area-via-then-n-area, then-n-area-via-else-n-area+then-at-n}

pub returns-then-n-area : goal.returns-then-n-area
returns-then-n-area c =
    ends c.named.ensures.0
    (λ h. elim c.then-n-area.branch [ then-n-area-via-then-n-area w ↦ omega arith | then-n-area-via-else-n-area+then-at-n w ↦ omega arith ])
    c.named.ensures.1

pub returns : goal.returns
returns c =
    let l : c.args.at < c.args.n = omega arith in
    let m : c.args.n ≤ length c.args.area.now = omega arith in
    bytes refl l m (c.hex_text.ensures ∙ rw (part_is c.args.at c.args.n c.args.area.now (omega arith)) refl)
