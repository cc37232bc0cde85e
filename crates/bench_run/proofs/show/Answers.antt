use Rattle.std.proofs.Common.{ℕ, List, ◌++◌, refl, sym, ap, ◌∙◌, append_assoc, append-nil}
use Rattle.std.proofs.KnownBytes.{Appends-trans}
use Rattle.bench_areas.specs.declared.Tail.{Tail}
use Rattle.bench_areas.specs.Tail.{tail_text}
use Rattle.bench_run.proofs.show.Goals as goal

pub loop-tail-preserved : goal.loop-tail-preserved
loop-tail-preserved g c = λ room.
    let (done, r, e, p) = c.loop-tail.invariant room in
    let m = c.more-rest.ensures.room r in (
      done ++ c.more-rest.result.text.items,
      m.0,
      e ∙ ap (λ (t : List ℕ). done ++ t) m.1 ∙ sym (append_assoc done _ _),
      Appends-trans _ _ _ _ _ p (rw c.as_slice.ensures.value at c.in_ok-say.ensures),
    )

pub returns : goal.returns
unfolding tail_text
returns g c = λ room.
    let (done, r, e, p) = c.loop-tail.invariant room in
    let over = c.loop-tail-test.ensures.none refl in
    rw (e ∙ ap (λ (t : Tail). done ++ tail_text t c.args.areas.now) over ∙ append-nil done) p
