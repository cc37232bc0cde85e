-- `hash`: the verdict's refusal, or the digest of the bytes that `stream` added. Assumes nothing.
use mathlib.Core.Path.{sym, ◌∙◌}
use lib.Seq.{length-take-le}
use Rattle.firmware_hash.proofs.Answers.{hash_refused, asked, counted, hash_done}
use Rattle.firmware_hash.proofs.hash.Goals as goal

pub returns-in_err-hash_verdict : goal.returns-in_err-hash_verdict
returns-in_err-hash_verdict c =
    let a = c.args in
    hash_refused a.z a.len a.chunk a.out.now a.dfu.now a.state.now c.hash_verdict.ensures c.in_err-hash_verdict.was _ c.from_residual.ensures.1

pub slice_bounds-stream-end : goal.slice_bounds-stream-end
slice_bounds-stream-end c =
    let a = c.args in
    sym (length-take-le _ _ (asked a.z a.len a.chunk a.out.now a.dfu.now a.state.now c.hash_verdict.ensures c.in_ok-hash_verdict.was).0)

pub stream-s-requires : goal.stream-s-requires
stream-s-requires c =
    let a = c.args in
    (asked a.z a.len a.chunk a.out.now a.dfu.now a.state.now c.hash_verdict.ensures c.in_ok-hash_verdict.was).1

pub unwrap-requires : goal.unwrap-requires
unwrap-requires c =
    let a = c.args in
    c.finish.ensures.fits ∙ (asked a.z a.len a.chunk a.out.now a.dfu.now a.state.now c.hash_verdict.ensures c.in_ok-hash_verdict.was).2

pub returns : goal.returns
returns c =
    let f = c.finish.ensures in
    let a = c.args in
    let z = a.z in
    let e = c.hash_verdict.ensures in
    let o = c.in_ok-hash_verdict.was in
    let out = a.out.now in
    let d = a.dfu.now in
    let s = a.state.now in
    let k = asked z a.len a.chunk out d s e o in
    hash_done z a.len a.chunk out d s e o
    (f.digest _ c.stream-s.ensures (counted z a.len a.chunk out d s e o) (f.fits ∙ k.2))
