use Rattle.std.proofs.Common.{◌≡◌, ◌*◌, length, take}
use Rattle.sha512_bytes.proofs.Stores.{stored}
use Rattle.sha512_bytes.proofs.put_all.Given as goal

abbrev pub invariant-loop-i : goal.invariant-loop-i
invariant-loop-i l = (length l.dst ≡ 64) × (take (8 * l.i) l.dst ≡ stored l.words l.i)
