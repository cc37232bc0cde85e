-- `sha512::begin` meets its contract: of no bytes nothing is hashed and nothing is left. Assumes nothing.
use Rattle.std.proofs.Common.{refl}
use Rattle.sha512.specs.Sha512.{h0, hashed, blocks}
use Rattle.sha512.specs.Streams.{holding, stream, left}
use Rattle.sha512.proofs.begin.Goals as goal

pub returns : goal.returns
unfolding holding stream left hashed blocks h0
returns c = refl
