-- The updater's call hash (02, No. 8), beside the calls in rules/specs/FirmwareUpdater: here, since no other call needs the digest's
-- definitions. Assumes nothing.
use Rattle.std.specs.Prelude.{◌≡◌, Bool, false, not, List, [], ◌∷◌, ℕ, ltb, eqb, length, take, None}
use Rattle.state.specs.Choice.{pick}
use Rattle.geometry.specs.declared.Sizes.{Sizes}
use Rattle.geometry.specs.Refusals.{any}
use Rattle.mem_flash.specs.Flash.{Flash}
use Rattle.rules.specs.Calls.{Answer, Call, reported, report}
use Rattle.rules.specs.FirmwareUpdater.{updater_call}
use Rattle.sha512.specs.Sha512.{sha512}

-- row 6: len bytes of ld, in pieces of `chunk` bytes, into an output of n bytes
unfoldable pub bad_hash : ℕ → ℕ → ℕ → ℕ → Bool
bad_hash ld len chunk n = any (ltb ld len ∷ eqb chunk 0 ∷ not (eqb n 64) ∷ [])

-- hash asks no state and does no operation
unfoldable pub hash_call : Sizes → ℕ → ℕ → ℕ → Flash → Call
hash_call z len chunk n f = updater_call z f false (bad_hash (length f.dfu) len chunk n) None []

-- and the output `out` becomes the digest of the first len bytes of DFU, where it is not refused
unfoldable pub hash_out : Sizes → ℕ → ℕ → List ℕ → Flash → List ℕ
hash_out z len chunk out f =
    pick (eqb (hash_call z len chunk (length out) f).refusal 0) (sha512 (take len f.dfu)) out

-- the contract: the answer r, and the output `out` becomes out'
pub record Hashed (z : Sizes) (len chunk : ℕ) (out out' : List ℕ) (f : Flash) (r : Answer) : Type 0 where
  pub answer : reported r ≡ report (hash_call z len chunk (length out) f) 0
  pub digest : out' ≡ hash_out z len chunk out f
