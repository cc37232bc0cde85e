-- A stream as a function of the bytes that were added, and what each function makes of any stream. Assumes nothing.
use Rattle.std.specs.Prelude.{◌≡◌, ℕ, ◌+◌, ◌-◌, ◌%◌, ◌^◌, ◌<◌, Bool, true, List, [], ◌∷◌, ◌++◌, length, take, drop, replicate, ◌==◌}
use Rattle.state.specs.Choice.{pick}
use Rattle.sha512_words.specs.declared.Eight.{Eight}
use Rattle.sha512_bytes.specs.Bytes.{bytes_of}
use Rattle.sha512.specs.declared.Stream.{Stream}
use Rattle.sha512.specs.Sha512.{h0, padding, hashed, sha512}

-- the bytes at a list's end that make no whole block
unfoldable pub left : List ℕ → List ℕ
left m = drop (length m - length m % 128) m

-- the bytes m from a hash value on: their whole blocks hashed, n bytes counted, and those that are left kept, with zeros behind them
unfoldable pub stream : Eight → ℕ → List ℕ → Stream
stream hash n m = record { hash = hashed m hash; count = n % 2 ^ 64; block = left m ++ replicate (128 - length m % 128) 0 }

-- the stream to which the bytes m have been added, in whatever pieces
unfoldable pub holding : List ℕ → Stream
holding m = stream h0 (length m) m

-- ---- any stream, also one whose fields a caller has chosen

-- the bytes that wait for the rest of their block
unfoldable pub pending : Stream → List ℕ
pending s = take (s.count % 128) s.block

unfoldable pub added : Stream → List ℕ → Stream
added s p = stream s.hash (s.count + length p) (pending s ++ p)

unfoldable pub finished : Stream → List ℕ
finished s = bytes_of (hashed (pending s ++ padding s.count) s.hash)

-- ---- the contracts

-- add: a piece p makes r of s
pub record Added (s : Stream) (p : List ℕ) (r : Stream) : Type 0 where
  pub exact : r ≡ added s p
  pub holds : (m : List ℕ) → s ≡ holding m → r ≡ holding (m ++ p)

-- finish: an output of 64 bytes becomes the digest of the bytes that were added, another stays as it is
pub record Finished (s : Stream) (before : List ℕ) (said : Bool) (after : List ℕ) : Type 0 where
  pub fits : said ≡ (length before == 64)
  pub exact : after ≡ pick said (finished s) before
  pub digest : (m : List ℕ) → s ≡ holding m → length m < 2 ^ 64 → said ≡ true → after ≡ sha512 m

-- ---- any number of pieces

-- all the bytes of some pieces
unfoldable pub joined : List (List ℕ) → List ℕ
joined [] = []
joined (p ∷ ps) = p ++ joined ps

-- r is s with each of the pieces added, in order, as the contract of add has it
pub data AddedAll : Stream → List (List ℕ) → Stream → Type 0 where
  none : {s : Stream} → AddedAll s [] s
  next : {s t r : Stream} {p : List ℕ} {ps : List (List ℕ)} → Added s p t → AddedAll t ps r → AddedAll s (p ∷ ps) r
