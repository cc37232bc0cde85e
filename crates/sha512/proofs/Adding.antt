-- What `add` makes of a stream, by whether the piece fills the block; and that the stream of some bytes goes on to that of more.
-- Assumes nothing.
use Rattle.std.proofs.Common.{◌≡◌, ℕ, ◌+◌, ◌-◌, ◌%◌, ◌^◌, ◌<◌, ◌≤◌, List, ◌++◌, length, take, drop, replicate, sym, ap, ◌∙◌, ap₂, append_assoc, arith, length-append, length-drop, take-append-drop, length-take-le, take_all, take_at, drop_at, refl, ◌/◌, ◌*◌}
use borrow.Rule.Slice.PartMut.{put_mid}
use Rattle.std.specs.List.{fold}
use Rattle.std.specs.Simd.{first_chunks}
use Rattle.sha512_words.specs.declared.Eight.{Eight}
use Rattle.sha512_block.specs.Rounds.{compress}
use Rattle.sha512_bytes.proofs.Stores.{put_end, drop_replicate}
use Rattle.sha512.specs.declared.Stream.{Stream}
use Rattle.sha512.specs.Sha512.{h0, hashed}
use Rattle.sha512.specs.Streams.{left, stream, holding, pending, added, Added}
use Rattle.sha512.proofs.Blocks.{hashed_block, hashed_chunks, hashed_short, hashed_on, left_length, left_short, left_behind, left_on}

-- a stream is that of some bytes where its parts are
pub made : (h g : Eight) (c n : ℕ) (b m : List ℕ) → g ≡ hashed m h → c ≡ n % 2 ^ 64 → b ≡ left m ++ replicate (128 - length m % 128) 0
    → record { hash = g; count = c; block = b } ≡ stream h n m
unfolding stream
made h g c n b m eg ec eb = cc

-- ---- a piece that does not fill the block

pub short_block : (b p z y : List ℕ) (at k : ℕ) → length b ≡ 128 → at + length p < 128 → k ≡ length p
    → z ≡ take at b ++ replicate (128 - length (take at b)) 0 → y ≡ p
    → put_mid at k z y ≡ left (take at b ++ p) ++ replicate (128 - length (take at b ++ p) % 128) 0
short_block b p z y at k hb room ek ez ey =
    let t : List ℕ = take at b in
    let la : length t ≡ at = length-take-le at b (omega arith) in
    let l : length (t ++ p) ≡ at + length p = length-append t p ∙ ap (λ (i : ℕ). i + length p) la in
    let zeros : List ℕ = replicate (128 - length t) 0 in
    let rest : drop k (drop at z) ≡ replicate (128 - length t - k) 0 =
    ap (λ (x : List ℕ). drop k (drop at x)) ez ∙ ap (drop k) (drop_at t zeros at la) ∙ drop_replicate k (128 - length t) 0 in
    let n : 128 - length t - k ≡ 128 - length (t ++ p) % 128 = omega (arith, l, la) in
    ap₂ (λ (x w : List ℕ). x ++ (y ++ w)) (ap (take at) ez ∙ take_at t zeros at la) (rest ∙ ap (λ (i : ℕ). replicate i 0) n)
    ∙ ap (λ (x : List ℕ). t ++ (x ++ replicate (128 - length (t ++ p) % 128) 0)) ey
    ∙ sym (append_assoc t p (replicate (128 - length (t ++ p) % 128) 0))
    ∙ ap (λ (x : List ℕ). x ++ replicate (128 - length (t ++ p) % 128) 0) (sym (left_short (t ++ p) (omega (arith, l))))

-- ---- a piece that fills it: its first bytes go there, then come whole blocks, and what is left is kept

module _ (h : Eight) (b p y r : List ℕ) (at f : ℕ) (hb : length b ≡ 128) (hf : at + f ≡ 128) (room : f ≤ length p)
    (ey : y ≡ take f p) (er : r ≡ take (length p - f) (drop f p)) where
  b1 : List ℕ
  b1 = put_mid at f b y

  filled : b1 ≡ take at b ++ take f p
  unfolding b1
  filled = put_end b y at f (omega arith) ∙ ap (λ (x : List ℕ). take at b ++ x) ey

  full : length b1 ≡ 128
  full = ap length filled ∙ length-append (take at b) (take f p) ∙ omega (arith, length-take-le at b (omega arith), length-take-le f p room)

  joins : b1 ++ r ≡ take at b ++ p
  joins =
      ap₂ (λ (x w : List ℕ). x ++ w) filled (er ∙ take_all (length p - f) (drop f p) (omega (arith, length-drop f p)))
      ∙ append_assoc (take at b) (take f p) (drop f p)
      ∙ ap (λ (x : List ℕ). take at b ++ x) (take-append-drop f p)

  pub long_hash : (one all : Eight) → one ≡ compress h (put_mid at f b y) → all ≡ fold compress one (first_chunks 128 (length r / 128) r)
      → all ≡ hashed (take at b ++ p) h
  unfolding hashed b1
  long_hash one all eone eall =
      eall ∙ hashed_chunks (length r / 128) r one ∙ ap (hashed r) eone ∙ sym (hashed_block b1 r h full) ∙ ap (λ (x : List ℕ). hashed x h) joins

  pub long_block : (t b3 : List ℕ) → t ≡ drop (length r / 128 * 128) r → b3 ≡ t ++ replicate (128 - length t) 0
      → b3 ≡ left (take at b ++ p) ++ replicate (128 - length (take at b ++ p) % 128) 0
  unfolding left
  long_block t b3 et e3 =
      let st : length r / 128 * 128 ≡ length r - length r % 128 = omega arith in
      let k : length b1 % 128 ≡ 0 = omega (arith, full) in
      let e : t ≡ left (take at b ++ p) = et ∙ ap (λ (i : ℕ). drop i r) st ∙ sym (left_behind b1 r k) ∙ ap left joins in
      let n : length t ≡ length (take at b ++ p) % 128 = ap length e ∙ left_length (take at b ++ p) in
      e3 ∙ ap₂ (λ (x : List ℕ) (i : ℕ). x ++ replicate (128 - i) 0) e n

-- ---- the stream of some bytes

pub pending_holding : (m : List ℕ) → pending (holding m) ≡ left m
unfolding pending holding stream
pending_holding m =
    take_at (left m) (replicate (128 - length m % 128) 0) (length m % 2 ^ 64 % 128) (left_length m ∙ omega arith)

pub added_holding : (m p : List ℕ) → added (holding m) p ≡ holding (m ++ p)
unfolding added holding stream
added_holding m p =
    let n : length (left m ++ p) % 128 ≡ length (m ++ p) % 128 = omega (arith, length-append m p, length-append (left m) p, left_length m) in
    ap (stream (hashed m h0) (length m % 2 ^ 64 + length p)) (ap (λ (y : List ℕ). y ++ p) (pending_holding m))
    ∙ made h0 (hashed (left m ++ p) (hashed m h0)) ((length m % 2 ^ 64 + length p) % 2 ^ 64) (length (m ++ p))
    (left (left m ++ p) ++ replicate (128 - length (left m ++ p) % 128) 0) (m ++ p)
    (hashed_on m p h0) (omega (arith, length-append m p))
    (ap₂ (λ (y : List ℕ) (i : ℕ). y ++ replicate (128 - i) 0) (left_on m p) n)

pub adds : (s : Stream) (p : List ℕ) (r : Stream) → r ≡ added s p → Added s p r
adds s p r e = record { exact = e; holds = λ m h. e ∙ ap (λ (t : Stream). added t p) h ∙ added_holding m p }

-- ---- as `add` makes it

module _ (s : Stream) (p : List ℕ) (hb : length s.block ≡ 128) where
  pub short : (z y : List ℕ) (k : ℕ) → s.count % 128 + length p < 128 → k ≡ length p
      → z ≡ take (s.count % 128) s.block ++ replicate (128 - length (take (s.count % 128) s.block)) 0 → y ≡ p
      → Added s p (record { hash = s.hash; count = (s.count + length p) % 2 ^ 64; block = put_mid (s.count % 128) k z y })
  unfolding added pending
  short z y k room ek ez ey =
      let at : ℕ = s.count % 128 in
      let m : List ℕ = take at s.block ++ p in
      let l : length m < 128 = omega (arith, length-append (take at s.block) p, length-take-le at s.block (omega arith)) in
      adds s p (record { hash = s.hash; count = (s.count + length p) % 2 ^ 64; block = put_mid at k z y })
      (made s.hash s.hash ((s.count + length p) % 2 ^ 64) (s.count + length p) (put_mid at k z y) m (sym (hashed_short m s.hash l)) refl
      (short_block s.block p z y at k hb room ek ez ey))

  pub long : (one all : Eight) (y r t b : List ℕ) → 128 - s.count % 128 ≤ length p → y ≡ take (128 - s.count % 128) p
      → r ≡ take (length p - (128 - s.count % 128)) (drop (128 - s.count % 128) p)
      → one ≡ compress s.hash (put_mid (s.count % 128) (128 - s.count % 128) s.block y)
      → all ≡ fold compress one (first_chunks 128 (length r / 128) r)
      → t ≡ drop (length r / 128 * 128) r
      → b ≡ t ++ replicate (128 - length t) 0
      → Added s p (record { hash = all; count = (s.count + length p) % 2 ^ 64; block = b })
  unfolding added pending
  long one all y r t b room ey er eone eall et eb =
      let at : ℕ = s.count % 128 in
      let hf : at + (128 - at) ≡ 128 = omega arith in
      adds s p (record { hash = all; count = (s.count + length p) % 2 ^ 64; block = b })
      (made s.hash all ((s.count + length p) % 2 ^ 64) (s.count + length p) b (take at s.block ++ p)
      (long_hash s.hash s.block p y r at (128 - at) hb hf room ey er one all eone eall) refl
      (long_block s.hash s.block p y r at (128 - at) hb hf room ey er t b et eb))
