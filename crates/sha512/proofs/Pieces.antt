-- However a message comes in pieces, the digest is that of the whole. Assumes nothing.
use Rattle.std.proofs.Common.{◌≡◌, ℕ, ◌%◌, ◌^◌, ◌<◌, true, false, List, [], ◌++◌, length, sym, refl, ap, ◌∙◌, ap₂, append_assoc, append-nil, arith, eq-eqb, ne_eqb}
use mathlib.Core.Bool.{false≢true}
use Rattle.state.specs.Choice.{pick}
use Rattle.sha512_bytes.specs.Bytes.{bytes_of}
use Rattle.sha512.specs.declared.Stream.{Stream}
use Rattle.sha512.specs.Sha512.{h0, padding, hashed, sha512}
use Rattle.sha512.specs.Streams.{holding, stream, finished, Finished, joined, AddedAll, none, next}
use Rattle.sha512.proofs.Blocks.{hashed_on}
use Rattle.sha512.proofs.Adding.{pending_holding}

pub finished_holding : (m : List ℕ) → length m < 2 ^ 64 → finished (holding m) ≡ sha512 m
unfolding finished holding stream sha512
finished_holding m h =
    let n : length m % 2 ^ 64 ≡ length m = omega arith in
    ap bytes_of
    (ap₂ (λ (y : List ℕ) (k : ℕ). hashed (y ++ padding k) (hashed m h0)) (pending_holding m) n ∙ hashed_on m (padding (length m)) h0)

-- ---- as `finish` makes it

pub refuses : (s : Stream) (before : List ℕ) → (length before ≡ 64 → ⊥) → Finished s before false before
unfolding pick
refuses s before h = record { fits = sym (ne_eqb (length before) 64 h); exact = refl; digest = λ m e l t. absurd (false≢true t) }

pub finishes : (s : Stream) (before after : List ℕ) → length before ≡ 64 → after ≡ finished s → Finished s before true after
unfolding pick
finishes s before after h e =
    record {
      fits = sym (eq-eqb (length before) 64 h);
      exact = e;
      digest = λ m hm l t. e ∙ ap finished hm ∙ finished_holding m l;
    }

-- ---- any number of pieces

holds_all : {s r : Stream} {ps : List (List ℕ)} → AddedAll s ps r → (m : List ℕ) → s ≡ holding m → r ≡ holding (m ++ joined ps)
unfolding joined
holds_all none m e = e ∙ ap holding (sym (append-nil m))
holds_all (next {p = p} {ps = ps} a l) m e = holds_all l (m ++ p) (a.holds m e) ∙ ap holding (append_assoc m p (joined ps))

-- s is what begin gave, r what the pieces made of it, and after what finish wrote where it said true
pub pieces : (s r : Stream) (ps : List (List ℕ)) (before after : List ℕ) → s ≡ holding [] → AddedAll s ps r
    → Finished r before true after → length (joined ps) < 2 ^ 64 → after ≡ sha512 (joined ps)
pieces s r ps before after b a f l = f.digest (joined ps) (holds_all a [] b) l refl
