-- The padding, in one block or in two. Assumes nothing.
use Rattle.std.proofs.Common.{◌≡◌, ℕ, suc, ◌+◌, ◌-◌, ◌%◌, ◌<◌, ◌≤◌, List, ◌∷◌, ◌++◌, length, take, set, replicate, sym, ap, ◌∙◌, ap₂, append_assoc, arith, length-append, take_at}
use lib.ListN.{length-replicate, replicate-append-replicate}
use lib.Seq.{set_at}
use Rattle.sha512_words.specs.declared.Eight.{Eight}
use Rattle.sha512_block.specs.Rounds.{compress}
use Rattle.sha512_bytes.specs.Bytes.{bits16}
use Rattle.sha512_bytes.proofs.Stores.{bits16_length}
use Rattle.sha512.specs.Sha512.{hashed, padding}
use Rattle.sha512.proofs.Blocks.{hashed_block, hashed_one}

zeros : ℕ → List ℕ
zeros n = replicate n 0

zeros_two : (m n : ℕ) → zeros (m + n) ≡ zeros m ++ zeros n
unfolding zeros
zeros_two m n = sym (replicate-append-replicate m n 0)

padding_is : (c k : ℕ) → (239 - c % 128) % 128 ≡ k → padding c ≡ 0x80 ∷ (zeros k ++ bits16 c)
unfolding padding zeros
padding_is c k e = ap (λ (i : ℕ). 0x80 ∷ (replicate i 0 ++ bits16 c)) e

-- the bytes p, a 1 bit and zeros, of which the last 16 bytes or all of another block make room for the length
module _ (p b : List ℕ) (c : ℕ) (h : Eight) (hp : length p ≡ c % 128) (eb : b ≡ set (p ++ replicate (128 - length p) 0) (c % 128) 0x80) where
  at : ℕ
  at = c % 128

  started : b ≡ p ++ (0x80 ∷ zeros (127 - at))
  unfolding at zeros
  started =
      let k : 128 - length p ≡ suc (127 - c % 128) = omega (arith, hp) in
      eb
      ∙ ap (λ (i : ℕ). set (p ++ replicate i 0) (c % 128) 0x80) k
      ∙ set_at p 0 (replicate (127 - c % 128) 0) 0x80 (c % 128) hp

  started_length : length b ≡ 128
  unfolding at zeros
  started_length =
      ap length started ∙ omega (arith, length-append p (0x80 ∷ zeros (127 - at)), length-replicate {A = ℕ} (127 - at) 0, hp)

  pub in_one : c % 128 < 112 → (d : List ℕ) → d ≡ take 112 b ++ bits16 c → compress h d ≡ hashed (p ++ padding c) h
  unfolding at zeros
  in_one room d ed =
      let q : List ℕ = p ++ (0x80 ∷ zeros (111 - at)) in
      let k : 127 - at ≡ 111 - at + 16 = omega arith in
      let lq : length q ≡ 112 = omega (arith, length-append p (0x80 ∷ zeros (111 - at)), length-replicate {A = ℕ} (111 - at) 0, hp) in
      let split : b ≡ q ++ zeros 16 =
      started
      ∙ ap (λ (y : List ℕ). p ++ (0x80 ∷ y)) (ap zeros k ∙ zeros_two (111 - at) 16)
      ∙ sym (append_assoc p (0x80 ∷ zeros (111 - at)) (zeros 16)) in
      let e : d ≡ q ++ bits16 c = ed ∙ ap (λ (y : List ℕ). y ++ bits16 c) (ap (take 112) split ∙ take_at q (zeros 16) 112 lq) in
      let ld : length d ≡ 128 = ap length e ∙ omega (arith, length-append q (bits16 c), bits16_length c, lq) in
      sym (hashed_one d h ld)
      ∙ ap (λ (y : List ℕ). hashed y h)
      (e
      ∙ append_assoc p (0x80 ∷ zeros (111 - at)) (bits16 c)
      ∙ ap (λ (y : List ℕ). p ++ y) (sym (padding_is c (111 - at) (omega arith))))

  pub in_two : 112 ≤ c % 128 → (one : Eight) (d : List ℕ) → one ≡ compress h b → d ≡ take 112 (replicate 128 0) ++ bits16 c
      → compress one d ≡ hashed (p ++ padding c) h
  unfolding at zeros
  in_two room one d eone ed =
      let k : 239 - at ≡ 127 - at + 112 = omega arith in
      let e : d ≡ zeros 112 ++ bits16 c = ed in
      let ld : length d ≡ 128 = ap length e ∙ omega (arith, length-append (zeros 112) (bits16 c), bits16_length c, length-replicate {A = ℕ} 112 0) in
      let whole : b ++ d ≡ p ++ padding c =
      ap₂ (λ (x y : List ℕ). x ++ y) started e
      ∙ append_assoc p (0x80 ∷ zeros (127 - at)) (zeros 112 ++ bits16 c)
      ∙ ap (λ (y : List ℕ). p ++ (0x80 ∷ y)) (sym (append_assoc (zeros (127 - at)) (zeros 112) (bits16 c)))
      ∙ ap (λ (y : List ℕ). p ++ (0x80 ∷ (y ++ bits16 c))) (sym (ap zeros k ∙ zeros_two (127 - at) 112))
      ∙ ap (λ (y : List ℕ). p ++ y) (sym (padding_is c (239 - at) (omega arith))) in
      sym (hashed_one d one ld)
      ∙ ap (hashed d) eone
      ∙ sym (hashed_block b d h started_length)
      ∙ ap (λ (y : List ℕ). hashed y h) whole
