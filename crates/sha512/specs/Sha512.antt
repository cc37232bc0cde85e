-- SHA-512 of FIPS 180-4, on lists of bytes: sections 5.1.2, 5.2.2, 5.3.5 and 6.4. The functions on words are in sha512_words, the
-- schedule and the rounds in sha512_block, words as bytes in sha512_bytes. Assumes nothing.
use Rattle.std.specs.Prelude.{ℕ, zero, suc, ◌-◌, ◌/◌, ◌%◌, List, ◌∷◌, ◌++◌, length, take, drop, replicate}
use Rattle.sha512_words.specs.declared.Eight.{Eight}
use Rattle.sha512_block.specs.Rounds.{compress}
use Rattle.sha512_bytes.specs.Bytes.{bytes_of, bits16}

-- 5.3.5, the initial hash value: the first 64 bits of the fractional parts of the square roots of the first eight primes
unfoldable pub h0 : Eight
h0 =
    record {
      a = 0x6a09_e667_f3bc_c908;
      b = 0xbb67_ae85_84ca_a73b;
      c = 0x3c6e_f372_fe94_f82b;
      d = 0xa54f_f53a_5f1d_36f1;
      e = 0x510e_527f_ade6_82d1;
      f = 0x9b05_688c_2b3e_6c1f;
      g = 0x1f83_d9ab_fb41_bd6b;
      h = 0x5be0_cd19_137e_2179;
    }

-- 5.1.2, the padding, of a message of n bytes: a 1 bit; the fewest 0 bits that make the whole a multiple of 128 bytes;
-- the length in bits, in 16 bytes
unfoldable pub padding : ℕ → List ℕ
padding n = 0x80 ∷ replicate ((239 - n % 128) % 128) 0 ++ bits16 n

-- 5.2.2 and 6.4.2: the hash value after so many blocks of 128 bytes
unfoldable pub blocks : ℕ → List ℕ → Eight → Eight
blocks zero m s = s
blocks (suc n) m s = blocks n (drop 128 m) (compress s (take 128 m))

-- .. after all the whole blocks of a list
unfoldable pub hashed : List ℕ → Eight → Eight
hashed m s = blocks (length m / 128) m s

-- the digest of a message: 64 bytes
unfoldable pub sha512 : List ℕ → List ℕ
sha512 m = bytes_of (hashed (m ++ padding (length m)) h0)
