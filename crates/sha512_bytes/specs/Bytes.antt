-- Words as bytes, the highest first (FIPS 180-4, section 3.1), and the length at the padding's end (5.1.2). Assumes nothing.
use Rattle.std.specs.Prelude.{ℕ, ◌*◌, ◌/◌, ◌%◌, ◌^◌, List, [], ◌∷◌, ◌++◌}
use Rattle.sha512_words.specs.declared.Eight.{Eight}

-- the eight bytes of a word, the highest first
unfoldable pub bytes8 : ℕ → List ℕ
bytes8 x =
    x / 2 ^ 56 % 256 ∷ x / 2 ^ 48 % 256 ∷ x / 2 ^ 40 % 256 ∷ x / 2 ^ 32 % 256
    ∷ x / 2 ^ 24 % 256 ∷ x / 2 ^ 16 % 256 ∷ x / 2 ^ 8 % 256 ∷ x % 256 ∷ []

-- .. and of eight words in a row
unfoldable pub bytes_of : Eight → List ℕ
bytes_of s =
    bytes8 s.a
    ++ (bytes8 s.b ++ (bytes8 s.c ++ (bytes8 s.d ++ (bytes8 s.e ++ (bytes8 s.f ++ (bytes8 s.g ++ bytes8 s.h))))))

-- the length in bits of n bytes, as a number of 128 bits
unfoldable pub bits16 : ℕ → List ℕ
bits16 n = bytes8 (8 * n / 2 ^ 64) ++ bytes8 (8 * n % 2 ^ 64)
