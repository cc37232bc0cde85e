-- One block of SHA-512: FIPS 180-4, section 6.4.2. A block is a list of 128 bytes. Assumes nothing.
use Rattle.std.specs.Prelude.{ℕ, zero, suc, ◌+◌, ◌-◌, ◌*◌, ◌^◌, List, [], ◌∷◌, ◌++◌, ltb, length, get_or}
use Rattle.state.specs.Choice.{pick}
use Rattle.sha512_words.specs.declared.Eight.{Eight}
use Rattle.sha512_words.specs.Words.{sum, ch, maj, big_sigma0, big_sigma1, small_sigma0, small_sigma1}
use Rattle.sha512_block.specs.Constants.{ks}

-- ---- step 1: the message schedule

-- the word whose eight bytes, highest first, stand at an index
unfoldable pub word_at : List ℕ → ℕ → ℕ
word_at b i =
    get_or b i 0 * 2 ^ 56 + get_or b (i + 1) 0 * 2 ^ 48 + get_or b (i + 2) 0 * 2 ^ 40 + get_or b (i + 3) 0 * 2 ^ 32
    + get_or b (i + 4) 0 * 2 ^ 24 + get_or b (i + 5) 0 * 2 ^ 16 + get_or b (i + 6) 0 * 2 ^ 8 + get_or b (i + 7) 0

-- W_t for t above 15, from the words before it
unfoldable pub mixed : ℕ → List ℕ → ℕ
mixed t w = sum (sum (sum (small_sigma1 (get_or w (t - 2) 0)) (get_or w (t - 7) 0)) (small_sigma0 (get_or w (t - 15) 0))) (get_or w (t - 16) 0)

-- W_t for every t: the block's own words, and then the mixed
unfoldable pub next_word : List ℕ → ℕ → List ℕ → ℕ
next_word b t w = pick (ltb t 16) (word_at b (8 * t)) (mixed t w)

-- so many words more, after those that there are
unfoldable pub grow : List ℕ → ℕ → List ℕ → List ℕ
grow b zero w = w
grow b (suc n) w = grow b n (w ++ (next_word b (length w) w ∷ []))

-- W_0 to W_79
unfoldable pub schedule : List ℕ → List ℕ
schedule b = grow b 80 []

-- ---- steps 2 and 3: the working variables, and the rounds

-- T1 and T2 of the standard, from the constant and the word of the round
unfoldable pub t1 : Eight → ℕ → ℕ → ℕ
t1 s k w = sum (sum (sum (sum s.h (big_sigma1 s.e)) (ch s.e s.f s.g)) k) w

unfoldable pub t2 : Eight → ℕ
t2 s = sum (big_sigma0 s.a) (maj s.a s.b s.c)

unfoldable pub round : Eight → ℕ → ℕ → Eight
round s k w =
    record { a = sum (t1 s k w) (t2 s); b = s.a; c = s.b; d = s.c; e = sum s.d (t1 s k w); f = s.e; g = s.f; h = s.g }

-- a round for each constant and the word of the schedule beside it
unfoldable pub rounds : List ℕ → List ℕ → Eight → Eight
rounds [] ws s = s
rounds (k ∷ cs) [] s = s
rounds (k ∷ cs) (w ∷ ws) s = rounds cs ws (round s k w)

-- ---- step 4: the working variables are added to the hash value

unfoldable pub plus : Eight → Eight → Eight
plus s t =
    record {
      a = sum s.a t.a;
      b = sum s.b t.b;
      c = sum s.c t.c;
      d = sum s.d t.d;
      e = sum s.e t.e;
      f = sum s.f t.f;
      g = sum s.g t.g;
      h = sum s.h t.h;
    }

-- the hash value after one block of 128 bytes
unfoldable pub compress : Eight → List ℕ → Eight
compress s b = plus (rounds ks (schedule b) s) s
