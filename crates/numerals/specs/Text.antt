-- Words and numbers of the bench program's input: request No. 4. Assumes nothing.
use Rattle.std.specs.Prelude.{Bool, true, false, List, [], ◌∷◌, ℕ, suc, ◌+◌, ◌*◌, ◌-◌, leb, eqb, length, Option, Some, None}
use Rattle.state.specs.Choice.{pick}

-- what stands between words
abbrev pub space : ℕ
space = 32

-- b in front of the first word
unfoldable pub grown : ℕ → List (List ℕ) → List (List ℕ)
grown b [] = []
grown b (w ∷ ws) = (b ∷ w) ∷ ws

-- cut at every c: one word more than there are c, and any of them may be empty
unfoldable pub split : ℕ → List ℕ → List (List ℕ)
split c [] = [] ∷ []
split c (b ∷ bs) = pick (eqb b c) ([] ∷ split c bs) (grown b (split c bs))

-- how many bytes stand before the first c, all of them where there is none
unfoldable pub first : ℕ → List ℕ → ℕ
first c [] = 0
first c (b ∷ bs) = pick (eqb b c) 0 (suc (first c bs))

-- the bytes `0` to `9`
unfoldable pub digit : ℕ → Bool
digit b = pick (leb 48 b) (leb b 57) false

unfoldable pub digits : List ℕ → Bool
digits [] = true
digits (b ∷ bs) = pick (digit b) (digits bs) false

-- the number that digits spell, read on from n
unfoldable pub value : ℕ → List ℕ → ℕ
value n [] = n
value n (b ∷ bs) = value (n * 10 + (b - 48)) bs

-- the largest number
abbrev pub most_number : ℕ
most_number = 4294967295

-- n where it is at most the limit
unfoldable pub up_to : ℕ → ℕ → Option ℕ
up_to most n = pick (leb n most) (Some n) None

-- the number that a word is: one digit or more, leading zeros among them, and nothing else
unfoldable pub number : List ℕ → Option ℕ
number [] = None
number (b ∷ bs) = pick (digits (b ∷ bs)) (up_to most_number (value 0 (b ∷ bs))) None

-- one more in front, if there is one and there are others
unfoldable pub more : Option ℕ → Option (List ℕ) → Option (List ℕ)
more None ns = None
more (Some n) None = None
more (Some n) (Some ns) = Some (n ∷ ns)

-- the numbers that all of these words are
unfoldable pub numbers : List (List ℕ) → Option (List ℕ)
numbers [] = Some []
numbers (w ∷ ws) = more (number w) (numbers ws)

-- just k of them
unfoldable pub exactly : ℕ → Option (List ℕ) → Option (List ℕ)
exactly k None = None
exactly k (Some ns) = pick (eqb (length ns) k) (Some ns) None

-- a line of k numbers with single spaces between
unfoldable pub row : ℕ → List ℕ → Option (List ℕ)
row k line = exactly k (numbers (split space line))
