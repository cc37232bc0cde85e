-- Document 01, "When a call says no": the table, row by row. Numbers are whole numbers, so no sum wraps. Assumes nothing.
use Rattle.std.specs.Prelude.{Result, Ok, Err, Bool, true, false, not, List, [], ◌∷◌, map, ◌++◌, ℕ, ◌+◌, ◌*◌, ◌%◌, ltb, eqb}
use Rattle.state.specs.declared.Cell.TheVariants.{High, Low}
use Rattle.state.specs.Choice.{pick}
use Rattle.state.specs.Cells.{erased}
use Rattle.geometry.specs.declared.Geometry.{Geometry}
use Rattle.geometry.specs.declared.StateSizes.{StateSizes}
use Rattle.geometry.specs.declared.Sizes.{Sizes}
use Rattle.geometry.specs.declared.Refusal.{Refusal}
use Rattle.geometry.specs.declared.Refusal.TheVariants.{Limit, Page, Area, StateArea, BadState, Range, Checksum}
use Rattle.geometry.specs.Geometry.{page, pages, words}

-- one of them holds
unfoldable pub any : List Bool → Bool
any [] = false
any (b ∷ bs) = pick b true (any bs)

-- the number of each refusal; 7 is that of a cut
unfoldable pub number : Refusal → ℕ
number Limit = 1
number Page = 2
number Area = 3
number StateArea = 4
number BadState = 5
number Range = 6
number Checksum = 8

-- a verdict: the call is admitted, or refused; and its number, 0 where it is admitted
abbrev pub Verdict : Type 0
Verdict = Result (Unit {0}) Refusal

unfoldable pub verdict : Verdict → ℕ
verdict (Ok _) = 0
verdict (Err r) = number r

-- a row of the table: the refusal that it stands for, and whether it holds of a call
pub data Row : Type 0 where
  row : Refusal → Bool → Row

-- rows in the order in which they are judged: the number of the first that holds, 0 where none does
unfoldable pub first_row : List Row → ℕ
first_row [] = 0
first_row (row r b ∷ rs) = pick b (number r) (first_row rs)

-- the largest geometry number, the largest page, and the longest flash area
unfoldable pub most_number : ℕ
most_number = 65536

unfoldable pub most_page : ℕ
most_page = 1048576

unfoldable pub most_length : ℕ
most_length = 16777216

unfoldable pub bad_number : ℕ → Bool
bad_number n = any (eqb n 0 ∷ ltb most_number n ∷ [])

-- the erase value is that of no cell
unfoldable pub bad_value : ℕ → Bool
bad_value v = not (any (eqb v (erased High) ∷ eqb v (erased Low) ∷ []))

unfoldable pub too_long : ℕ → Bool
too_long n = ltb most_length n

-- n is no multiple of m
unfoldable pub uneven : ℕ → ℕ → Bool
uneven n m = not (eqb (n % m) 0)

-- row 1: a number that the call reads, the erase value, or the length of an area that it is lent
unfoldable pub outside : List ℕ → ℕ → List ℕ → Bool
outside numbers value lengths = any (map bad_number numbers ++ (bad_value value ∷ map too_long lengths))

-- row 2, boot
unfoldable pub uneven_page : Geometry → Bool
uneven_page g =
    any
    (ltb most_page (page g)
    ∷ uneven (page g) g.wa
    ∷ uneven (page g) g.wd
    ∷ uneven (page g) g.b
    ∷ uneven g.b g.wa
    ∷ uneven g.b g.wd
    ∷ ltb g.b g.state.ws
    ∷ [])

-- row 3, boot
unfoldable pub uneven_areas : Geometry → ℕ → ℕ → Bool
uneven_areas g la ld = any (uneven la (page g) ∷ uneven ld (page g) ∷ ltb ld (la + page g) ∷ [])

-- row 4: a state area of ls bytes that has to hold `least` words
unfoldable pub bad_state : ℕ → StateSizes → ℕ → Bool
bad_state least z ls = any (uneven z.es z.ws ∷ uneven ls z.es ∷ ltb (words z.ws ls) least ∷ [])

-- row 4, boot: T < 4N + 3, so that every mark of swap and revert is read
unfoldable pub boot_words : ℕ → ℕ
boot_words n = 4 * n + 3

-- row 4, every other call: T < 2
unfoldable pub other_words : ℕ
other_words = 2

-- the numbers of the state area, those that a boot reads, and those that the updater reads
unfoldable pub state_numbers : StateSizes → List ℕ
state_numbers z = z.es ∷ z.ws ∷ []

unfoldable pub boot_numbers : Geometry → List ℕ
boot_numbers g = g.ea ∷ g.wa ∷ g.ed ∷ g.wd ∷ g.b ∷ state_numbers g.state

unfoldable pub updater_numbers : Sizes → List ℕ
updater_numbers z = z.ed ∷ z.wd ∷ state_numbers z.state

-- prepare_boot
unfoldable pub boot_refusal : Geometry → ℕ → ℕ → ℕ → ℕ
boot_refusal g la ld ls =
    first_row
    (row Limit (outside (boot_numbers g) g.state.ev (la ∷ ld ∷ ls ∷ []))
    ∷ row Page (uneven_page g)
    ∷ row Area (uneven_areas g la ld)
    ∷ row StateArea (bad_state (boot_words (pages g la)) g.state ls)
    ∷ [])

-- the calls that read the state area alone: read_state and those of the firmware state
unfoldable pub state_refusal : StateSizes → ℕ → ℕ
state_refusal z ls =
    first_row (row Limit (outside (state_numbers z) z.ev (ls ∷ [])) ∷ row StateArea (bad_state other_words z ls) ∷ [])

-- the rows that all of the updater's calls ask
unfoldable pub updater_rows : Sizes → ℕ → ℕ → List Row
updater_rows z ld ls =
    row Limit (outside (updater_numbers z) z.state.ev (ld ∷ ls ∷ []))
    ∷ row Page (uneven z.ed z.wd)
    ∷ row Area (uneven ld z.ed)
    ∷ row StateArea (bad_state other_words z.state ls)
    ∷ []

-- the updater's calls, with what rows 5 and 6 say of this call
unfoldable pub updater_refusal : Sizes → ℕ → ℕ → Bool → Bool → ℕ
updater_refusal z ld ls swap range =
    first_row (updater_rows z ld ls ++ (row BadState swap ∷ row Range range ∷ []))

-- check_and_mark_updated (02, No. 7), with what row 8 says after them
unfoldable pub checked_refusal : Sizes → ℕ → ℕ → Bool → Bool → Bool → ℕ
checked_refusal z ld ls swap range sum =
    first_row (updater_rows z ld ls ++ (row BadState swap ∷ row Range range ∷ row Checksum sum ∷ []))
