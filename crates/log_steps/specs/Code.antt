-- What the code's types stand for, and what its readers tell. Assumes nothing.
use Rattle.std.specs.Prelude.{◌≡◌, ◌⊎◌, Bool, true, false, Option, Result, MatchOption, MatchResult, List, ◌∷◌, ℕ, ◌+◌, ◌<◌, length, get_or}
use Rattle.std.specs.Borrow.{Bor}
use Rattle.rules.specs.Steps.{swap_from, to_active}
use Rattle.log_steps.specs.declared.Kind.{Kind}
use Rattle.log_steps.specs.declared.Kind.TheVariants.{Erase, Write}
use Rattle.log_steps.specs.declared.Area.{Area}
use Rattle.log_steps.specs.declared.Area.TheVariants.{Active, Dfu, State}
use Rattle.log_steps.specs.declared.Entry as code_entry
use Rattle.log_steps.specs.declared.Step as code_step
use Rattle.log_steps.specs.declared.Reader.{Reader}
use Rattle.log_steps.specs.declared.Misfit.{Misfit}
use Rattle.log_steps.specs.Entries.{Entry, entry, row_entry, entries}
use Rattle.log_steps.specs.Steps.{Step}
use Rattle.log_steps.specs.Reader.{Reading, ends, wrong, marked, reads}

-- ---- a log's numbers

abbrev pub kind_of : Kind → ℕ
kind_of Erase = 0
kind_of Write = 1

abbrev pub area_of : Area → ℕ
area_of Active = 0
area_of Dfu = 1
area_of State = 2

abbrev pub numbers : code_entry.Entry → Entry
numbers e = entry (kind_of e.kind) (area_of e.area) e.start e.length

abbrev pub plain : code_step.Step → Step
plain s =
    record {
      area = area_of s.area;
      start = s.start;
      units = s.units;
      unit = s.unit;
      chunks = s.chunks;
      chunk = s.chunk;
      mark = s.mark;
      word = s.word;
    }

-- a number read: the kind or the area that it stands for, or none
abbrev pub ReadsKind : ℕ → Result Kind Misfit → Type 0
ReadsKind n r = MatchResult r (λ k. kind_of k ≡ n) (λ _. 1 < n)

abbrev pub ReadsArea : ℕ → Result Area Misfit → Type 0
ReadsArea n r = MatchResult r (λ a. area_of a ≡ n) (λ _. 2 < n)

-- four numbers read: the entry, or none, of an unknown kind or area
abbrev pub ReadsEntry : List ℕ → Result code_entry.Entry Misfit → Type 0
ReadsEntry row r = MatchResult r (λ e. numbers e ≡ row_entry row) (λ _. (1 < get_or row 0 0) ⊎ (2 < get_or row 1 0))

-- ---- what the readers tell

-- how a reading ends: with the log, at an entry that cannot stand there, or with these rows, fewer than there were, behind the mark
abbrev pub Tells : List (List ℕ) → Reading → Result (Option (Bor (List (List ℕ)))) Misfit → Type 0
Tells log r a =
    MatchResult a
    (λ o. MatchOption o (r ≡ ends) (λ rest. (r ≡ marked (entries rest.now)) × (length rest.now < length log)))
    (λ _. r ≡ wrong)

-- what the readers are to make of what is left to read
abbrev pub to_read : Reader → Bool
to_read r = reads r.g (swap_from r.left r.step) (entries r.log.now)

-- and where the next step goes to active, behind which as many pages are left
abbrev pub to_read_active : Reader → Bool
to_read_active r = reads r.g (to_active r.step r.left r.left ∷ swap_from r.left (r.step + 1)) (entries r.log.now)

-- how far they come in a log that is to be read as `whole`: to its end, to an entry that cannot stand there, or to a place from which
-- it is still to be read as that, and further on where they had a page to read
pub record Further (log : List (List ℕ)) (deep : ℕ) (whole : Bool) (r : Reader) : Type 0 where
  pub reads : to_read r ≡ whole
  pub later : (deep ≡ 0 → ⊥) → length r.log.now < length log
  pub back : length r.log.now < 1 + length log

abbrev pub Reaches : List (List ℕ) → ℕ → Bool → Result (Option Reader) Misfit → Type 0
Reaches log deep whole a =
    MatchResult a (λ o. MatchOption o (whole ≡ true) (λ r. Further log deep whole r)) (λ _. whole ≡ false)
