-- Document 01, "Bench sheet": the starred cases as one table, and the one statement that the definitions give it.
-- Assumes nothing.
use Rattle.std.specs.Prelude.{◌≡◌, List, [], ◌∷◌, ◌++◌, map, ℕ, replicate}
use Rattle.std.specs.Prelude.{None, Some}
use Rattle.state.specs.declared.State.{State}
use Rattle.state.specs.declared.State.TheVariants.{Boot, Swap}
use Rattle.geometry.specs.declared.Geometry.{Geometry}
use Rattle.mem_flash.specs.Flash.{Flash}
use Rattle.mem_flash.specs.Run.{flash}
use Rattle.rules.specs.Calls.{Report, Call, report, left}
use Rattle.rules.specs.Boot.{prepare_boot}
use Rattle.rules.specs.FirmwareState.{mark}

-- a run of the sheet: prepare_boot or mark_booted, with a budget
pub data Run : Type 0 where
  boot : ℕ → Run
  mark_booted : ℕ → Run

-- a case: runs one after the other from a start, what the last one answers, and the flash that it leaves
pub record Case : Type 0 where
  pub geometry : Geometry
  pub start : Flash
  pub runs : List Run
  pub answer : Report
  pub left : Flash

-- what a case comes to
pub record Result : Type 0 where
  pub answer : Report
  pub left : Flash

unfoldable pub budget : Run → ℕ
budget (boot k) = k
budget (mark_booted k) = k

unfoldable pub call : Geometry → Run → Flash → Call
call g (boot k) f = prepare_boot g f
call g (mark_booted k) f = mark Boot g.state f.state

unfoldable pub walk : Geometry → List Run → Report → Flash → Result
walk g [] r f = record { answer = r; left = f }
walk g (x ∷ xs) r f = walk g xs (report (call g x f) (budget x)) (left (call g x f) (budget x) f)

-- ---- the sheet's words

unfoldable pub done : State → ℕ → Report
done s n = record { number = 0; state = Some s; count = n }

unfoldable pub cut : ℕ → Report
cut n = record { number = 7; state = None; count = n }

unfoldable pub refused : ℕ → Report
refused n = record { number = n; state = None; count = 0 }

-- pages of four bytes, each filled with one byte
unfoldable pub filled : List ℕ → List ℕ
filled [] = []
filled (x ∷ xs) = x ∷ x ∷ x ∷ x ∷ filled xs

-- erase 4, 4, es; write 2, 2, 1; b = 2; an erased byte is 255
unfoldable pub sizes : ℕ → Geometry
sizes es = record { ea = 4; wa = 2; ed = 4; wd = 2; state = record { es = es; ws = 1; ev = 255 }; b = 2 }

-- FF n times
unfoldable pub ff : ℕ → List ℕ
ff n = replicate n 0xFF

-- 00 n times
unfoldable pub zeros : ℕ → List ℕ
zeros n = replicate n 0x00

-- the sheet's start, with a state area of 1 + n bytes
unfoldable pub fresh : ℕ → Flash
fresh n = flash (filled (1 ∷ 2 ∷ 3 ∷ [])) (filled (4 ∷ 5 ∷ 6 ∷ 7 ∷ [])) (0xF0 ∷ ff n)

-- a case of the sheet's geometry
unfoldable pub case : List Run → Report → List ℕ → List ℕ → List ℕ → Case
case runs r active dfu st =
    record { geometry = sizes 16; start = fresh 15; runs = runs; answer = r; left = flash (filled active) (filled dfu) st }

-- ---- the table

unfoldable pub table : List Case
table =
    -- a
    case (boot 24 ∷ []) (done Swap 24) (4 ∷ 5 ∷ 6 ∷ []) (4 ∷ 1 ∷ 2 ∷ 3 ∷ []) (0xF0 ∷ 0xFF ∷ (zeros 6 ++ ff 8))
    -- b
    ∷ case (boot 23 ∷ []) (cut 23) (4 ∷ 5 ∷ 6 ∷ []) (4 ∷ 1 ∷ 2 ∷ 3 ∷ []) (0xF0 ∷ 0xFF ∷ (zeros 5 ++ ff 9))
    -- c
    ∷ case (boot 4 ∷ []) (cut 4) (1 ∷ 2 ∷ 3 ∷ []) (4 ∷ 5 ∷ 6 ∷ 3 ∷ []) (0xF0 ∷ 0xFF ∷ 0x00 ∷ ff 13)
    -- d
    ∷ case (boot 1 ∷ []) (cut 1) (1 ∷ 2 ∷ 3 ∷ []) (4 ∷ 5 ∷ 6 ∷ 0xFF ∷ []) (0xF0 ∷ ff 15)
    -- e
    ∷ case (boot 0 ∷ []) (cut 0) (1 ∷ 2 ∷ 3 ∷ []) (4 ∷ 5 ∷ 6 ∷ 7 ∷ []) (0xF0 ∷ ff 15)
    -- f
    ∷ case (boot 24 ∷ boot 27 ∷ []) (done Swap 27) (1 ∷ 2 ∷ 3 ∷ []) (4 ∷ 5 ∷ 6 ∷ 3 ∷ []) (0xC0 ∷ ff 15)
    -- g
    ∷ case (boot 24 ∷ boot 25 ∷ []) (cut 25) (1 ∷ 2 ∷ 3 ∷ []) (4 ∷ 5 ∷ 6 ∷ 3 ∷ []) (0xF0 ∷ 0x00 ∷ (zeros 12 ++ ff 2))
    -- h
    ∷ case (boot 24 ∷ boot 25 ∷ boot 3 ∷ []) (done Swap 3) (1 ∷ 2 ∷ 3 ∷ []) (4 ∷ 5 ∷ 6 ∷ 3 ∷ []) (0xC0 ∷ ff 15)
    -- i
    ∷ case (boot 24 ∷ boot 26 ∷ boot 0 ∷ []) (done Boot 0) (1 ∷ 2 ∷ 3 ∷ []) (4 ∷ 5 ∷ 6 ∷ 3 ∷ []) (ff 16)
    -- j: a confirmation that was cut is finished since request No. 5, in two operations, and labelled Boot
    ∷ case (boot 24 ∷ mark_booted 1 ∷ boot 3 ∷ []) (done Swap 2) (4 ∷ 5 ∷ 6 ∷ []) (4 ∷ 1 ∷ 2 ∷ 3 ∷ []) (0xD0 ∷ ff 15)
    -- k: 4N + 2 words are refused since request No. 3, and no boot changes a byte; what mark_booted wrote is its own
    ∷ record {
      geometry = sizes 14;
      start = fresh 13;
      runs = boot 24 ∷ mark_booted 1 ∷ boot 7 ∷ [];
      answer = refused 4;
      left = flash (filled (1 ∷ 2 ∷ 3 ∷ [])) (filled (4 ∷ 5 ∷ 6 ∷ 7 ∷ [])) (0xF0 ∷ 0x00 ∷ ff 12);
    }
    -- Ls = 14 by itself
    ∷ record { geometry = sizes 14; start = fresh 13; runs = boot 24 ∷ []; answer = refused 4; left = fresh 13 }
    -- k with a word more, the fewest that are admitted: as j
    ∷ record {
      geometry = sizes 15;
      start = fresh 14;
      runs = boot 24 ∷ mark_booted 1 ∷ boot 7 ∷ [];
      answer = done Swap 2;
      left = flash (filled (4 ∷ 5 ∷ 6 ∷ [])) (filled (4 ∷ 1 ∷ 2 ∷ 3 ∷ [])) (0xD0 ∷ ff 14);
    }
    -- h with as few words: all marks of a finished revert are read
    ∷ record {
      geometry = sizes 15;
      start = fresh 14;
      runs = boot 24 ∷ boot 25 ∷ boot 3 ∷ [];
      answer = done Swap 3;
      left = flash (filled (1 ∷ 2 ∷ 3 ∷ [])) (filled (4 ∷ 5 ∷ 6 ∷ 3 ∷ [])) (0xC0 ∷ ff 14);
    }
    -- l
    ∷ record {
      geometry = sizes 3;
      start = flash [] (filled (4 ∷ [])) (0xF0 ∷ ff 2);
      runs = boot 3 ∷ [];
      answer = done Swap 3;
      left = flash [] (filled (4 ∷ [])) (0xC0 ∷ ff 2);
    }
    ∷ []

-- ---- the statement: every case comes to what the table says

unfoldable pub computed : Case → Result
computed c = walk c.geometry c.runs (cut 0) c.start

unfoldable pub told : Case → Result
told c = record { answer = c.answer; left = c.left }

abbrev pub Starred : Type 0
Starred = map computed table ≡ map told table
