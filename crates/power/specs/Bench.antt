-- The statement of specs/Power is not empty: the bench sheet's start meets its premises, and the tables there are the sheet's
-- cases a and f; case l is a flash without pages. The sheet has one erase unit to a page, so a start with several is here besides,
-- with a cut inside the state's erase, one whose erase sizes do not divide each other, and one on flash that erases to zero. Case j is
-- a start for the statement of specs/Confirm. Proved in proofs/Bench. Assumes nothing.
use Rattle.std.specs.Prelude.{◌≡◌, List, [], ◌∷◌, ◌++◌, map, ℕ}
use Rattle.state.specs.declared.State.TheVariants.{Boot, Swap}
use Rattle.geometry.specs.declared.Geometry.{Geometry}
use Rattle.geometry.specs.Geometry.{page}
use Rattle.geometry.specs.Refusals.{boot_refusal}
use Rattle.mem_flash.specs.Flash.{active, dfu, Flash}
use Rattle.mem_flash.specs.Run.{flash}
use Rattle.rules.specs.Steps.{page_count}
use Rattle.rules.specs.Calls.{Report, Call, left}
use Rattle.rules.specs.FirmwareState.{mark}
use Rattle.rules.specs.Power.{swap_table, reverted, reverted_part, reverted_erased, state_units, step_cost}
use Rattle.rules.specs.Sheet.{Run, Case, boot, mark_booted, done, cut, sizes, fresh, filled, zeros, ff, computed, told}
use Rattle.power.specs.Power.{Marked, Ready, Power, NoPages}
use Rattle.power.specs.Confirm.{Swapped, CutConfirmation, Confirms, confirmed_part, confirmed_whole}

-- the flash of case l
unfoldable pub no_pages : Flash
no_pages = flash [] (filled (4 ∷ [])) (0xF0 ∷ ff 2)

pub record OnTheBench : Type 0 where
  pub ready : Ready (sizes 16) (fresh 15)
  -- case a, case f, and the flash of case i
  pub swaps : swap_table (sizes 16) (fresh 15)
      ≡ flash (filled (4 ∷ 5 ∷ 6 ∷ [])) (filled (4 ∷ 1 ∷ 2 ∷ 3 ∷ [])) (0xF0 ∷ 0xFF ∷ (zeros 6 ++ ff 8))
  pub reverts : reverted (sizes 16) (fresh 15) ≡ flash (filled (1 ∷ 2 ∷ 3 ∷ [])) (filled (4 ∷ 5 ∷ 6 ∷ 3 ∷ [])) (0xC0 ∷ ff 15)
  pub rests : reverted_erased (sizes 16) (fresh 15) ≡ flash (filled (1 ∷ 2 ∷ 3 ∷ [])) (filled (4 ∷ 5 ∷ 6 ∷ 3 ∷ [])) (ff 16)
  -- so the promise holds there
  pub power : Power (sizes 16) (fresh 15)
  -- case l
  pub marked : Marked (sizes 3) no_pages
  pub none : page_count (sizes 3) no_pages ≡ 0
  pub no_pages_lem : NoPages (sizes 3) no_pages

-- two erase units to a page of active, four to the state area
unfoldable pub fine : Geometry
fine = record { ea = 2; wa = 2; ed = 4; wd = 2; state = record { es = 4; ws = 1; ev = 255 }; b = 2 }

unfoldable pub fine_case : List Run → Report → Flash → Case
fine_case runs r f = record { geometry = fine; start = fresh 15; runs = runs; answer = r; left = f }

-- a swap of three steps of 4 operations and three of 5; a revert of as many, then the invalidation, four units and the magic
unfoldable pub finely : List Case
finely =
    fine_case (boot 27 ∷ []) (done Swap 27) (swap_table fine (fresh 15))
    ∷ fine_case (boot 27 ∷ boot 33 ∷ []) (done Swap 33) (reverted fine (fresh 15))
    -- cut inside the state's erase, and the next boot
    ∷ fine_case (boot 27 ∷ boot 29 ∷ []) (cut 29) (reverted_part fine 1 (fresh 15))
    ∷ fine_case (boot 27 ∷ boot 29 ∷ boot 0 ∷ []) (done Boot 0) (reverted_part fine 1 (fresh 15))
    -- a confirmation that is cut before the state's erase, then a boot that is cut inside it, or is not; and one that is cut inside it
    ∷ fine_case (boot 27 ∷ mark_booted 1 ∷ boot 5 ∷ []) (done Swap 5) (confirmed_whole fine (swap_table fine (fresh 15)))
    ∷ fine_case (boot 27 ∷ mark_booted 1 ∷ boot 0 ∷ boot 1 ∷ []) (cut 1) (confirmed_part fine 1 (swap_table fine (fresh 15)))
    ∷ fine_case (boot 27 ∷ mark_booted 2 ∷ boot 0 ∷ []) (done Boot 0) (confirmed_part fine 1 (swap_table fine (fresh 15)))
    ∷ []

pub record InUnits : Type 0 where
  pub ready : Ready fine (fresh 15)
  pub to_dfu_lem : step_cost fine dfu ≡ 4
  pub to_active_lem : step_cost fine active ≡ 5
  pub units : state_units fine (fresh 15) ≡ 4
  pub cases : map computed finely ≡ map told finely
  pub part : reverted_part fine 1 (fresh 15)
      ≡ flash (filled (1 ∷ 2 ∷ 3 ∷ [])) (filled (4 ∷ 5 ∷ 6 ∷ 3 ∷ [])) (ff 4 ++ (zeros 10 ++ ff 2))
  pub confirmed : confirmed_part fine 1 (swap_table fine (fresh 15))
      ≡ flash (filled (4 ∷ 5 ∷ 6 ∷ [])) (filled (4 ∷ 1 ∷ 2 ∷ 3 ∷ [])) (ff 4 ++ (zeros 4 ++ ff 8))
  pub power : Power fine (fresh 15)

-- ---- erase sizes of which neither divides the other (02, No. 6)

-- 2 and 3 bytes: two pages of 6, three erase units to a page of active and two to one of DFU
unfoldable pub unlike : Geometry
unlike = record { ea = 2; wa = 1; ed = 3; wd = 1; state = record { es = 11; ws = 1; ev = 255 }; b = 3 }

unfoldable pub six : ℕ → List ℕ
six n = n ∷ n ∷ n ∷ n ∷ n ∷ n ∷ []

unfoldable pub unlike_start : Flash
unlike_start = flash (six 1 ++ six 2) (six 4 ++ (six 5 ++ six 6)) (0xF0 ∷ ff 10)

unfoldable pub unlike_swapped : Flash
unlike_swapped = flash (six 4 ++ six 5) (six 4 ++ (six 1 ++ six 2)) (0xF0 ∷ 0xFF ∷ (zeros 4 ++ ff 5))

-- the request's head: 264 and 4,096 bytes
unfoldable pub new_head : Geometry
new_head = record { ea = 264; wa = 8; ed = 4096; wd = 256; state = record { es = 4096; ws = 4; ev = 255 }; b = 256 }

-- two steps of either kind
unfoldable pub unlike_case : Case
unlike_case = record { geometry = unlike; start = unlike_start; runs = boot 22 ∷ []; answer = done Swap 22; left = unlike_swapped }

pub record Unlike : Type 0 where
  pub unlike_page : page unlike ≡ 6
  pub ready : Ready unlike unlike_start
  pub to_dfu_lem : step_cost unlike dfu ≡ 5
  pub to_active_lem : step_cost unlike active ≡ 6
  pub swap : computed unlike_case ≡ told unlike_case
  pub table : swap_table unlike unlike_start ≡ unlike_swapped
  pub power : Power unlike unlike_start
  -- the request's sizes are admitted with one page, said of the numbers alone
  pub head_page : page new_head ≡ 135168
  pub head_admitted : boot_refusal new_head 135168 270336 4096 ≡ 0

-- ---- flash that erases to zero (02, No. 11)

-- the sheet's numbers and its start, with the erase value 0
unfoldable pub zero_sizes : Geometry
zero_sizes = record { ea = 4; wa = 2; ed = 4; wd = 2; state = record { es = 16; ws = 1; ev = 0 }; b = 2 }

unfoldable pub zero_start : Flash
zero_start = flash (filled (1 ∷ 2 ∷ 3 ∷ [])) (filled (4 ∷ 5 ∷ 6 ∷ 7 ∷ [])) (0xF0 ∷ zeros 15)

unfoldable pub zero_case : List Run → Report → List ℕ → List ℕ → List ℕ → Case
zero_case runs r front back st =
    record { geometry = zero_sizes; start = zero_start; runs = runs; answer = r; left = flash (filled front) (filled back) st }

-- the cases a, d, f, g, h, i and j: the same answers and pages, an erased page holds 00, and a mark is FF
unfoldable pub to_zero : List Case
to_zero =
    zero_case (boot 24 ∷ []) (done Swap 24) (4 ∷ 5 ∷ 6 ∷ []) (4 ∷ 1 ∷ 2 ∷ 3 ∷ []) (0xF0 ∷ 0x00 ∷ (ff 6 ++ zeros 8))
    ∷ zero_case (boot 1 ∷ []) (cut 1) (1 ∷ 2 ∷ 3 ∷ []) (4 ∷ 5 ∷ 6 ∷ 0x00 ∷ []) (0xF0 ∷ zeros 15)
    ∷ zero_case (boot 24 ∷ boot 27 ∷ []) (done Swap 27) (1 ∷ 2 ∷ 3 ∷ []) (4 ∷ 5 ∷ 6 ∷ 3 ∷ []) (0xC0 ∷ zeros 15)
    ∷ zero_case (boot 24 ∷ boot 25 ∷ []) (cut 25) (1 ∷ 2 ∷ 3 ∷ []) (4 ∷ 5 ∷ 6 ∷ 3 ∷ []) (0xF0 ∷ 0xFF ∷ (ff 12 ++ zeros 2))
    ∷ zero_case (boot 24 ∷ boot 25 ∷ boot 3 ∷ []) (done Swap 3) (1 ∷ 2 ∷ 3 ∷ []) (4 ∷ 5 ∷ 6 ∷ 3 ∷ []) (0xC0 ∷ zeros 15)
    ∷ zero_case (boot 24 ∷ boot 26 ∷ boot 0 ∷ []) (done Boot 0) (1 ∷ 2 ∷ 3 ∷ []) (4 ∷ 5 ∷ 6 ∷ 3 ∷ []) (zeros 16)
    ∷ zero_case (boot 24 ∷ mark_booted 1 ∷ boot 3 ∷ []) (done Swap 2) (4 ∷ 5 ∷ 6 ∷ []) (4 ∷ 1 ∷ 2 ∷ 3 ∷ []) (0xD0 ∷ zeros 15)
    ∷ []

pub record ErasesToZero : Type 0 where
  pub ready : Ready zero_sizes zero_start
  pub cases : map computed to_zero ≡ map told to_zero
  pub swaps : swap_table zero_sizes zero_start
      ≡ flash (filled (4 ∷ 5 ∷ 6 ∷ [])) (filled (4 ∷ 1 ∷ 2 ∷ 3 ∷ [])) (0xF0 ∷ 0x00 ∷ (ff 6 ++ zeros 8))
  pub reverts : reverted zero_sizes zero_start ≡ flash (filled (1 ∷ 2 ∷ 3 ∷ [])) (filled (4 ∷ 5 ∷ 6 ∷ 3 ∷ [])) (0xC0 ∷ zeros 15)
  pub rests : reverted_erased zero_sizes zero_start ≡ flash (filled (1 ∷ 2 ∷ 3 ∷ [])) (filled (4 ∷ 5 ∷ 6 ∷ 3 ∷ [])) (zeros 16)
  -- so the promise holds there too
  pub power : Power zero_sizes zero_start

-- case j: on the flash of case a a mark_booted is cut right after its invalidation
unfoldable pub confirmation : Call
confirmation = mark Boot (sizes 16).state (swap_table (sizes 16) (fresh 15)).state

pub record Unconfirmed : Type 0 where
  pub swapped : Swapped (sizes 16) (swap_table (sizes 16) (fresh 15))
  pub cut : CutConfirmation confirmation 1
  -- so the promise holds there, and the Boot magic is what is left
  pub confirms : Confirms (sizes 16) (swap_table (sizes 16) (fresh 15)) 0 (left confirmation 1 (swap_table (sizes 16) (fresh 15)))
  pub booted : confirmed_whole (sizes 16) (swap_table (sizes 16) (fresh 15))
      ≡ flash (filled (4 ∷ 5 ∷ 6 ∷ [])) (filled (4 ∷ 1 ∷ 2 ∷ 3 ∷ [])) (0xD0 ∷ ff 15)
