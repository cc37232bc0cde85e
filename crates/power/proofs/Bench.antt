-- The bench sheet's start under specs/Power and specs/Confirm, by computation (specs/Bench). Assumes nothing.
use mathlib.Core.Path.{◌≡◌, refl}
use mathlib.Core.List.{map}
use lib.Dec.{lit<, lit≤}
use Rattle.state.specs.Choice.{pick}
use Rattle.state.specs.Cells.{erased, marked, programmed}
use Rattle.state.specs.Magic.{magic, throughout, holds, state_of}
use Rattle.gcd.specs.Multiple.{first_divided, least_common}
use Rattle.geometry.specs.Geometry.{cell, page, pages, words}
use Rattle.geometry.specs.Refusals.{any, number, first_row, most_number, most_page, most_length, bad_number, bad_value, too_long, uneven, outside, uneven_page, uneven_areas, bad_state, other_words, boot_words, state_numbers, boot_numbers, boot_refusal, state_refusal}
use Rattle.mem_flash.specs.Flash.{blank, program, erased_at, written_at, change, apply, apply_all, after, unit_ops, erase_ops}
use Rattle.rules.specs.StateArea.{word, read_state, valid, mark_open, most_marks, first_open, marks_done, progress, mark_op, invalidate_op, magic_op}
use Rattle.rules.specs.Steps.{to_dfu, to_active, swap_from, revert_from, swap_steps, revert_steps, source_of, unit_of, chunk_ops, fill_ops, copy_ops, once_ops, copies_ops, page_count, swap_ops, revert_ops}
use Rattle.rules.specs.Calls.{report, left}
use Rattle.rules.specs.Boot.{renew_ops, finish_ops, swap_or_revert_ops, confirming, boot_ops_in, boot_ops, prepare_boot}
use Rattle.rules.specs.FirmwareState.{set_magic_ops, mark}
use Rattle.rules.specs.Power.{magic_area, Fresh, swap_marks, swap_table, page_at, with_page, revert_images, reverted, revert_marks, reverted_part, reverted_erased, state_units, step_cost, void_marks}
use Rattle.rules.specs.Sheet.{budget, call, walk, computed, told, done, cut, sizes, fresh, filled, zeros, ff}
use Rattle.rules.proofs.Sheet.{swapped_sheet, reverted_sheet}
use Rattle.power.specs.Power.{Marked, Ready}
use Rattle.power.specs.Bench.{no_pages, OnTheBench, fine, fine_case, finely, InUnits, unlike, six, unlike_start, unlike_swapped, new_head, unlike_case, Unlike, zero_sizes, zero_start, zero_case, to_zero, ErasesToZero, confirmation, Unconfirmed}
use Rattle.power.specs.Confirm.{Swapped, firmware_state, CutConfirmation, confirmed_part, confirmed_whole}
use Rattle.power.proofs.Proved.{power}
use Rattle.power.proofs.NoPages.{no_pages_lem}
use Rattle.power.proofs.Confirmed.{confirmed}

ready : Ready (sizes 16) (fresh 15)
unfolding pick erased magic least_common first_divided cell page pages words any number first_row most_number most_page most_length bad_number bad_value too_long uneven outside uneven_page
    uneven_areas bad_state boot_words state_numbers boot_numbers boot_refusal page_count magic_area Fresh sizes fresh filled ff
ready =
    record {
      marked = record { admitted = refl; active_bytes = search (lit<); dfu_bytes = search (lit<); fresh = refl };
      some_page = lit≤ tt;
    }

marked_none : Marked (sizes 3) no_pages
unfolding pick erased magic least_common first_divided cell page pages words any number first_row most_number most_page most_length bad_number bad_value too_long uneven outside uneven_page
    uneven_areas bad_state boot_words state_numbers boot_numbers boot_refusal page_count magic_area Fresh sizes no_pages filled ff
marked_none = record { admitted = refl; active_bytes = tt; dfu_bytes = search (lit<); fresh = refl }

none : page_count (sizes 3) no_pages ≡ 0
unfolding pick least_common first_divided cell page pages page_count sizes no_pages
none = refl

pub on_the_bench : OnTheBench
unfolding pick erased marked magic least_common first_divided cell page pages page_count magic_area swap_marks swap_table page_at with_page revert_images reverted
    reverted_erased sizes fresh filled zeros ff
on_the_bench =
    record {
      ready = ready;
      swaps = swapped_sheet;
      reverts = reverted_sheet;
      rests = refl;
      power = power (sizes 16) (fresh 15) ready;
      marked = marked_none;
      none = none;
      no_pages_lem = no_pages_lem (sizes 3) no_pages marked_none none;
    }

-- ---- several units

ready_fine : Ready fine (fresh 15)
unfolding pick erased magic least_common first_divided cell page pages words any number first_row most_number most_page most_length bad_number bad_value too_long uneven outside uneven_page
    uneven_areas bad_state boot_words state_numbers boot_numbers boot_refusal page_count magic_area Fresh fine fresh filled ff
ready_fine =
    record {
      marked = record { admitted = refl; active_bytes = search (lit<); dfu_bytes = search (lit<); fresh = refl };
      some_page = lit≤ tt;
    }

cases_fine : map computed finely ≡ map told finely
unfolding pick erased marked magic throughout holds state_of least_common first_divided cell page pages words any number first_row most_number most_page most_length bad_number bad_value
    too_long uneven outside uneven_page uneven_areas bad_state other_words boot_words state_numbers boot_numbers boot_refusal state_refusal
    programmed blank program erased_at written_at change apply apply_all after unit_ops erase_ops word read_state valid mark_open
    most_marks first_open marks_done progress mark_op invalidate_op magic_op to_dfu to_active swap_from revert_from swap_steps revert_steps
    source_of unit_of chunk_ops fill_ops copy_ops once_ops copies_ops page_count swap_ops revert_ops report left renew_ops finish_ops
    swap_or_revert_ops confirming boot_ops_in boot_ops prepare_boot budget call walk computed told done cut magic_area swap_marks swap_table
    page_at with_page revert_images reverted revert_marks reverted_part set_magic_ops mark void_marks confirmed_part confirmed_whole ff
    zeros fresh filled fine fine_case finely
cases_fine = refl

pub in_units : InUnits
unfolding pick erased marked magic least_common first_divided cell page pages blank page_count unit_of page_at with_page revert_images revert_marks reverted_part swap_marks
    swap_table void_marks confirmed_part state_units step_cost fresh filled zeros ff fine
in_units =
    record {
      ready = ready_fine;
      to_dfu_lem = refl;
      to_active_lem = refl;
      units = refl;
      cases = cases_fine;
      part = refl;
      confirmed = refl;
      power = power fine (fresh 15) ready_fine;
    }

-- ---- erase sizes that do not divide each other

ready_unlike : Ready unlike unlike_start
unfolding pick erased magic least_common first_divided cell page pages words any number first_row most_number most_page most_length bad_number bad_value
    too_long uneven outside uneven_page uneven_areas bad_state boot_words state_numbers boot_numbers boot_refusal page_count magic_area Fresh
    unlike unlike_start six ff
ready_unlike =
    record {
      marked = record { admitted = refl; active_bytes = search (lit<); dfu_bytes = search (lit<); fresh = refl };
      some_page = lit≤ tt;
    }

case_unlike : computed unlike_case ≡ told unlike_case
unfolding pick erased marked magic throughout holds state_of least_common first_divided cell page pages words any number first_row most_number
    most_page most_length bad_number bad_value too_long uneven outside uneven_page uneven_areas bad_state other_words boot_words state_numbers boot_numbers
    boot_refusal state_refusal programmed blank program erased_at written_at change apply apply_all after unit_ops erase_ops word read_state
    valid mark_open most_marks first_open marks_done progress mark_op invalidate_op magic_op to_dfu to_active swap_from revert_from swap_steps
    revert_steps source_of unit_of chunk_ops fill_ops copy_ops once_ops copies_ops page_count swap_ops revert_ops report left renew_ops finish_ops
    swap_or_revert_ops confirming boot_ops_in boot_ops prepare_boot budget call walk computed told done cut zeros ff six unlike unlike_start
    unlike_swapped unlike_case
case_unlike = refl

pub unlike_sizes : Unlike
unfolding pick erased marked magic least_common first_divided cell page pages words any number first_row most_number most_page most_length bad_number bad_value
    too_long uneven outside uneven_page uneven_areas bad_state boot_words state_numbers boot_numbers boot_refusal page_count unit_of swap_marks
    swap_table step_cost six zeros ff unlike unlike_start unlike_swapped new_head
unlike_sizes =
    record {
      unlike_page = refl;
      ready = ready_unlike;
      to_dfu_lem = refl;
      to_active_lem = refl;
      swap = case_unlike;
      table = refl;
      power = power unlike unlike_start ready_unlike;
      head_page = refl;
      head_admitted = refl;
    }

-- ---- flash that erases to zero

ready_zero : Ready zero_sizes zero_start
unfolding pick erased magic least_common first_divided cell page pages words any number first_row most_number most_page most_length bad_number bad_value
    too_long uneven outside uneven_page uneven_areas bad_state boot_words state_numbers boot_numbers boot_refusal page_count magic_area Fresh
    zero_sizes zero_start filled zeros ff
ready_zero =
    record {
      marked = record { admitted = refl; active_bytes = search (lit<); dfu_bytes = search (lit<); fresh = refl };
      some_page = lit≤ tt;
    }

cases_zero : map computed to_zero ≡ map told to_zero
unfolding pick erased marked magic throughout holds state_of least_common first_divided cell page pages words any number first_row most_number
    most_page most_length bad_number bad_value too_long uneven outside uneven_page uneven_areas bad_state other_words boot_words state_numbers
    boot_numbers boot_refusal state_refusal programmed blank program erased_at written_at change apply apply_all after unit_ops erase_ops word
    read_state valid mark_open most_marks first_open marks_done progress mark_op invalidate_op magic_op to_dfu to_active swap_from revert_from
    swap_steps revert_steps source_of unit_of chunk_ops fill_ops copy_ops once_ops copies_ops page_count swap_ops revert_ops report left renew_ops
    finish_ops swap_or_revert_ops confirming boot_ops_in boot_ops prepare_boot set_magic_ops mark budget call walk computed told done cut zeros ff
    filled zero_sizes zero_start zero_case to_zero
cases_zero = refl

pub erases_to_zero : ErasesToZero
unfolding pick erased marked magic least_common first_divided cell page pages page_count magic_area swap_marks swap_table page_at with_page revert_images
    reverted reverted_erased zero_sizes zero_start filled zeros ff
erases_to_zero =
    record {
      ready = ready_zero;
      cases = cases_zero;
      swaps = refl;
      reverts = refl;
      rests = refl;
      power = power zero_sizes zero_start ready_zero;
    }

-- ---- a confirmation that was cut

swapped : Swapped (sizes 16) (swap_table (sizes 16) (fresh 15))
unfolding pick erased marked magic least_common first_divided cell page pages words any number first_row most_number most_page most_length bad_number bad_value too_long uneven outside
    uneven_page uneven_areas bad_state boot_words state_numbers boot_numbers boot_refusal page_count swap_marks swap_table sizes fresh
    filled ff
swapped = record { admitted = refl; some_page = lit≤ tt; state = refl }

cut_one : CutConfirmation confirmation 1
unfolding pick erased marked magic throughout least_common first_divided cell page pages words any number first_row most_number most_page most_length bad_number bad_value too_long uneven
    outside bad_state state_numbers other_words state_refusal page_count unit_ops erase_ops word valid report renew_ops set_magic_ops mark
    swap_marks swap_table sizes fresh filled ff confirmation
cut_one = record { cut = refl; invalidated = lit≤ tt }

pub unconfirmed : Unconfirmed
unfolding pick erased marked magic least_common first_divided cell page pages page_count magic_area swap_marks swap_table confirmed_whole sizes fresh filled ff confirmation
unconfirmed =
    record {
      swapped = swapped;
      cut = cut_one;
      confirms =
          confirmed (sizes 16) (swap_table (sizes 16) (fresh 15)) swapped confirmation (firmware_state _ refl) 1 cut_one;
      booted = refl;
    }
