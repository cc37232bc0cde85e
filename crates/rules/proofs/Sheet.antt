-- The starred cases a to l, proved by computation. Assumes nothing.
use mathlib.Core.Path.{◌≡◌, refl}
use mathlib.Core.List.{[], ◌∷◌, ◌++◌}
use Rattle.state.specs.Choice.{pick}
use Rattle.state.specs.Cells.{erased, marked, programmed}
use Rattle.state.specs.Magic.{magic, throughout, holds, state_of}
use Rattle.gcd.specs.Multiple.{first_divided, least_common}
use Rattle.geometry.specs.Geometry.{cell, page, pages, words}
use Rattle.geometry.specs.Refusals.{any, number, first_row, most_number, most_page, most_length, bad_number, bad_value, too_long, uneven, outside, uneven_page, uneven_areas, bad_state, boot_words, other_words, state_numbers, boot_numbers, boot_refusal, state_refusal}
use Rattle.mem_flash.specs.Flash.{blank, program, erased_at, written_at, change, apply, apply_all, after, unit_ops, erase_ops}
use Rattle.mem_flash.specs.Run.{flash}
use Rattle.rules.specs.Power.{magic_area, swap_marks, swap_table, page_at, with_page, revert_images, reverted}
use Rattle.rules.specs.StateArea.{word, read_state, valid, mark_open, most_marks, first_open, marks_done, progress, mark_op, invalidate_op, magic_op}
use Rattle.rules.specs.Steps.{to_dfu, to_active, swap_from, revert_from, swap_steps, revert_steps, source_of, unit_of, chunk_ops, fill_ops, copy_ops, once_ops, copies_ops, page_count, swap_ops, revert_ops}
use Rattle.rules.specs.Calls.{report, left}
use Rattle.rules.specs.Boot.{renew_ops, finish_ops, swap_or_revert_ops, confirming, boot_ops_in, boot_ops, prepare_boot}
use Rattle.rules.specs.FirmwareState.{set_magic_ops, mark}
use Rattle.rules.specs.Sheet.{budget, call, walk, table, computed, told, Starred, done, cut, refused, ff, zeros, fresh, case, sizes, filled}

pub starred : Starred
unfolding pick erased marked magic throughout holds state_of least_common first_divided cell page pages words
    any number first_row most_number most_page most_length bad_number bad_value too_long uneven outside uneven_page uneven_areas bad_state boot_words other_words state_numbers boot_numbers boot_refusal state_refusal
    programmed blank program erased_at written_at change apply apply_all after unit_ops erase_ops word read_state valid mark_open most_marks first_open marks_done progress mark_op invalidate_op magic_op
    to_dfu to_active swap_from revert_from swap_steps revert_steps source_of unit_of chunk_ops fill_ops copy_ops once_ops copies_ops page_count swap_ops revert_ops
    report left renew_ops finish_ops swap_or_revert_ops confirming boot_ops_in boot_ops prepare_boot set_magic_ops mark budget call walk table computed told done cut refused ff zeros fresh case sizes filled
starred = refl

-- the tables of 01's section on power, which run no step, give the flash of case a and of case f
pub swapped_sheet : swap_table (sizes 16) (fresh 15) ≡ flash (filled (4 ∷ 5 ∷ 6 ∷ [])) (filled (4 ∷ 1 ∷ 2 ∷ 3 ∷ [])) (0xF0 ∷ 0xFF ∷ (zeros 6 ++ ff 8))
unfolding pick erased marked magic least_common first_divided cell page pages page_count swap_marks swap_table sizes fresh filled zeros ff
swapped_sheet = refl

pub reverted_sheet : reverted (sizes 16) (fresh 15) ≡ flash (filled (1 ∷ 2 ∷ 3 ∷ [])) (filled (4 ∷ 5 ∷ 6 ∷ 3 ∷ [])) (0xC0 ∷ ff 15)
unfolding pick erased magic least_common first_divided cell page pages page_count magic_area page_at with_page revert_images reverted sizes fresh filled ff
reverted_sheet = refl
