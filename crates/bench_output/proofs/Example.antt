-- The definition gives the request's example, and three more outputs, by computation. Assumes nothing.
use mathlib.Core.Path.{◌≡◌, refl}
use Rattle.state.specs.Choice.{pick}
use Rattle.state.specs.Cells.{erased, marked, programmed}
use Rattle.state.specs.Magic.{magic, state_number, throughout, holds, state_of}
use Rattle.gcd.specs.Multiple.{first_divided, least_common}
use Rattle.geometry.specs.Geometry.{cell, page, pages, words}
use Rattle.geometry.specs.Refusals.{any, number, first_row, most_number, most_page, most_length, bad_number, bad_value, too_long, uneven, outside, uneven_page, uneven_areas, bad_state, boot_words, other_words, state_numbers, boot_numbers, boot_refusal, state_refusal}
use Rattle.mem_flash.specs.Flash.{blank, program, erased_at, written_at, change, apply, apply_all, after, unit_ops, erase_ops}
use Rattle.rules.specs.StateArea.{word, read_state, valid, mark_open, most_marks, first_open, marks_done, progress, mark_op, invalidate_op, magic_op}
use Rattle.rules.specs.Steps.{to_dfu, to_active, swap_from, revert_from, swap_steps, revert_steps, source_of, unit_of, chunk_ops, fill_ops, copy_ops, once_ops, copies_ops, page_count, swap_ops, revert_ops}
use Rattle.rules.specs.Calls.{report, left}
use Rattle.rules.specs.Boot.{renew_ops, finish_ops, swap_or_revert_ops, confirming, boot_ops_in, boot_ops, prepare_boot}
use Rattle.rules.specs.FirmwareState.{set_magic_ops, mark}
use Rattle.numerals.specs.Text.{grown, split, digit, digits, value, up_to, number as number_of_lem, more, numbers, exactly, row}
use Rattle.lines.specs.Lines.{closed, lines, sizes_of, sizes_line, short, lengths_of, lengths_line, alike, named, ordered, command_of, command_line}
use Rattle.answer_text.specs.Answers.{decimal_in, decimal, state_text, command_text, bad_line_text, hex_of}
use Rattle.bench_images.specs.Images.{filled_from, filled, start_of, call_of, bench_call}
use Rattle.bench_output.specs.Output.{bad, on_sizes, on_lengths, called, on_command, within, on_line, area_text, areas_text, at_end, written, output}
use Rattle.bench_output.specs.Example.{example_input, example_output, bad_input, bad_output, refused_input, refused_output, missing_input, missing_output}

pub examples : (output example_input ≡ example_output) × (output bad_input ≡ bad_output) × (output refused_input ≡ refused_output)
    × (output missing_input ≡ missing_output)
unfolding pick erased marked magic throughout holds state_of least_common first_divided cell page pages words
    any number first_row most_number most_page most_length bad_number bad_value too_long uneven outside uneven_page uneven_areas bad_state boot_words other_words state_numbers boot_numbers boot_refusal state_refusal
    programmed blank program erased_at written_at change apply apply_all after unit_ops erase_ops word read_state valid mark_open most_marks first_open marks_done progress mark_op invalidate_op magic_op
    to_dfu to_active swap_from revert_from swap_steps revert_steps source_of unit_of chunk_ops fill_ops copy_ops once_ops copies_ops page_count swap_ops revert_ops
    report left renew_ops finish_ops swap_or_revert_ops confirming boot_ops_in boot_ops prepare_boot set_magic_ops mark
    grown split digit digits value up_to number_of_lem more numbers exactly row
    closed lines sizes_of sizes_line short lengths_of lengths_line alike named ordered command_of command_line
    decimal_in decimal state_number state_text command_text bad_line_text hex_of filled_from filled start_of call_of bench_call
    bad on_sizes on_lengths called on_command within on_line area_text areas_text at_end written output example_input example_output bad_input bad_output refused_input refused_output missing_input missing_output
examples = (refl, refl, refl, refl)
