-- The same of the longest recording and of one that is too long.
use mathlib.Core.Path.{◌≡◌, refl}
use mathlib.Core.List.{map}
use Rattle.sets.specs.Processes.{nobody, with, count_below}
use Rattle.cell.specs.Cell.{read_of, load_linked, succeeds, store_conditional}
use Rattle.recording.specs.Numbers.{four_bytes, number_at}
use Rattle.recording.specs.Record.{in_table, whole, event_at, cut_at}
use Rattle.meaning.specs.Refusals.{first_of}
use Rattle.meaning.specs.Layout.{version, follows, height, shape_of, form_of, too_short, other_version, too_long, false_length, no_height, unknown_shape, head_refusal, kind_byte, follow, records_from, records_of}
use Rattle.meaning.specs.Tree.{processes, leaf_of, left, right, child, parent, ancestor, root}
use Rattle.meaning.specs.Access.{is_root_read, is_leaf_write, component_of, is_read_of, is_store_at, is_second_link}
use Rattle.meaning.specs.Shape.{plus, counting, numbered, formed, is_one_of}
use Rattle.meaning.specs.Operations.{attempt, climb, addition_steps, read_steps}
use Rattle.meaning.specs.Steps.{upd, cell_at, with_cell, with_value, idle, steps_of, access_of, onward, passes_by, saw_it, saw_children, at_step, effect, within, next_record}
use Rattle.meaning.specs.Run.{blank, initial, busy, busy_count, started, kind_of, new_row, start, row_after, take_step, process_of, is_start, refusal_by, record_refusal, take_event, unless, run, outcome}
use Rattle.meaning.specs.Contention.{during, contention}
use Rattle.meaning.specs.TakenIn.{in_leaf, before_read, in_store, is_in_node, keep, leaf_writes, in_root, placed, listed, further, position_of, rank}
use Rattle.meaning.specs.Report.{one, row_bytes, rows_bytes, report_bytes, needed, passes, answer_with, buffer_with, report_answer, report_buffer, check_with, check_answer}
use Rattle.meaning.specs.Printed.{text, digits_of, decimal, line, row_line, row_lines, printed_of, printed}
use Rattle.meaning.specs.Direct.{of_length}

pub lengths : map (λ c. c.given) of_length ≡ map (λ c. c.said) of_length
unfolding nobody with count_below read_of load_linked succeeds store_conditional four_bytes number_at in_table whole event_at cut_at first_of version follows height shape_of form_of too_short other_version too_long false_length no_height unknown_shape head_refusal kind_byte follow records_from records_of processes leaf_of left right child parent ancestor root attempt climb addition_steps read_steps is_root_read is_leaf_write component_of is_read_of is_store_at is_second_link upd cell_at with_cell with_value idle steps_of access_of plus counting numbered formed is_one_of onward passes_by saw_it saw_children at_step effect within next_record blank initial busy busy_count started kind_of new_row start row_after take_step process_of is_start refusal_by record_refusal take_event unless run outcome during contention in_leaf before_read in_store is_in_node keep leaf_writes in_root placed listed further position_of rank one row_bytes rows_bytes report_bytes needed passes answer_with buffer_with report_answer report_buffer check_with check_answer text digits_of decimal line row_line row_lines printed_of printed of_length
lengths = refl
