-- The single values that no recording shows, by computing; and what the contracts of the cell and of the reader and writer promise of a case.
use Prim.Native.Nat.{ℕ, ◌≤◌, ◌<◌}
use mathlib.Core.Path.{◌≡◌, refl, ap}
use mathlib.Core.Bool.{Bool, true, false}
use mathlib.Core.List.{List, [], ◌∷◌, map}
use Rattle.sets.specs.Processes.{nobody, with, without, count_below, is_in}
use Rattle.cell.specs.Cell as Cells
use Rattle.cell.specs.Cell.{read_of, load_linked, succeeds, store_conditional, state_of}
use Rattle.recording.specs.Numbers.{four_bytes, number_at}
use Rattle.recording.specs.Record.{bytes_of, in_table, whole, event_at, cut_at, cut_answer, read_answer}
use Rattle.recording.specs.Written.{write_answer, write_buffer, written_answer}
use Rattle.cell.specs.Done.{Links, Stores}
use Rattle.cell.specs.declared.Cell.{Cell}
use Rattle.recording.specs.Record.{EventFits, next_inside, Cuts, Cut, whole_record, no_more, broken_record}
use Rattle.recording.specs.Written.{Writes, Written}
use Rattle.recording.specs.declared.Event.TheVariants.{Step, Read, Add}
use Rattle.meaning.specs.Refusals.{first_of}
use Rattle.meaning.specs.Layout.{version, follows, height, shape_of, form_of, too_short, other_version, too_long, false_length, no_height, unknown_shape, head_refusal, kind_byte, follow, records_from, records_of}
use Rattle.meaning.specs.Tree.{processes, leaf_of, left, right, child, parent, ancestor, root}
use Rattle.meaning.specs.Access.{is_root_read, is_leaf_write, component_of, is_read_of, is_store_at, is_second_link}
use Rattle.meaning.specs.Shape.{plus, counting, numbered, formed, is_one_of}
use Rattle.meaning.specs.Operations.{attempt, climb, addition_steps, read_steps}
use Rattle.meaning.specs.Steps.{upd, cell_at, with_cell, with_value, idle, steps_of, access_of, onward, passes_by, saw_it, saw_children, at_step, effect, within, next_record}
use Rattle.meaning.specs.Run.{blank, initial, busy, busy_count, started, kind_of, new_row, start, row_after, take_step, process_of, is_start, refusal_by, record_refusal, take_event, unless, run, outcome}
use Rattle.meaning.specs.Alone.{alone}
use Rattle.meaning.specs.Plain.{number_after, run_down, up_to, times_in}
use Rattle.meaning.specs.Contention.{during, contention}
use Rattle.meaning.specs.TakenIn.{in_leaf, before_read, in_store, is_in_node, keep, leaf_writes, in_root, placed, listed, further, position_of, rank}
use Rattle.meaning.specs.Report.{one, row_bytes, rows_bytes, report_bytes, needed, passes, answer_with, buffer_with, report_answer, report_buffer, check_with, check_answer}
use Rattle.meaning.specs.Printed.{text, digits_of, decimal, line, row_line, row_lines, printed_of, printed}
use Rattle.meaning.specs.Starred.{join, times, step, reads, adds, recording}
use Rattle.meaning.specs.Direct.{cell_shown, answer_shown, three, of_sets, of_cells, of_records, of_refusals, of_writer, of_run, of_history, of_list, pairs}

pub direct : map (λ c. c.given) pairs ≡ map (λ c. c.said) pairs
unfolding nobody with without is_in Cells.initial state_of bytes_of cut_answer read_answer write_answer write_buffer written_answer alone number_after run_down up_to times_in count_below read_of load_linked succeeds store_conditional four_bytes number_at in_table whole event_at cut_at first_of version follows height shape_of form_of too_short other_version too_long false_length no_height unknown_shape head_refusal kind_byte follow records_from records_of processes leaf_of left right child parent ancestor root attempt climb addition_steps read_steps is_root_read is_leaf_write component_of is_read_of is_store_at is_second_link upd cell_at with_cell with_value idle steps_of access_of plus counting numbered formed is_one_of onward passes_by saw_it saw_children at_step effect within next_record blank initial busy busy_count started kind_of new_row start row_after take_step process_of is_start refusal_by record_refusal take_event unless run outcome during contention in_leaf before_read in_store is_in_node keep leaf_writes in_root placed listed further position_of rank one row_bytes rows_bytes report_bytes needed passes answer_with buffer_with report_answer report_buffer check_with check_answer text digits_of decimal line row_line row_lines printed_of printed join times step reads adds recording of_sets of_cells of_records of_refusals of_writer of_run of_history of_list pairs
direct = refl

-- ---- the contracts: what they promise of one case each

-- a cell with the value 5, to which 0, 2 and 3 are linked
abbrev pub linked : Cell
linked = record { value = 5; links = 13 }

pub links_1 : (answer : ℕ) (after : Cell) → Links 1 linked answer after → (answer ≡ 5) × (cell_shown (state_of after) ≡ 5 ∷ 0 ∷ 1 ∷ 2 ∷ 3 ∷ [])
unfolding with is_in read_of load_linked state_of
links_1 answer after l = (l.value, ap cell_shown l.cell)

pub stores_2 : (answer : Bool) (after : Cell) → Stores 9 2 linked answer after → (answer ≡ true) × (cell_shown (state_of after) ≡ 9 ∷ [])
unfolding nobody is_in succeeds store_conditional state_of
stores_2 answer after l = (l.ok, ap cell_shown l.cell)

pub stores_1 : (answer : Bool) (after : Cell) → Stores 9 1 linked answer after → (answer ≡ false) × (cell_shown (state_of after) ≡ 5 ∷ 0 ∷ 2 ∷ 3 ∷ [])
unfolding nobody is_in succeeds store_conditional state_of
stores_1 answer after l = (l.ok, ap cell_shown l.cell)

pub writes_read : (after : List ℕ) (r : Written) → Writes (Read 7) (1 ∷ 1 ∷ 1 ∷ 1 ∷ []) after r → (answer_shown (written_answer r) ≡ 0 ∷ 3 ∷ []) × (after ≡ 2 ∷ 2 ∷ 7 ∷ 1 ∷ [])
unfolding bytes_of write_answer write_buffer
writes_read after r w = (ap answer_shown w.answer, w.buffer)

-- "3 or 7 bytes": the place after a record of 3 bytes at least, and inside
pub found_inside : (next : ℕ) → next_inside 4 9 (whole_record (Step 0) next) → (7 ≤ next) × (next ≤ 9)
unfolding next_inside
found_inside next i = i

pub broken_inside : (place : ℕ) → next_inside 4 9 (broken_record place) → place ≤ 9
unfolding next_inside
broken_inside place i = i

pub end_inside : (at : ℕ) → next_inside at 9 no_more → 9 ≤ at
unfolding next_inside
end_inside at i = i

pub cuts_inside : (r : Cut) → Cuts three 3 r → next_inside 3 13 r
cuts_inside r c = c.inside

-- a process byte below 256, a delta below 2^32
pub steps_fit : (p : ℕ) → EventFits (Step p) → p < 256
steps_fit p f = f

pub reads_fit : (p : ℕ) → EventFits (Read p) → p < 256
reads_fit p f = f

pub adds_fit : (p d : ℕ) → EventFits (Add p d) → (p < 256) × (d < 4294967296)
adds_fit p d f = f
