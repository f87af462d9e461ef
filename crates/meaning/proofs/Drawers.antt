-- The definitions give each drawer what was worked out for it from the document; and what no list of that length is computed for: refusal 19.
use Prim.Native.Nat.{ℕ, ◌≤◌, ◌<◌}
use mathlib.Core.Path.{◌≡◌, refl}
use mathlib.Core.List.{List, [], map}
use lib.ListN.{length}
use borrow.Author.Tests.{lt-ltb, le-ltb}
use Rattle.sets.specs.Processes.{nobody, with, count_below}
use Rattle.cell.specs.Cell.{read_of, load_linked, succeeds, store_conditional}
use Rattle.recording.specs.Numbers.{four_bytes, number_at}
use Rattle.recording.specs.Record.{in_table, whole, event_at, cut_at}
use Rattle.meaning.specs.Refusals.{first_of}
use Rattle.meaning.specs.Layout.{version, follows, height, shape_of, form_of, too_short, other_version, too_long, false_length, no_height, unknown_shape, head_refusal, kind_byte, follow, records_from, records_of}
use Rattle.meaning.specs.Tree.{processes, leaf_of, left, right, child, parent, ancestor, root}
use Rattle.meaning.specs.Access.{is_root_read, is_leaf_write, component_of, is_read_of, is_store_at, is_second_link}
use Rattle.meaning.specs.Shape.{plus, counting, numbered, formed, is_one_of}
use Rattle.meaning.specs.Operations.{attempt, climb, addition_steps, read_steps}
use Rattle.meaning.specs.Steps.{upd, cell_at, with_cell, with_value, idle, steps_of, access_of, onward, passes_by, saw_it, saw_children, at_step, effect, within, next_record}
use Rattle.meaning.specs.Run.{blank, initial, busy, busy_count, started, kind_of, new_row, start, row_after, take_step, process_of, is_start, refusal_by, record_refusal, take_event, unless, run, outcome}
use Rattle.meaning.specs.Contention.{during, contention}
use Rattle.meaning.specs.TakenIn.{in_leaf, before_read, in_store, is_in_node, keep, leaf_writes, in_root, placed, listed, further, position_of, rank}
use Rattle.meaning.specs.Report.{one, row_bytes, rows_bytes, report_bytes, passes, check_with, check_answer}
use Rattle.meaning.specs.Printed.{text, digits_of, decimal, line, heading_of}
use Rattle.meaning.specs.Drawer as Drawer
use Rattle.meaning.specs.Drawer.{Pieces, into, fails, pieces_of, longest_drawer, answer_cut, drawer_answer, over, given, drawer_reports, drawer_marks}
use Rattle.meaning.specs.Starred.{join, times, step, reads, adds, recording, report_of, row}
use Rattle.meaning.specs.Drawers.{defined_drawn, documented_drawn, drawers, of_drawer, of_too_long}

pub drawn : map defined_drawn drawers ≡ map documented_drawn drawers
unfolding nobody with count_below read_of load_linked succeeds store_conditional four_bytes number_at in_table whole event_at cut_at first_of version follows height shape_of form_of too_short other_version too_long false_length no_height unknown_shape head_refusal kind_byte follow records_from records_of processes leaf_of left right child parent ancestor root attempt climb addition_steps read_steps is_root_read is_leaf_write component_of is_read_of is_store_at is_second_link upd cell_at with_cell with_value idle steps_of access_of plus counting numbered formed is_one_of onward passes_by saw_it saw_children at_step effect within next_record blank initial busy busy_count started kind_of new_row start row_after take_step process_of is_start refusal_by record_refusal take_event unless run outcome during contention in_leaf before_read in_store is_in_node keep leaf_writes in_root placed listed further position_of rank one row_bytes rows_bytes report_bytes passes check_with check_answer Drawer.size_at Drawer.found_at Drawer.also Drawer.onward Drawer.pieces_from Drawer.pieces_of Drawer.report_with Drawer.report_of Drawer.mark_of Drawer.joined Drawer.longest_drawer Drawer.answer_within Drawer.answer_cut Drawer.drawer_answer Drawer.over Drawer.given Drawer.drawer_reports Drawer.drawer_marks join times step reads adds recording report_of row defined_drawn documented_drawn drawers
drawn = refl

pub direct : map (λ c. c.given) of_drawer ≡ map (λ c. c.said) of_drawer
unfolding number_at text digits_of decimal line heading_of Drawer.size_at Drawer.found_at Drawer.joined Drawer.longest_drawer Drawer.over Drawer.given join step recording of_drawer
direct = refl

pub too_long_lem : map (λ c. c.given) of_too_long ≡ map (λ c. c.said) of_too_long
unfolding four_bytes number_at first_of version follows height shape_of form_of too_short other_version too_long false_length no_height unknown_shape head_refusal unless outcome check_with check_answer Drawer.size_at Drawer.found_at Drawer.report_with Drawer.report_of Drawer.mark_of join recording of_too_long
too_long_lem = refl

-- ---- refusal 19, before anything else

nothing_given : (f : List ℕ → List ℕ) (p : Pieces) → given f (record { number = 19; place = 0 }) p ≡ []
unfolding given
nothing_given f (fails at) = refl
nothing_given f (into ss) = refl

module _ (s out marks : List ℕ) where
  pub above : 16777216 < length s → drawer_answer s out marks ≡ record { number = 19; place = 0 }
  unfolding longest_drawer drawer_answer
  above b = rw (lt-ltb 16777216 (length s) b)

  pub above_unwritten : 16777216 < length s → (drawer_reports s out marks ≡ out) × (drawer_marks s out marks ≡ marks)
  unfolding drawer_reports drawer_marks over
  above_unwritten b = (rw (above b, nothing_given), rw (above b, nothing_given))

  -- 16,777,216 bytes are cut
  pub not_above : length s ≤ 16777216 → drawer_answer s out marks ≡ answer_cut (pieces_of s) (length out) (length marks)
  unfolding longest_drawer drawer_answer
  not_above b = rw (le-ltb 16777216 (length s) b)
