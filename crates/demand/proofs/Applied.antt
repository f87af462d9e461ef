-- The theorem applied to A to F and three more: its hypothesis is met by each, and what its clauses give is what the document says, so that
-- this is so of the reports.
use Prim.Native.Nat.{ℕ}
use mathlib.Core.Path.{◌≡◌, refl, ap₂, ◌∙◌}
use mathlib.Core.Bool.{true}
use mathlib.Core.List.{List, [], ◌∷◌, ◌++◌, map}
use Rattle.sets.specs.Processes.{nobody, with, count_below}
use Rattle.cell.specs.Cell.{read_of, load_linked, succeeds, store_conditional}
use Rattle.recording.specs.Numbers.{four_bytes, number_at}
use Rattle.recording.specs.Record.{in_table, whole, event_at, cut_at}
use Rattle.meaning.specs.Refusals.{first_of}
use Rattle.meaning.specs.Layout.{version, follows, height, shape_of, form_of, too_short, other_version, too_long, false_length, no_height, unknown_shape, head_refusal, kind_byte, follow, records_from, records_of}
use Rattle.meaning.specs.Tree.{processes, leaf_of, left, right, child, parent, ancestor, root}
use Rattle.meaning.specs.Operations.{attempt, climb, addition_steps, read_steps}
use Rattle.meaning.specs.Access.{is_root_read, is_leaf_write, component_of, is_read_of, is_store_at, is_second_link}
use Rattle.meaning.specs.Steps.{upd, cell_at, with_cell, with_value, idle, steps_of, access_of, onward, passes_by, saw_it, saw_children, at_step, effect, within, next_record}
use Rattle.meaning.specs.Shape.{Form, plus, counting, numbered, is_one_of}
use Rattle.meaning.specs.Run.{Outcome, refused, accepted, blank, initial, busy, busy_count, started, kind_of, new_row, start, row_after, take_step, process_of, is_start, refusal_by, record_refusal, take_event, unless, run, outcome}
use Rattle.meaning.specs.Alone.{alone}
use Rattle.meaning.specs.TakenIn.{in_leaf, before_read, in_store, is_in_node, keep, leaf_writes, in_root, placed, listed, further, position_of, rank}
use Rattle.meaning.specs.Plain.{number_after, run_down, up_to, times_in}
use Rattle.meaning.specs.Starred.{join, times, step, reads, adds, recording, report_of, row, refusal, acceptance, cases}
use Rattle.history.proofs.Turns.{false_true}
use Rattle.counter.proofs.Overs.{and_both}
use Rattle.demand.specs.InOrder.{first_after, has_read, is_taken_in, is_listed, is_placed, place_of, write_of, is_at, is_read_by, is_root_store, is_write_by}
use Rattle.demand.specs.Applied.{recordings, besides, state_of, is_accepted, all_accepted, those, pairs, anyone, is_done, is_listed_of, is_earlier, is_tie, is_before, is_over, every, all_below, meets, listing_given, standing_given, numbers_given, counts_given, Columns, reported, given, all_meet, all_given, documented, lists}
use Rattle.demand.proofs.Holds.{demand_3}
use Rattle.demand.proofs.Columns.{listing_same, standing_same, numbers_same, counts_same, meets_is}

accepted_is : (F : Form) (o : Outcome) → is_accepted o ≡ true → o ≡ accepted (state_of F o)
unfolding is_accepted state_of
accepted_is F (refused a) e = absurd (false_true e)
accepted_is F (accepted st) e = refl

-- each recording is accepted
all_accepted_lem : all_accepted (recordings ++ besides) ≡ true
unfolding nobody with count_below read_of load_linked succeeds store_conditional four_bytes number_at in_table whole event_at cut_at first_of version follows height shape_of form_of too_short other_version too_long false_length no_height unknown_shape head_refusal kind_byte follow records_from records_of processes leaf_of left right child parent ancestor root attempt climb addition_steps read_steps is_root_read is_leaf_write component_of is_read_of is_store_at is_second_link upd cell_at with_cell with_value idle steps_of access_of plus counting numbered is_one_of onward passes_by saw_it saw_children at_step effect within next_record blank initial busy busy_count started kind_of new_row start row_after take_step process_of is_start refusal_by record_refusal take_event unless run outcome join times step reads adds recording report_of row refusal acceptance cases recordings besides is_accepted all_accepted
all_accepted_lem = refl

-- the list that the document gives it meets the clauses
all_meet_lem : all_meet (recordings ++ besides) lists ≡ true
unfolding nobody with count_below read_of load_linked succeeds store_conditional four_bytes number_at in_table whole event_at cut_at first_of version follows height shape_of form_of too_short other_version too_long false_length no_height unknown_shape head_refusal kind_byte follow records_from records_of processes leaf_of left right child parent ancestor root attempt climb addition_steps read_steps is_root_read is_leaf_write component_of is_read_of is_store_at is_second_link upd cell_at with_cell with_value idle steps_of access_of plus counting numbered is_one_of onward passes_by saw_it saw_children at_step effect within next_record blank initial busy busy_count started kind_of new_row start row_after take_step process_of is_start refusal_by record_refusal take_event unless run outcome in_leaf before_read in_store is_in_node keep leaf_writes in_root placed listed further position_of rank number_after run_down up_to times_in alone join times step reads adds recording report_of row refusal acceptance cases first_after has_read is_taken_in is_listed is_placed place_of write_of is_at is_read_by is_root_store is_write_by recordings besides state_of is_listed_of is_earlier is_tie is_before every all_below meets all_meet documented lists
all_meet_lem = refl

-- what the clauses give is what the document says
all_given_lem : all_given (recordings ++ besides) lists ≡ documented
unfolding nobody with count_below read_of load_linked succeeds store_conditional four_bytes number_at in_table whole event_at cut_at first_of version follows height shape_of form_of too_short other_version too_long false_length no_height unknown_shape head_refusal kind_byte follow records_from records_of processes leaf_of left right child parent ancestor root attempt climb addition_steps read_steps is_root_read is_leaf_write component_of is_read_of is_store_at is_second_link upd cell_at with_cell with_value idle steps_of access_of plus counting numbered is_one_of onward passes_by saw_it saw_children at_step effect within next_record blank initial busy busy_count started kind_of new_row start row_after take_step process_of is_start refusal_by record_refusal take_event unless run outcome in_leaf before_read in_store is_in_node keep leaf_writes in_root placed listed further position_of rank number_after run_down up_to times_in alone join times step reads adds recording report_of row refusal acceptance cases first_after has_read is_taken_in is_listed is_placed place_of write_of is_at is_read_by is_root_store is_write_by recordings besides state_of those pairs anyone is_done is_listed_of is_earlier is_tie is_over listing_given standing_given numbers_given counts_given given all_given documented lists
all_given_lem = refl

reported_given : (s l : List ℕ) → is_accepted (outcome s) ≡ true → meets (form_of s) (state_of (form_of s) (outcome s)) l ≡ true → reported s ≡ given s l
unfolding reported given
reported_given s l e n =
    let st = state_of (form_of s) (outcome s) in
    let d = demand_3 s st (accepted_is (form_of s) (outcome s) e) in
    λ t. record {
      listing = listing_same (form_of s) st d l (meets_is (form_of s) st d l n) t;
      standing = standing_same (form_of s) st d t;
      numbers = numbers_same (form_of s) st d t;
      counts = counts_same (form_of s) st d t;
    }

all_reported : (rs ls : List (List ℕ)) → all_accepted rs ≡ true → all_meet rs ls ≡ true → map reported rs ≡ all_given rs ls
unfolding all_accepted all_meet all_given
all_reported [] ls a e = refl
all_reported (s ∷ rs) [] a e = absurd (false_true e)
all_reported (s ∷ rs) (l ∷ ls) a e =
    let v = and_both (is_accepted (outcome s)) (all_accepted rs) a in
    let w = and_both (meets (form_of s) (state_of (form_of s) (outcome s)) l) _ e in
    ap₂ (λ (x : Columns) (y : List Columns). x ∷ y) (reported_given s l v.0 w.0) (all_reported rs ls v.1 w.1)

-- so the states after A to F, and after the three more, have every column as the document says
pub applied : map reported (recordings ++ besides) ≡ documented
applied = all_reported (recordings ++ besides) lists all_accepted_lem all_meet_lem ∙ all_given_lem
