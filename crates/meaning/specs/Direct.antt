-- Single values of definitions that no recording's answer, report and text reaches, or not on both sides of a line: each beside what the
-- document says, all as lists of numbers. proofs/Direct.antt shows that the two are one.
use Rattle.std.specs.Prelude.{ℕ, zero, suc, ◌+◌, Bool, true, false, cond, List, [], ◌∷◌, ◌++◌, length, replicate, Some, None, Ok, Err}
use Rattle.refusals.specs.Table.{number_of, number_told, of_whole}
use Rattle.refusals.specs.declared.Refusal.TheVariants.{TooShort, OtherVersion, FalseLength, TooLong, NoHeight, BrokenRecord, NoProcess, Busy, Idle, Full, NoRoom, NoCut, DrawerTooLong}
use Rattle.sets.specs.Processes.{nobody, with, without, count_below, is_in}
use Rattle.cell.specs.Cell as Cells
use Rattle.cell.specs.Cell.{read_of, load_linked, succeeds, store_conditional, state_of}
use Rattle.recording.specs.Numbers.{four_bytes, number_at}
use Rattle.recording.specs.Record.{Answer, bytes_of, in_table, cut_at, cut_answer, read_answer, Cut, whole_record, no_more, broken_record}
use Rattle.recording.specs.Written.{write_answer, write_buffer, written_answer, needs_room}
use Rattle.recording.specs.declared.Event.{Event}
use Rattle.recording.specs.declared.Event.TheVariants.{Step, Read, Add}
use Rattle.meaning.specs.Layout.{head_refusal}
use Rattle.meaning.specs.Tree.{processes, leaf_of, left, right, child, parent, ancestor, root}
use Rattle.meaning.specs.Access.{Access, first, second, starts, reads_root, reads_leaf, writes_leaf, links, reads as readsChildren, stores, is_root_read, is_leaf_write, component_of, is_read_of, is_store_at, is_second_link}
use Rattle.meaning.specs.Shape.{Form, numbered, highest_shape, is_one_of}
use Rattle.meaning.specs.Steps.{Process, saw_it, saw_children, at_step}
use Rattle.meaning.specs.Run.{Entry, Row, State, Outcome, refused, accepted, initial, busy, new_row, start, record_refusal, outcome}
use Rattle.meaning.specs.Alone.{alone}
use Rattle.meaning.specs.Contention.{during}
use Rattle.meaning.specs.Plain.{number_after, run_down, up_to, times_in}
use Rattle.meaning.specs.Printed.{text, decimal, printed}
use Rattle.meaning.specs.Starred.{times, step, reads, adds, recording}
use Rattle.meaning.specs.Cases.{long}

-- what the definitions give, and what the document says
pub record Pair : Type 0 where
  pub given : List ℕ
  pub said : List ℕ

infix 45 ◌is◌
abbrev pub ◌is◌ : List ℕ → List ℕ → Pair
◌is◌ given said = record { given = given; said = said }

-- ---- as numbers

abbrev pub digit : Bool → ℕ
digit b = cond b 1 0

abbrev pub among : List ℕ → (ℕ → Bool) → List ℕ
among [] s = []
among (p ∷ ps) s = cond (s p) (p ∷ []) [] ++ among ps s

-- which of these processes are in the set
abbrev pub members : (ℕ → Bool) → List ℕ
members = among (0 ∷ 1 ∷ 2 ∷ 3 ∷ 63 ∷ 64 ∷ [])

-- the set of the processes 0 and 2
abbrev pub even : ℕ → Bool
even zero = true
even (suc zero) = false
even (suc (suc zero)) = true
even (suc (suc (suc p))) = false

abbrev pub cell : ℕ → (ℕ → Bool) → Cells.State
cell v s = record { value = v; linked = s }

abbrev pub cell_shown : Cells.State → List ℕ
cell_shown q = q.value ∷ members q.linked

abbrev pub answer_shown : Answer → List ℕ
answer_shown a = a.number ∷ a.place ∷ []

abbrev pub event_shown : Event → List ℕ
event_shown (Step p) = 1 ∷ p ∷ []
event_shown (Read p) = 2 ∷ p ∷ []
event_shown (Add p d) = 3 ∷ p ∷ d ∷ []

abbrev pub cut_shown : Cut → List ℕ
cut_shown (Ok (Some found)) = found.next ∷ event_shown found.event
cut_shown (Ok None) = []
cut_shown (Err r) = number_of r.refusal ∷ r.place ∷ []

-- a tree of shape 0
abbrev pub tree : ℕ → Form
tree h = record { height = h; shape = numbered 0 }

-- the state after a recording that is accepted
abbrev pub state_after : Outcome → State
state_after (refused a) = initial (tree 1)
state_after (accepted st) = st

-- delta, and the records before its start and before its last step, of the first k operations
abbrev pub spans : ℕ → State → List ℕ
spans zero st = []
spans (suc k) st = spans k st ++ ((st.row k).delta ∷ (st.row k).started ∷ (st.row k).ended ∷ [])

-- which of the accesses, by their places from 0, a question is true of
abbrev pub tells : ℕ → (Access → Bool) → List Access → List ℕ
tells k ask [] = []
tells k ask (a ∷ rest) = cond (ask a) (k ∷ []) [] ++ tells (suc k) ask rest

abbrev pub process_shown : Process → List ℕ
process_shown r =
    r.step ∷ r.operation ∷ digit r.adds ∷ r.delta ∷ r.seen ∷ r.children 0 ∷ r.children 1 ∷ r.children 2 ∷ []

-- of each entry its process, its operation, whether it is an SC that succeeded, and how many are busy after it
abbrev pub entries : List Entry → List ℕ
entries [] = []
entries (e ∷ es) = (e.process ∷ e.operation ∷ digit e.stored ∷ e.busy ∷ []) ++ entries es

-- whether process 0 is busy, operation 0's steps, all records
abbrev pub stepped : State → List ℕ
stepped st = digit (busy st.process 0) ∷ (st.row 0).steps ∷ length st.history ∷ []

-- ---- what is asked of

-- a read by 7, an addition of 16,909,060 by 9, a step of 255: records at 0, 3 and 10 of 13 bytes
abbrev pub three : List ℕ
three = 2 ∷ 2 ∷ 7 ∷ 6 ∷ 3 ∷ 9 ∷ 1 ∷ 2 ∷ 3 ∷ 4 ∷ 2 ∷ 1 ∷ 255 ∷ []

-- a start and each access at node 2, whose children are 4 and 5
abbrev pub each : List Access
each =
    starts
    ∷ reads_root
    ∷ reads_leaf 4
    ∷ writes_leaf 4
    ∷ links first 2
    ∷ links second 2
    ∷ readsChildren 2 0 1
    ∷ readsChildren 2 1 1
    ∷ stores first 2
    ∷ stores second 2
    ∷ readsChildren 2 0 2
    ∷ readsChildren 2 0 0
    ∷ []

-- a process's record with another number in each field
abbrev pub some : Process
some = record { step = 2; operation = 3; adds = true; delta = 4; seen = 5; children = λ c. 6 + c }

-- the state before any record, but for the number of operations
abbrev pub counted : ℕ → State
counted k =
    record {
      memory = (initial (tree 1)).memory;
      process = (initial (tree 1)).process;
      operations = k;
      row = (initial (tree 1)).row;
      history = [];
    }

-- 0 is busy, with operation 1,024
abbrev pub full : State
full = start (tree 1) 0 false 0 (counted 1023)

-- the starred recordings D, and F, in which 0 stops after its leaf write
abbrev pub after_d : State
after_d =
    state_after
    (outcome
    (recording 57
    (adds 1 7 ∷ times 4 (step 1) ∷ adds 0 5 ∷ times 2 (step 0) ∷ times 2 (step 1) ∷ reads 1 ∷ step 1 ∷ times 4 (step 0) ∷ [])))

abbrev pub after_f : State
after_f = state_after (outcome (recording 39 (adds 0 5 ∷ times 2 (step 0) ∷ adds 1 7 ∷ times 6 (step 1) ∷ [])))

-- operation 0 adds 2^32 - 1, operation 1 adds 2, the others read; a read's delta is not looked at
abbrev pub rows : ℕ → Row
rows zero = new_row 0 true 4294967295 0
rows (suc zero) = new_row 1 true 2 0
rows (suc (suc i)) = new_row 0 false 9 0

-- the row of an addition that started with record 2 and took its latest step, the last if it is finished, with record 4
abbrev pub span : Bool → Row
span finished = record { process = 0; kind = 3; delta = 0; finished = finished; steps = 2; answer = 0; seconds = 0; started = 2; ended = 4 }

-- ---- the pairs

unfoldable pub of_sets : List Pair
of_sets =
    (members nobody is [])
    ∷ (members (with 1 even) is 0 ∷ 1 ∷ 2 ∷ [])
    ∷ (members (with 2 even) is 0 ∷ 2 ∷ [])
    ∷ (members (with 63 nobody) is 63 ∷ [])
    ∷ (members (with 64 nobody) is [])
    ∷ (members (without 2 even) is 0 ∷ [])
    ∷ (members (without 1 even) is 0 ∷ 2 ∷ [])
    ∷ (count_below 0 even ∷ count_below 1 even ∷ count_below 2 even ∷ count_below 3 even ∷ [] is 0 ∷ 1 ∷ 1 ∷ 2 ∷ [])
    ∷ (members (is_in 13) is 0 ∷ 2 ∷ 3 ∷ [])
    ∷ (members (is_in 9223372036854775808) is 63 ∷ [])
    ∷ []

unfoldable pub of_cells : List Pair
of_cells =
    (cell_shown Cells.initial is 0 ∷ [])
    ∷ (read_of (cell 5 even) ∷ [] is 5 ∷ [])
    ∷ (cell_shown (load_linked 1 (cell 5 even)) is 5 ∷ 0 ∷ 1 ∷ 2 ∷ [])
    ∷ (cell_shown (load_linked 2 (cell 5 even)) is 5 ∷ 0 ∷ 2 ∷ [])
    ∷ (digit (succeeds 1 (cell 5 even)) ∷ digit (succeeds 2 (cell 5 even)) ∷ [] is 0 ∷ 1 ∷ [])
    ∷ (cell_shown (store_conditional 9 2 (cell 5 even)) is 9 ∷ [])
    ∷ (cell_shown (store_conditional 9 1 (cell 5 even)) is 5 ∷ 0 ∷ 2 ∷ [])
    -- "A store of the same value is still a store."
    ∷ (cell_shown (store_conditional 5 2 (cell 5 even)) is 5 ∷ [])
    ∷ (cell_shown (state_of (record { value = 5; links = 13 })) is 5 ∷ 0 ∷ 2 ∷ 3 ∷ [])
    ∷ []

unfoldable pub of_records : List Pair
of_records =
    (four_bytes 16909060 is 1 ∷ 2 ∷ 3 ∷ 4 ∷ [])
    ∷ (four_bytes 4294967295 is 255 ∷ 255 ∷ 255 ∷ 255 ∷ [])
    ∷ (number_at (9 ∷ 1 ∷ 2 ∷ 3 ∷ 4 ∷ []) 1 ∷ [] is 16909060 ∷ [])
    ∷ (bytes_of (Step 7) is 2 ∷ 1 ∷ 7 ∷ [])
    ∷ (bytes_of (Read 7) is 2 ∷ 2 ∷ 7 ∷ [])
    ∷ (bytes_of (Add 7 16909060) is 6 ∷ 3 ∷ 7 ∷ 1 ∷ 2 ∷ 3 ∷ 4 ∷ [])
    -- of the kinds 0 to 4 those that go with a k
    ∷ (among (0 ∷ 1 ∷ 2 ∷ 3 ∷ 4 ∷ []) (λ kind. in_table kind 2) is 1 ∷ 2 ∷ [])
    ∷ (among (0 ∷ 1 ∷ 2 ∷ 3 ∷ 4 ∷ []) (λ kind. in_table kind 6) is 3 ∷ [])
    -- the k of 0 to 7 that go with a kind
    ∷ (among (0 ∷ 1 ∷ 2 ∷ 3 ∷ 5 ∷ 6 ∷ 7 ∷ []) (in_table 1) is 2 ∷ [])
    ∷ (among (0 ∷ 1 ∷ 2 ∷ 3 ∷ 5 ∷ 6 ∷ 7 ∷ []) (in_table 2) is 2 ∷ [])
    ∷ (among (0 ∷ 1 ∷ 2 ∷ 3 ∷ 5 ∷ 6 ∷ 7 ∷ []) (in_table 3) is 6 ∷ [])
    ∷ (cut_shown (cut_at three 0) is 3 ∷ 2 ∷ 7 ∷ [])
    ∷ (cut_shown (cut_at three 3) is 10 ∷ 3 ∷ 9 ∷ 16909060 ∷ [])
    ∷ (cut_shown (cut_at three 10) is 13 ∷ 1 ∷ 255 ∷ [])
    ∷ (cut_shown (cut_at three 1) is 6 ∷ 1 ∷ [])
    -- "with no bytes left, or with a place beyond the lent bytes"
    ∷ (cut_shown (cut_at three 13) is [])
    ∷ (cut_shown (cut_at three 14) is [])
    ∷ (answer_shown (cut_answer (whole_record (Read 7) 3)) is 0 ∷ 3 ∷ [])
    ∷ (answer_shown (cut_answer (broken_record 5)) is 6 ∷ 5 ∷ [])
    ∷ (answer_shown (cut_answer no_more) is 0 ∷ 0 ∷ [])
    ∷ (answer_shown (read_answer three 0) is 0 ∷ 3 ∷ [])
    ∷ (answer_shown (read_answer three 3) is 0 ∷ 10 ∷ [])
    ∷ (answer_shown (read_answer three 1) is 6 ∷ 1 ∷ [])
    ∷ (answer_shown (read_answer three 12) is 6 ∷ 12 ∷ [])
    ∷ (answer_shown (read_answer three 13) is 0 ∷ 0 ∷ [])
    ∷ (answer_shown (read_answer three 14) is 0 ∷ 0 ∷ [])
    ∷ []

-- the numbers of the table of refusals, and what is told of a refusal of the bytes as a whole
unfoldable pub of_refusals : List Pair
of_refusals =
    (number_of TooShort ∷ number_of OtherVersion ∷ number_of FalseLength ∷ number_of TooLong ∷ number_of NoHeight ∷ [] is 1 ∷ 2 ∷ 3 ∷ 4 ∷ 5 ∷ [])
    ∷ (number_of BrokenRecord ∷ number_of NoProcess ∷ number_of Busy ∷ number_of Idle ∷ number_of Full ∷ [] is 6 ∷ 7 ∷ 8 ∷ 9 ∷ 10 ∷ [])
    ∷ (number_of NoRoom ∷ number_of NoCut ∷ number_of DrawerTooLong ∷ [] is 11 ∷ 12 ∷ 19 ∷ [])
    ∷ (number_told {T = ℕ} (Ok 5) ∷ number_told {T = ℕ} (Err Busy) ∷ [] is 0 ∷ 8 ∷ [])
    ∷ (number_of (of_whole TooLong).refusal ∷ (of_whole TooLong).place ∷ [] is 4 ∷ 0 ∷ [])
    ∷ []

-- "The writer lays one event at the front of a lent buffer, 3 or 7 bytes; bytes after them stay. With less room it answers refusal 11."
unfoldable pub of_writer : List Pair
of_writer =
    (answer_shown (write_answer (Read 7) 3) is 0 ∷ 3 ∷ [])
    ∷ (answer_shown (write_answer (Read 7) 2) is 11 ∷ 3 ∷ [])
    ∷ (answer_shown (write_answer (Add 7 5) 8) is 0 ∷ 7 ∷ [])
    ∷ (answer_shown (write_answer (Add 7 5) 6) is 11 ∷ 7 ∷ [])
    ∷ (write_buffer (Read 7) (replicate 4 238) is 2 ∷ 2 ∷ 7 ∷ 238 ∷ [])
    ∷ (write_buffer (Read 7) (replicate 3 238) is 2 ∷ 2 ∷ 7 ∷ [])
    ∷ (write_buffer (Read 7) (replicate 2 238) is 238 ∷ 238 ∷ [])
    ∷ (answer_shown (written_answer (Ok 3)) is 0 ∷ 3 ∷ [])
    ∷ (answer_shown (written_answer (needs_room 7)) is 11 ∷ 7 ∷ [])
    ∷ []

unfoldable pub of_run : List Pair
of_run =
    -- L's four bytes
    (head_refusal highest_shape (1 ∷ 1 ∷ 0 ∷ 0 ∷ 1 ∷ 1 ∷ []) ∷ head_refusal highest_shape (1 ∷ 0 ∷ 1 ∷ 0 ∷ 1 ∷ 1 ∷ []) ∷ [] is 3 ∷ 3 ∷ [])
    -- the tree of 8 processes
    ∷ (processes 3 ∷ leaf_of 3 5 ∷ left 5 ∷ right 5 ∷ parent 10 ∷ parent 11 ∷ root ∷ [] is 8 ∷ 13 ∷ 10 ∷ 11 ∷ 5 ∷ 5 ∷ 1 ∷ [])
    ∷ (child 5 0 ∷ child 5 1 ∷ [] is 10 ∷ 11 ∷ [])
    -- the kinds of shape 0, and the value that everything starts at
    ∷ (among (0 ∷ 1 ∷ 2 ∷ 3 ∷ 4 ∷ []) (λ kind. is_one_of kind (numbered 0).kinds) is 1 ∷ 2 ∷ 3 ∷ [])
    ∷ ((numbered 0).begins ∷ [] is 0 ∷ [])
    ∷ (ancestor 0 13 ∷ ancestor 1 13 ∷ ancestor 2 13 ∷ ancestor 3 13 ∷ [] is 13 ∷ 6 ∷ 3 ∷ 1 ∷ [])
    -- Operation 1,024 passes, 1,025 is refused by 10: a recording of so many is too large to compute here. 7, 8 and 9 before 10.
    ∷ (record_refusal (tree 1) (counted 1023) (Read 0) ∷ record_refusal (tree 1) (counted 1023) (Add 1 5) ∷ [] is 0 ∷ 0 ∷ [])
    ∷ (record_refusal (tree 1) (counted 1024) (Read 0) ∷ record_refusal (tree 1) (counted 1024) (Add 1 5) ∷ [] is 10 ∷ 10 ∷ [])
    ∷ (record_refusal (tree 1) full (Read 1) ∷ record_refusal (tree 1) full (Read 0) ∷ record_refusal (tree 1) full (Add 2 5) ∷ [] is 10 ∷ 8 ∷ 7 ∷ [])
    ∷ (record_refusal (tree 1) full (Step 0) ∷ record_refusal (tree 1) full (Step 1) ∷ record_refusal (tree 1) full (Step 2) ∷ [] is 0 ∷ 9 ∷ 7 ∷ [])
    -- of each operation its delta, the records before its start and before its last step
    ∷ (spans 3 after_d is 7 ∷ 0 ∷ 9 ∷ 5 ∷ 5 ∷ 15 ∷ 0 ∷ 10 ∷ 11 ∷ [])
    -- 0 alone has four steps to take, then it is idle
    ∷ (stepped (alone (tree 1) 0 0 after_f) is 1 ∷ 2 ∷ 10 ∷ [])
    ∷ (stepped (alone (tree 1) 0 3 after_f) is 1 ∷ 5 ∷ 13 ∷ [])
    ∷ (stepped (alone (tree 1) 0 4 after_f) is 0 ∷ 6 ∷ 14 ∷ [])
    ∷ (stepped (alone (tree 1) 0 10 after_f) is 0 ∷ 6 ∷ 14 ∷ [])
    ∷ []

unfoldable pub of_history : List Pair
of_history =
    (tells 0 is_root_read each is 1 ∷ [])
    ∷ (tells 0 is_leaf_write each is 3 ∷ [])
    ∷ (component_of (writes_leaf 4) ∷ component_of (reads_leaf 4) ∷ component_of (stores first 2) ∷ [] is 4 ∷ 0 ∷ 0 ∷ [])
    ∷ (tells 0 (is_read_of 4) each is 6 ∷ 10 ∷ [])
    ∷ (tells 0 (is_read_of 5) each is 7 ∷ 10 ∷ [])
    ∷ (tells 0 (is_read_of 2) each ++ tells 0 (is_read_of 3) each ++ tells 0 (is_read_of 6) each is [])
    ∷ (tells 0 (is_store_at 2) each is 8 ∷ 9 ∷ [])
    ∷ (tells 0 (is_store_at 1) each ++ tells 0 (is_store_at 3) each is [])
    ∷ (tells 0 is_second_link each is 5 ∷ [])
    -- only what was seen, or the step, is another
    ∷ (process_shown (saw_it 9 some) is 2 ∷ 3 ∷ 1 ∷ 4 ∷ 9 ∷ 6 ∷ 7 ∷ 8 ∷ [])
    ∷ (process_shown (saw_children 0 1 (λ c. 10 + c) some) is 2 ∷ 3 ∷ 1 ∷ 4 ∷ 5 ∷ 10 ∷ 7 ∷ 8 ∷ [])
    ∷ (process_shown (saw_children 1 1 (λ c. 10 + c) some) is 2 ∷ 3 ∷ 1 ∷ 4 ∷ 5 ∷ 6 ∷ 11 ∷ 8 ∷ [])
    ∷ (process_shown (saw_children 0 2 (λ c. 10 + c) some) is 2 ∷ 3 ∷ 1 ∷ 4 ∷ 5 ∷ 10 ∷ 11 ∷ 8 ∷ [])
    ∷ (process_shown (at_step 9 some) is 9 ∷ 3 ∷ 1 ∷ 4 ∷ 5 ∷ 6 ∷ 7 ∷ 8 ∷ [])
    -- the latest first: 0's leaf read, its start as operation 1, 1's start as operation 0
    ∷ (entries (state_after (outcome (recording 14 (reads 1 ∷ adds 0 5 ∷ step 0 ∷ [])))).history
    is 0 ∷ 1 ∷ 0 ∷ 2 ∷ 0 ∷ 1 ∷ 0 ∷ 2 ∷ 1 ∷ 0 ∷ 0 ∷ 1 ∷ [])
    -- "from the start up to, but without, the operation's last step; for an unfinished one, up to the end"
    ∷ (among (0 ∷ 1 ∷ 2 ∷ 3 ∷ 4 ∷ 5 ∷ []) (during (span true)) is 2 ∷ 3 ∷ [])
    ∷ (among (0 ∷ 1 ∷ 2 ∷ 3 ∷ 4 ∷ 5 ∷ []) (during (span false)) is 2 ∷ 3 ∷ 4 ∷ 5 ∷ [])
    ∷ []

-- "One plain number from 0, run down that list modulo 2^32"; the texts
unfoldable pub of_list : List Pair
of_list =
    (number_after (rows 1) 5 ∷ number_after (rows 2) 5 ∷ [] is 7 ∷ 5 ∷ [])
    ∷ (run_down rows 3 [] ∷ run_down rows 0 (1 ∷ 2 ∷ []) ∷ run_down rows 0 (1 ∷ 0 ∷ 1 ∷ []) ∷ [] is 3 ∷ 2 ∷ 3 ∷ [])
    ∷ (up_to 2 (3 ∷ 1 ∷ 2 ∷ 0 ∷ []) is 3 ∷ 1 ∷ [])
    ∷ (up_to 9 (3 ∷ 1 ∷ []) is 3 ∷ 1 ∷ [])
    ∷ (times_in 2 (2 ∷ 1 ∷ 2 ∷ []) ∷ times_in 0 (2 ∷ 1 ∷ []) ∷ [] is 2 ∷ 0 ∷ [])
    ∷ (text "a b\n" is 97 ∷ 32 ∷ 98 ∷ 10 ∷ [])
    ∷ (decimal 0 ++ decimal 9 ++ decimal 10 is 48 ∷ 57 ∷ 49 ∷ 48 ∷ [])
    ∷ (decimal 4294967295 is 52 ∷ 50 ∷ 57 ∷ 52 ∷ 57 ∷ 54 ∷ 55 ∷ 50 ∷ 57 ∷ 53 ∷ [])
    ∷ []

unfoldable pub pairs : List Pair
pairs = of_sets ++ (of_cells ++ (of_records ++ (of_refusals ++ (of_writer ++ (of_run ++ (of_history ++ of_list))))))

-- ---- the longest recordings, which take a second to compute

unfoldable pub of_length : List Pair
of_length =
    -- 65,536 bytes pass; version 2 before 65,537 bytes
    (head_refusal highest_shape (long (0 ∷ 0 ∷ 255 ∷ 251 ∷ []) 1 65530) ∷ head_refusal highest_shape (2 ∷ replicate 65536 0) ∷ [] is 0 ∷ 2 ∷ [])
    -- 65,537 bytes with a false L; of which the program takes in all
    ∷ (printed (1 ∷ replicate 65536 0) is text "refused 4 0\n")
    ∷ []
