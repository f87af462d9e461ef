-- The report, and the answers of report and check.
use Rattle.std.specs.Prelude.{ℕ, zero, suc, ◌+◌, ◌*◌, Bool, cond, List, [], ◌∷◌, ◌++◌, length, drop, leb}
use Rattle.recording.specs.Numbers.{four_bytes}
use Rattle.recording.specs.Record.{Answer}
use Rattle.meaning.specs.Layout.{form_of}
use Rattle.meaning.specs.Tree.{root}
use Rattle.meaning.specs.Shape.{Form}
use Rattle.meaning.specs.Run.{Row, State, most_operations, Outcome, refused, accepted, outcome}
use Rattle.meaning.specs.Contention.{contention}
use Rattle.meaning.specs.TakenIn.{rank}

unfoldable pub one : Bool → ℕ
one b = cond b 1 0

-- the columns of a row, by their bytes
unfoldable pub row_bytes : Row → ℕ → ℕ → List ℕ
row_bytes w contention rank =
    (w.process ∷ w.kind ∷ one w.finished ∷ contention ∷ [])
    ++ (four_bytes w.steps ++ (four_bytes w.answer ++ (four_bytes rank ++ four_bytes w.seconds)))

-- the rows of the first k operations, in order of start
unfoldable pub rows_bytes : Form → State → ℕ → List ℕ
rows_bytes F st zero = []
rows_bytes F st (suc k) = rows_bytes F st k ++ row_bytes (st.row k) (contention (st.row k) st.history) (rank F st.history k)

-- a row's bytes
abbrev pub row_length : ℕ
row_length = 20

-- "Byte 0: version 1. Bytes 1 to 4: 4 + 20m. Bytes 5 to 8: value of node 1 at the end. Then one row of 20 bytes for each operation."
unfoldable pub report_bytes : Form → State → List ℕ
report_bytes F st =
    1 ∷ four_bytes (4 + row_length * st.operations)
    ++ (four_bytes (st.memory.value root) ++ rows_bytes F st st.operations)

unfoldable pub needed : State → ℕ
needed st = 9 + row_length * st.operations

abbrev pub longest_report : ℕ
longest_report = 9 + row_length * most_operations

-- "Acceptance is answered by number 0, place 0."
unfoldable pub passes : Answer
passes = record { number = 0; place = 0 }

-- "11: report buffer shorter than 9 + 20m bytes", tried "after the whole recording has passed"
unfoldable pub answer_with : Outcome → ℕ → Answer
answer_with (refused a) room = a
answer_with (accepted st) room = cond (leb (needed st) room) passes (record { number = 11; place = needed st })

-- "Every refusal leaves the whole report buffer unwritten"; "buffer bytes after 9 + 20m stay as they were"
unfoldable pub buffer_with : Form → Outcome → List ℕ → List ℕ
buffer_with F (refused a) buf = buf
buffer_with F (accepted st) buf = cond (leb (needed st) (length buf)) (report_bytes F st ++ drop (needed st) buf) buf

-- what report answers to a recording and a buffer, and the buffer afterwards
unfoldable pub report_answer : List ℕ → List ℕ → Answer
report_answer s buf = answer_with (outcome s) (length buf)

unfoldable pub report_buffer : List ℕ → List ℕ → List ℕ
report_buffer s buf = buffer_with (form_of s) (outcome s) buf

-- Check "answers what report would answer with room enough".
unfoldable pub check_with : Outcome → Answer
check_with (refused a) = a
check_with (accepted st) = passes

unfoldable pub check_answer : List ℕ → Answer
check_answer s = check_with (outcome s)
