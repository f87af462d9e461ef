-- The run over the records: starts, steps, the row and the history that they leave, and refusals 7 to 10.
use Rattle.std.specs.Prelude.{ℕ, zero, suc, ◌+◌, Bool, true, false, not, cond, ◌&&◌, List, [], ◌∷◌, length, leb, eqb}
use Rattle.sets.specs.Processes.{nobody, count_below}
use Rattle.recording.specs.Record.{Answer}
use Rattle.recording.specs.declared.Event.{Event}
use Rattle.recording.specs.declared.Event.TheVariants.{Step, Read, Add}
use Rattle.meaning.specs.Refusals.{◌when◌, first_of}
use Rattle.meaning.specs.Layout.{head_refusal, form_of, Records, end, broken, event, records_of}
use Rattle.meaning.specs.Tree.{processes}
use Rattle.meaning.specs.Access.{Access, starts, is_root_read, is_second_link}
use Rattle.meaning.specs.Shape.{Form, highest_shape}
use Rattle.meaning.specs.Steps.{upd, Memory, Process, idle, Effect, effect, access_of, next_record}

-- What one record of the recording did: which process, for which operation, what, whether that was an SC that succeeded, and how many
-- processes are busy right after it.
pub record Entry : Type 0 where
  pub process : ℕ
  pub operation : ℕ
  pub access : Access
  pub stored : Bool
  pub busy : ℕ

-- An operation's row but for its contention and its rank, which are told by the history. Kind is 2 or 3; started and ended are how many
-- records had been taken before its start record and before its latest step, the last if it is finished.
pub record Row : Type 0 where
  pub process : ℕ
  pub kind : ℕ
  pub delta : ℕ
  pub finished : Bool
  pub steps : ℕ
  pub answer : ℕ
  pub seconds : ℕ
  pub started : ℕ
  pub ended : ℕ

-- The state after some records: the memory, each process's record, how many operations have started, their rows by number from 0, and
-- what each record did, the latest first.
pub record State : Type 0 where
  pub memory : Memory
  pub process : ℕ → Process
  pub operations : ℕ
  pub row : ℕ → Row
  pub history : List Entry

unfoldable pub blank : Row
blank = record { process = 0; kind = 0; delta = 0; finished = false; steps = 0; answer = 0; seconds = 0; started = 0; ended = 0 }

-- "All values start at 0 and all link sets empty."
unfoldable pub initial : Form → State
initial F =
    record {
      memory = record { value = λ x. F.shape.begins; linked = λ x. nobody };
      process = λ p. idle;
      operations = 0;
      row = λ i. blank;
      history = [];
    }

-- "A process is busy from its start record to its last step."
unfoldable pub busy : (ℕ → Process) → ℕ → Bool
busy process p = not (eqb (process p).step 0)

-- the count of ones in the busy set
unfoldable pub busy_count : Form → (ℕ → Process) → ℕ
busy_count F process = count_below (processes F.height) (busy process)

-- ---- a start record

unfoldable pub started : ℕ → Bool → ℕ → Process
started i adds delta = record { step = 1; operation = i; adds = adds; delta = delta; seen = 0; children = λ c. 0 }

unfoldable pub kind_of : Bool → ℕ
kind_of adds = cond adds 3 2

unfoldable pub new_row : ℕ → Bool → ℕ → ℕ → Row
new_row p adds delta now =
    record {
      process = p;
      kind = kind_of adds;
      delta = delta;
      finished = false;
      steps = 0;
      answer = 0;
      seconds = 0;
      started = now;
      ended = 0;
    }

unfoldable pub start : Form → ℕ → Bool → ℕ → State → State
start F p adds delta st =
    let after : ℕ → Process = upd st.process p (started st.operations adds delta) in
    record {
      memory = st.memory;
      process = after;
      operations = suc st.operations;
      row = upd st.row st.operations (new_row p adds delta (length st.history));
      history = record { process = p; operation = st.operations; access = starts; stored = false; busy = busy_count F after } ∷ st.history;
    }

-- ---- a step

-- The row after one more step: "Each operation's count of steps is the number of kind 1 records it used"; "a finished read's answer;
-- otherwise 0"; "second attempts begun, that is, with their LL taken".
unfoldable pub row_after : Access → Process → ℕ → Row → Row
row_after a r now w =
    record {
      process = w.process;
      kind = w.kind;
      delta = w.delta;
      finished = eqb r.step 0;
      steps = suc w.steps;
      answer = cond (is_root_read a) r.seen 0;
      seconds = w.seconds + cond (is_second_link a) 1 0;
      started = w.started;
      ended = now;
    }

unfoldable pub take_step : Form → ℕ → State → State
take_step F p st =
    let r : Process = st.process p in
    let a : Access = access_of F p r in
    let f : Effect = effect F p r st.memory a in
    let r' : Process = next_record F p r f in
    let after : ℕ → Process = upd st.process p r' in
    record {
      memory = f.memory;
      process = after;
      operations = st.operations;
      row = upd st.row r.operation (row_after a r' (length st.history) (st.row r.operation));
      history = record { process = p; operation = r.operation; access = a; stored = f.stored; busy = busy_count F after } ∷ st.history;
    }

-- ---- the records, from first to last

unfoldable pub process_of : Event → ℕ
process_of (Step p) = p
process_of (Read p) = p
process_of (Add p d) = p

unfoldable pub is_start : Event → Bool
is_start (Step p) = false
is_start (Read p) = true
is_start (Add p d) = true

-- 10: "a start that would be operation 1,025"
abbrev pub most_operations : ℕ
most_operations = 1024

-- "each by 6, 7, then 8 or 9, then 10", where it is told whether the process is busy and how many operations have started; a record that 6
-- refuses has no event
unfoldable pub refusal_by : Form → Event → Bool → ℕ → ℕ
refusal_by F e is_busy started =
    first_of
    (7 when leb (processes F.height) (process_of e)
    ∷ 8 when (is_start e && is_busy)
    ∷ 9 when (not (is_start e) && not is_busy)
    ∷ 10 when (is_start e && leb most_operations started)
    ∷ [])

unfoldable pub record_refusal : Form → State → Event → ℕ
record_refusal F st e = refusal_by F e (busy st.process (process_of e)) st.operations

unfoldable pub take_event : Form → State → Event → State
take_event F st (Step p) = take_step F p st
take_event F st (Read p) = start F p false 0 st
take_event F st (Add p d) = start F p true d st

-- a recording is refused, or accepted with the state after its last record
pub data Outcome : Type 0 where
  refused : Answer → Outcome
  accepted : State → Outcome

-- the refusal at that place, or where its number is 0 what follows
unfoldable pub unless : ℕ → ℕ → Outcome → Outcome
unless zero at next = next
unless (suc k) at next = refused (record { number = suc k; place = at })

unfoldable pub run : Form → State → Records → Outcome
run F st end = accepted st
run F st (broken at) = refused (record { number = 6; place = at })
run F st (event at e rest) = unless (record_refusal F st e) at (run F (take_event F st e) rest)

unfoldable pub outcome : List ℕ → Outcome
outcome s = unless (head_refusal highest_shape s) 0 (run (form_of s) (initial (form_of s)) (records_of s))
