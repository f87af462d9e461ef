-- How a run ends, and the room that it is lent.
use Rattle.std.specs.Prelude.{ℕ, ◌+◌, ◌*◌, ◌^◌, ◌≤◌, ◌<◌, ◌≡◌, Bool, true, false, List, [], length, get_or, Result, Ok, Err}
use Rattle.arrays.specs.Numbers.{numbers_of}
use Rattle.refusals.specs.Table.{number_of}
use Rattle.refusals.specs.declared.Refused.{Refused}
use Rattle.recording.specs.Record.{Answer}
use Rattle.recording.specs.declared.Event.{Event}
use Rattle.recording.specs.declared.Event.TheVariants.{Step, Read, Add}
use Rattle.meaning.specs.Tree.{root}
use Rattle.meaning.specs.Shape.{Form}
use Rattle.meaning.specs.Layout.{first_record, longest_recording, form_of}
use Rattle.meaning.specs.Run.{State, most_operations, Outcome, refused, accepted, outcome}
use Rattle.meaning.specs.Contention.{contention}
use Rattle.meaning.specs.TakenIn.{rank}
use Rattle.rows.specs.Rows.{row_numbers}
use Rattle.keeping.specs.Keeping.{Lent, Enough}
use Rattle.engine.specs.declared.Accepted.{Accepted}

-- what a start record starts
unfoldable pub adds_of : Event → Bool
adds_of (Step p) = false
adds_of (Read p) = false
adds_of (Add p d) = true

unfoldable pub delta_of : Event → ℕ
delta_of (Step p) = 0
delta_of (Read p) = 0
delta_of (Add p d) = d

-- the refusal of that number at that place, and that the place lies within the longest recording
pub record Refuses (number place : ℕ) (r : Refused) : Type 0 where
  pub its : number_of r.refusal ≡ number
  pub there : r.place ≡ place
  pub within : r.place ≤ longest_recording

-- A run over so many bytes ends as the definition's: with the refusal, or with the operations, the counter and, where a report is asked for, their rows' numbers.
pub data Ends (asked : Bool) (F : Form) (size : ℕ) (rows : ℕ → ℕ) : Result Accepted Refused → Outcome → Type 0 where
  refuses : {a : Answer} {r : Refused} → Refuses a.number a.place r → Ends asked F size rows (Err r) (refused a)
  accepts : {st : State} {r : Accepted} → r.operations ≡ st.operations → r.counter ≡ st.memory.value root → st.operations ≤ most_operations → 3 * st.operations + first_record ≤ size
      → (asked ≡ true → (i j : ℕ) → i < st.operations → j < 5 → rows (5 * i + j) ≡ get_or (row_numbers (st.row i) (contention (st.row i) st.history) (rank F st.history i)) j 0) → Ends asked F size rows (Ok r) (accepted st)

-- a recording alone, where no report is asked for
abbrev pub EndsAlone : List ℕ → Result Accepted Refused → Type 0
EndsAlone s r = Ends false (form_of s) (length s) (numbers_of []) r (outcome s)

-- Room for what a report of s keeps: a row of read counts for each process; waiters and rows for every operation that s has bytes for.
pub record RoomFor (s : List ℕ) (h : ℕ) (l : Lent) : Type 0 where
  pub readers : 2 ^ h ≤ l.readers
  pub enough : Enough l
  pub operations : (m : ℕ) → m ≤ most_operations → 3 * m + first_record ≤ length s → m ≤ l.waiters

-- Room for what a report of any recording keeps.
pub record RoomForAny (l : Lent) : Type 0 where
  pub readers : 64 ≤ l.readers
  pub enough : Enough l
  pub operations : most_operations ≤ l.waiters
  pub processes : 64 ≤ l.processes
