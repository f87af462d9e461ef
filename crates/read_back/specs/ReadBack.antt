-- Demand 3 as someone can try it who has the recording s and the report's bytes b alone, and runs no tree: every column is held to the
-- recording, the list is made of the rows' ranks, and the deltas are those of the start records.
use Rattle.std.specs.Prelude.{ℕ, zero, suc, ◌+◌, ◌-◌, ◌*◌, ◌/◌, max, ◌≤◌, ◌<◌, ◌≡◌, Bool, false, not, cond, ◌&&◌, List, [], ◌∷◌, ◌++◌, length, get_or, take, eqb, leb}
use Rattle.sets.specs.Processes.{count_below}
use Rattle.recording.specs.Numbers.{number_at}
use Rattle.recording.specs.declared.Event.TheVariants.{Step, Read, Add}
use Rattle.meaning.specs.Layout.{height, Records, end, broken, event, records_of}
use Rattle.meaning.specs.Steps.{upd}
use Rattle.meaning.specs.Run.{Row, blank}
use Rattle.meaning.specs.TakenIn.{position_of}
use Rattle.meaning.specs.Plain.{run_down, up_to, times_in}

-- ---- the report's bytes

-- where row i begins
unfoldable pub row_at : ℕ → ℕ
row_at i = 9 + 20 * i

-- m, of the length 4 + 20m
unfoldable pub operations_in : List ℕ → ℕ
operations_in b = (number_at b 1 - 4) / 20

unfoldable pub counter_in : List ℕ → ℕ
counter_in b = number_at b 5

unfoldable pub process_in : List ℕ → ℕ → ℕ
process_in b i = get_or b (row_at i) 0

unfoldable pub kind_in : List ℕ → ℕ → ℕ
kind_in b i = get_or b (row_at i + 1) 0

unfoldable pub finished_in : List ℕ → ℕ → ℕ
finished_in b i = get_or b (row_at i + 2) 0

unfoldable pub contention_in : List ℕ → ℕ → ℕ
contention_in b i = get_or b (row_at i + 3) 0

unfoldable pub steps_in : List ℕ → ℕ → ℕ
steps_in b i = number_at b (row_at i + 4)

unfoldable pub answer_in : List ℕ → ℕ → ℕ
answer_in b i = number_at b (row_at i + 8)

unfoldable pub rank_in : List ℕ → ℕ → ℕ
rank_in b i = number_at b (row_at i + 12)

unfoldable pub seconds_in : List ℕ → ℕ → ℕ
seconds_in b i = number_at b (row_at i + 16)

-- ---- the list

-- the rows below m that have rank r: all of them, if there is more than one
unfoldable pub with_rank : (ℕ → ℕ) → ℕ → ℕ → List ℕ
with_rank rank r zero = []
with_rank rank r (suc m) = with_rank rank r m ++ cond (eqb (rank m) r) (m ∷ []) []

-- the rows below m in the order of their ranks, which go from 1 to n
unfoldable pub by_rank : (ℕ → ℕ) → ℕ → ℕ → List ℕ
by_rank rank m zero = []
by_rank rank m (suc n) = by_rank rank m n ++ with_rank rank (suc n) m

unfoldable pub list_in : List ℕ → List ℕ
list_in b = by_rank (rank_in b) (operations_in b) (operations_in b)

-- ---- the start records

-- a row of which only process, kind and delta are told
unfoldable pub start_row : ℕ → ℕ → ℕ → Row
start_row p kind delta =
    record { process = p; kind = kind; delta = delta; finished = false; steps = 0; answer = 0; seconds = 0; started = 0; ended = 0 }

-- those of the start records in their order, which is the rows'; a read's delta is 0
unfoldable pub starts_of : Records → List Row
starts_of end = []
starts_of (broken at) = []
starts_of (event at (Step p) rest) = starts_of rest
starts_of (event at (Read p) rest) = start_row p 2 0 ∷ starts_of rest
starts_of (event at (Add p d) rest) = start_row p 3 d ∷ starts_of rest

-- what start record i, from 0, tells of row i
unfoldable pub start_in : List ℕ → ℕ → Row
start_in s i = get_or (starts_of (records_of s)) i blank

-- ---- which operation each record is of

-- after m starts, with the operation that each process started last: a step is of that one
unfoldable pub operations_from : ℕ → (ℕ → ℕ) → Records → List ℕ
operations_from m latest end = []
operations_from m latest (broken at) = []
operations_from m latest (event at (Step p) rest) = latest p ∷ operations_from m latest rest
operations_from m latest (event at (Read p) rest) = m ∷ operations_from (suc m) (upd latest p m) rest
operations_from m latest (event at (Add p d) rest) = m ∷ operations_from (suc m) (upd latest p m) rest

-- from the first record on; a process that has started nothing takes no step, so that its 0 is never taken
unfoldable pub operations_by : List ℕ → List ℕ
operations_by s = operations_from 0 (λ p. 0) (records_of s)

-- ---- how many operations are under way at once, told by the starts, each operation's last record and the finished column

-- whether operation i is under way after the first k records: one of them is its start, and its last record, if that finished it, is to come
unfoldable pub under_way : List ℕ → List ℕ → ℕ → ℕ → Bool
under_way b all k i =
    leb 1 (times_in i (take k all)) && not (eqb (finished_in b i) 1 && eqb (times_in i (take k all)) (times_in i all))

unfoldable pub at_once : List ℕ → List ℕ → ℕ → ℕ
at_once b all k = count_below (operations_in b) (under_way b all k)

-- the greatest number at once, over those of the first k records after which operation i is under way
unfoldable pub most_at_once : List ℕ → List ℕ → ℕ → ℕ → ℕ
most_at_once b all i zero = 0
most_at_once b all i (suc k) = max (most_at_once b all i k) (cond (under_way b all (suc k) i) (at_once b all (suc k)) 0)

-- ---- demand 3

pub record ReadBack (s b : List ℕ) : Type 0 where
  -- "Byte 0: version 1. Bytes 1 to 4: 4 + 20m. [..] Then one row of 20 bytes for each operation in order of start"
  pub header : (get_or b 0 0 ≡ 1) × (number_at b 1 ≡ 4 + 20 * operations_in b)
  pub rows : operations_in b ≡ length (starts_of (records_of s))
  pub process : (i : ℕ) → i < operations_in b → process_in b i ≡ (start_in s i).process
  pub kind : (i : ℕ) → i < operations_in b → kind_in b i ≡ (start_in s i).kind
  pub either : (i : ℕ) → i < operations_in b → finished_in b i ≤ 1
  -- "Each operation's count of steps is the number of kind 1 records it used": its records are these and its start record
  pub steps : (i : ℕ) → i < operations_in b → times_in i (operations_by s) ≡ 1 + steps_in b i
  -- "the greatest count of ones in the busy set right after any record from the start up to, but without, the operation's last step; for an
  -- unfinished one, up to the end": who is busy is who is under way
  pub contention : (i : ℕ) → i < operations_in b → contention_in b i ≡ most_at_once b (operations_by s) i (length (operations_by s))
  -- "8: a start for a process that is busy": where i's process starts again, i has finished
  pub again : (i j : ℕ) → i < j → j < operations_in b → process_in b i ≡ process_in b j → finished_in b i ≡ 1
  -- "One plain number from 0, run down that list modulo 2^32, gives every read its reported answer and ends at the root's value."
  pub answers : (i : ℕ) → i < operations_in b → kind_in b i ≡ 2 → finished_in b i ≡ 1 → answer_in b i ≡ run_down (start_in s) 0 (up_to i (list_in b))
  pub counter : run_down (start_in s) 0 (list_in b) ≡ counter_in b
  -- "a finished read's answer; otherwise 0"
  pub otherwise : (i : ℕ) → i < operations_in b → (kind_in b i ≡ 2 → finished_in b i ≡ 0) → answer_in b i ≡ 0
  -- "An operation's rank is its position, from 1": no rank is left out, and none above 0 stands in two rows
  pub ranks : (i : ℕ) → i < operations_in b → position_of i (list_in b) ≡ rank_in b i
  -- "Each finished operation is listed once, an unfinished one at most once"; an unfinished read never, nor an addition before its "write
  -- there [..], which is step 2"
  pub finished : (i : ℕ) → i < operations_in b → finished_in b i ≡ 1 → times_in i (list_in b) ≡ 1
  pub unfinished : (i : ℕ) → times_in i (list_in b) ≤ 1
  pub early : (i : ℕ) → i < operations_in b → finished_in b i ≡ 0 → steps_in b i < 2 → times_in i (list_in b) ≡ 0
  -- "One that finished before another started never stands after it": all of i's records come before j's first, its start
  pub order : (i j : ℕ) → i < operations_in b → j < operations_in b → finished_in b i ≡ 1 → times_in i (up_to j (operations_by s)) ≡ times_in i (operations_by s)
      → 1 ≤ rank_in b j → rank_in b i < rank_in b j
  -- "A finished read has 1", an unfinished one none; a read makes no attempt
  pub read_steps : (i : ℕ) → i < operations_in b → kind_in b i ≡ 2 → (steps_in b i ≡ finished_in b i) × (seconds_in b i ≡ 0)
  -- "A finished addition has 2 + 4h + 4f, where f is its number of second attempts, 0 to h."
  pub addition_steps : (i : ℕ) → i < operations_in b → finished_in b i ≡ 1 → kind_in b i ≡ 3 → steps_in b i ≡ 2 + 4 * height s + 4 * seconds_in b i
  -- f finished or not: "0 to h"; its last LL is step 8f − 1 or later, after two at the leaf, eight at each node before and four at this; and
  -- no step is beside the leaf's two and the four of each attempt
  pub seconds : (i : ℕ) → i < operations_in b → (seconds_in b i ≤ height s) × (8 * seconds_in b i ≤ steps_in b i + 1) × (steps_in b i ≤ 2 + 4 * height s + 4 * seconds_in b i)
  -- "No addition has taken 2 + 8h steps and is still unfinished"
  pub bound : (i : ℕ) → i < operations_in b → finished_in b i ≡ 0 → steps_in b i < 2 + 8 * height s
