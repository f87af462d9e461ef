-- The starred recordings A to F with the bytes of their reports under `ReadBack`: the columns as they stand in a report, and beside them
-- what the clauses make of the recording and of the other columns. An "at most" stands as a least of two, an "at least" as a greatest.
use Rattle.std.specs.Prelude.{ℕ, zero, suc, ◌+◌, ◌-◌, ◌*◌, ◌/◌, min, max, Bool, true, false, cond, ◌&&◌, ◌||◌, List, [], ◌∷◌, ◌++◌, length, get_or, drop, set, eqb, leb, ltb}
use Rattle.recording.specs.Numbers.{number_at}
use Rattle.meaning.specs.Layout.{height, records_of}
use Rattle.meaning.specs.TakenIn.{keep, position_of}
use Rattle.meaning.specs.Plain.{run_down, up_to, times_in}
use Rattle.meaning.specs.Report.{report_buffer}
use Rattle.meaning.specs.Starred.{Case, join, cases, lent}
use Rattle.read_back.specs.ReadBack.{row_at, operations_in, counter_in, process_in, kind_in, finished_in, contention_in, steps_in, answer_in, rank_in, seconds_in, list_in, starts_of, start_in, operations_by, most_at_once}

-- A to F are the last six of the starred cases
unfoldable pub lettered : List Case
lettered = drop 9 cases

-- the buffer after report
unfoldable pub bytes_of : Case → List ℕ
bytes_of c = report_buffer c.input lent

-- ---- the premises

unfoldable pub is_read : List ℕ → ℕ → Bool
is_read b i = eqb (kind_in b i) 2

unfoldable pub is_finished : List ℕ → ℕ → Bool
is_finished b i = eqb (finished_in b i) 1

-- whether a row after i and below k is of i's process
unfoldable pub starts_again : List ℕ → ℕ → ℕ → Bool
starts_again b i zero = false
starts_again b i (suc k) = starts_again b i k || (ltb i k && eqb (process_in b i) (process_in b k))

-- f of each row below k
unfoldable pub column : {A : Type 0} → (ℕ → A) → ℕ → List A
column f zero = []
column f (suc k) = column f k ++ (f k ∷ [])

-- whether i finished before j, which is listed, started
unfoldable pub is_before : List ℕ → List ℕ → ℕ → ℕ → Bool
is_before s b j i = is_finished b i && (eqb (times_in i (up_to j (operations_by s))) (times_in i (operations_by s)) && leb 1 (rank_in b j))

-- the rows that did
unfoldable pub before_in : List ℕ → List ℕ → ℕ → List ℕ
before_in s b j = keep (is_before s b j) (column (λ i. i) (operations_in b))

-- ---- a column by the clauses

-- a read's by its steps, that of a process that starts again 1; at most 1
unfoldable pub finished_by : List ℕ → ℕ → ℕ
finished_by b i = cond (is_read b i) (steps_in b i) (cond (starts_again b i (operations_in b)) 1 (min 1 (finished_in b i)))

-- by the starts, the last records and the finished column
unfoldable pub contention_by : List ℕ → List ℕ → ℕ → ℕ
contention_by s b i = most_at_once b (operations_by s) i (length (operations_by s))

-- the records of i but its start
unfoldable pub records_by : List ℕ → ℕ → ℕ
records_by s i = times_in i (operations_by s) - 1

-- by the height and the second attempts; an unfinished addition that is listed has two or more
unfoldable pub steps_by : ℕ → List ℕ → ℕ → ℕ
steps_by h b i =
    let most : ℕ = 2 + 4 * h + 4 * seconds_in b i in
    cond (is_read b i) (finished_in b i) (cond (is_finished b i) most (min (1 + 8 * h) (min most (max (2 * times_in i (list_in b)) (steps_in b i)))))

unfoldable pub seconds_by : ℕ → List ℕ → ℕ → ℕ
seconds_by h b i = cond (is_read b i) 0 (min h (min ((steps_in b i + 1) / 8) (seconds_in b i)))

unfoldable pub answer_by : List ℕ → List ℕ → ℕ → ℕ
answer_by s b i = cond (is_read b i && is_finished b i) (run_down (start_in s) 0 (up_to i (list_in b))) 0

-- r, but above the ranks of all in a list
unfoldable pub above : (ℕ → ℕ) → List ℕ → ℕ → ℕ
above rank [] r = r
above rank (i ∷ l) r = max (suc (rank i)) (above rank l r)

unfoldable pub rank_by : List ℕ → List ℕ → ℕ → ℕ
rank_by s b j = above (rank_in b) (before_in s b j) (rank_in b j)

-- how often i is listed
unfoldable pub times_by : List ℕ → ℕ → ℕ
times_by b i = cond (is_finished b i) 1 (min 1 (times_in i (list_in b)))

-- ---- the two sides

-- the report's head and columns, and how often its list has each operation; steps and rank are held twice
unfoldable pub stands : List ℕ → List (List ℕ)
stands b =
    let rows : (ℕ → ℕ) → List ℕ = λ f. column f (operations_in b) in
    (get_or b 0 0 ∷ number_at b 1 ∷ operations_in b ∷ counter_in b ∷ [])
    ∷ rows (process_in b)
    ∷ rows (kind_in b)
    ∷ rows (finished_in b)
    ∷ rows (contention_in b)
    ∷ rows (steps_in b)
    ∷ rows (steps_in b)
    ∷ rows (answer_in b)
    ∷ rows (rank_in b)
    ∷ rows (rank_in b)
    ∷ rows (seconds_in b)
    ∷ rows (λ i. times_in i (list_in b))
    ∷ []

-- the same by the clauses
unfoldable pub follows : List ℕ → List ℕ → List (List ℕ)
follows s b =
    let rows : (ℕ → ℕ) → List ℕ = λ f. column f (operations_in b) in
    (1 ∷ (4 + 20 * operations_in b) ∷ length (starts_of (records_of s)) ∷ run_down (start_in s) 0 (list_in b) ∷ [])
    ∷ rows (λ i. (start_in s i).process)
    ∷ rows (λ i. (start_in s i).kind)
    ∷ rows (finished_by b)
    ∷ rows (contention_by s b)
    ∷ rows (records_by s)
    ∷ rows (steps_by (height s) b)
    ∷ rows (answer_by s b)
    ∷ rows (λ i. position_of i (list_in b))
    ∷ rows (rank_by s b)
    ∷ rows (seconds_by (height s) b)
    ∷ rows (times_by b)
    ∷ []

-- who finished before each row of A to F started: in A the addition before the read, in D 7 before its process's read, in E one before two
unfoldable pub documented_before : List (List (List ℕ))
documented_before =
    ([] ∷ (0 ∷ []) ∷ [])
    ∷ ([] ∷ [] ∷ [])
    ∷ ([] ∷ [] ∷ [])
    ∷ ([] ∷ [] ∷ (0 ∷ []) ∷ [])
    ∷ ([] ∷ (0 ∷ []) ∷ [])
    ∷ ([] ∷ [] ∷ [])
    ∷ []

-- ---- changed reports

unfoldable pub is_same : List ℕ → List ℕ → Bool
is_same [] [] = true
is_same [] (y ∷ m) = false
is_same (x ∷ l) [] = false
is_same (x ∷ l) (y ∷ m) = eqb x y && is_same l m

-- whether the columns are what the clauses make of them
unfoldable pub is_held : List ℕ → List ℕ → Bool
is_held s b = is_same (join (stands b)) (join (follows s b))

-- one less at a byte, or 1 where it was 0
unfoldable pub changed : List ℕ → ℕ → List ℕ
changed b k = set b k (cond (eqb (get_or b k 0) 0) 1 (get_or b k 0 - 1))

-- the last byte of each column: version, length and counter, then by rows
unfoldable pub last_bytes : ℕ → List ℕ
last_bytes zero = 0 ∷ 4 ∷ 8 ∷ []
last_bytes (suc k) = last_bytes k ++ (row_at k ∷ (row_at k + 1) ∷ (row_at k + 2) ∷ (row_at k + 3) ∷ (row_at k + 7) ∷ (row_at k + 11) ∷ (row_at k + 15) ∷ (row_at k + 19) ∷ [])

-- those of a documented report whose change no clause refuses
unfoldable pub unnoticed : Case → List ℕ
unnoticed c = keep (λ k. is_held c.input (changed c.report k)) (last_bytes (operations_in c.report))

-- In A none, where the addition, were it still under way, would raise the read's contention. In each other one: the finished byte of an
-- addition with 2 + 4h steps that its process started last. Whether its SC at node 1 was the last or failed, with a second attempt to come,
-- is the tree's to say.
unfoldable pub documented_unnoticed : List (List ℕ)
documented_unnoticed =
    []
    ∷ ((row_at 0 + 2) ∷ [])
    ∷ ((row_at 0 + 2) ∷ [])
    ∷ ((row_at 1 + 2) ∷ [])
    ∷ ((row_at 1 + 2) ∷ [])
    ∷ ((row_at 1 + 2) ∷ [])
    ∷ []
