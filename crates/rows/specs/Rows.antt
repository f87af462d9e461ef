-- A row as numbers, and all rows as one array of them. The report is the bytes of these numbers in order.
use Rattle.std.specs.Prelude.{ℕ, zero, suc, ◌+◌, ◌*◌, ◌/◌, ◌%◌, ◌^◌, ◌<◌, Bool, cond, ◌&&◌, List, [], ◌∷◌, ◌++◌, get_or, take, drop, ltb, eqb}
use Rattle.recording.specs.Numbers.{four_bytes}
use Rattle.meaning.specs.Run.{Row, most_operations}
use Rattle.meaning.specs.Report.{one, row_length}
use Rattle.arrays.specs.Numbers.{numbers_in_row, row_from, steps_in, rank_in, seconds_in}

-- bytes 0 to 3 of a row as one number
unfoldable pub head : ℕ → ℕ → ℕ → ℕ → ℕ
head process kind finished contention = process * 2 ^ 24 + kind * 2 ^ 16 + finished * 2 ^ 8 + contention

-- the numbers of a row
unfoldable pub row_numbers : Row → ℕ → ℕ → List ℕ
row_numbers w contention rank = head w.process w.kind (one w.finished) contention ∷ w.steps ∷ w.answer ∷ rank ∷ w.seconds ∷ []

-- f, but these numbers as row i
unfoldable pub with_row : (ℕ → ℕ) → ℕ → List ℕ → ℕ → ℕ
with_row f i ns j = cond (eqb (j / numbers_in_row) i) (get_or ns (j % numbers_in_row) 0) (f j)

-- a row right after its start record; its contention is not put in before it finishes
unfoldable pub fresh_numbers : ℕ → ℕ → List ℕ
fresh_numbers process kind = head process kind 0 0 ∷ 0 ∷ 0 ∷ 0 ∷ 0 ∷ []

-- row i of f after one more step; the last one puts the contention in
unfoldable pub stepped_numbers : (ℕ → ℕ) → ℕ → Bool → ℕ → ℕ → Bool → List ℕ
stepped_numbers f i finished contention answer second =
    (f (row_from i) + one finished * (2 ^ 8 + contention)) ∷ (f (row_from i + steps_in) + 1) ∷ answer ∷ f (row_from i + rank_in) ∷ (f (row_from i + seconds_in) + one second) ∷ []

-- room for that in each number
pub record RoomToStep (f : ℕ → ℕ) (i : ℕ) : Type 0 where
  pub row : i < most_operations
  pub head : f (row_from i) + 2 ^ 9 < 2 ^ 32
  pub steps : f (row_from i + steps_in) + 1 < 2 ^ 32
  pub seconds : f (row_from i + seconds_in) + 1 < 2 ^ 32

-- ---- the end: each unfinished row gets the contention that is kept for its process

-- of a row's first number: whether it is finished, and its process
unfoldable pub unfinished_by : ℕ → Bool
unfinished_by n = eqb (n / 2 ^ 8 % 2 ^ 8) 0

unfoldable pub process_by : ℕ → ℕ
process_by n = n / 2 ^ 24

-- the first number of an unfinished row with the contention of its process put in
unfoldable pub closed_number : (ℕ → ℕ) → ℕ → ℕ
closed_number greatest n = n + cond (unfinished_by n) (greatest (process_by n)) 0

-- f, but with the first k rows closed
unfoldable pub closed : (ℕ → ℕ) → ℕ → (ℕ → ℕ) → ℕ → ℕ
closed greatest k f j = cond (ltb j (row_from k) && eqb (j % numbers_in_row) 0) (closed_number greatest (f j)) (f j)

-- room for that in the first numbers of m rows, each of a process of which a contention is kept
pub record RoomToClose (f : ℕ → ℕ) (m size : ℕ) : Type 0 where
  pub process : (i : ℕ) → i < m → process_by (f (row_from i)) < size
  pub head : (i : ℕ) → i < m → f (row_from i) + 2 ^ 8 < 2 ^ 32

-- ---- the bytes

-- the bytes of the first k numbers of f
unfoldable pub numbers_bytes : (ℕ → ℕ) → ℕ → List ℕ
numbers_bytes f zero = []
numbers_bytes f (suc k) = numbers_bytes f k ++ four_bytes (f k)

-- a buffer with these bytes for its n from place at on
unfoldable pub laid_at : List ℕ → ℕ → ℕ → List ℕ → List ℕ
laid_at buf at n bytes = take at buf ++ bytes ++ drop (at + n) buf

-- a buffer with the report of m rows laid at its front
unfoldable pub laid_report : ℕ → ℕ → (ℕ → ℕ) → List ℕ → List ℕ
laid_report m counter f buf =
    1 ∷ four_bytes (4 + row_length * m) ++ (four_bytes counter ++ numbers_bytes f (row_from m)) ++ drop (9 + row_length * m) buf
