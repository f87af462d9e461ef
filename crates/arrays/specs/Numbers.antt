-- The numbers that are kept for a report's row: the first is made of the row's first four bytes, the others are its columns. All rows are one
-- function of numbers.
use Rattle.std.specs.Prelude.{ℕ, ◌*◌, ◌/◌, ◌%◌, List, [], ◌∷◌, get_or}
use Rattle.arrays.specs.declared.Row.{Row}

abbrev pub numbers_in_row : ℕ
numbers_in_row = 5

-- where row i begins
abbrev pub row_from : ℕ → ℕ
row_from i = numbers_in_row * i

-- how far behind that the other numbers stand
abbrev pub steps_in : ℕ
steps_in = 1

abbrev pub answer_in : ℕ
answer_in = 2

abbrev pub rank_in : ℕ
rank_in = 3

abbrev pub seconds_in : ℕ
seconds_in = 4

unfoldable pub numbers_in : Row → List ℕ
numbers_in r = r.head ∷ r.steps ∷ r.answer ∷ r.rank ∷ r.seconds ∷ []

unfoldable pub no_row : Row
no_row = record { head = 0; steps = 0; answer = 0; rank = 0; seconds = 0 }

-- an array of rows as the function of their numbers
unfoldable pub numbers_of : List Row → ℕ → ℕ
numbers_of rows j = get_or (numbers_in (get_or rows (j / numbers_in_row) no_row)) (j % numbers_in_row) 0
