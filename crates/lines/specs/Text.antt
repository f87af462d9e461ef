-- The text of a report, told by the report's bytes b.
use Rattle.std.specs.Prelude.{ℕ, zero, suc, ◌+◌, ◌*◌, ◌/◌, cond, List, [], ◌∷◌, ◌++◌, get_or, eqb}
use Rattle.recording.specs.Numbers.{number_at}
use Rattle.meaning.specs.Report.{row_length}
use Rattle.meaning.specs.Printed.{text, decimal, line}

unfoldable pub kind_text : ℕ → List ℕ
kind_text kind = cond (eqb kind 2) (text "read") (text "add")

-- a space and a number
unfoldable pub field : ℕ → List ℕ
field n = text " " ++ decimal n

-- the line of the row that begins at a place
unfoldable pub row_text : List ℕ → ℕ → List ℕ
row_text b at =
    line
    (decimal (get_or b at 0)
    ∷ kind_text (get_or b (at + 1) 0)
    ∷ decimal (get_or b (at + 2) 0)
    ∷ decimal (get_or b (at + 3) 0)
    ∷ decimal (number_at b (at + 4))
    ∷ decimal (number_at b (at + 8))
    ∷ decimal (number_at b (at + 12))
    ∷ decimal (number_at b (at + 16))
    ∷ [])

-- the columns of one byte, and the rest of the line
unfoldable pub bytes_text : List ℕ → ℕ → List ℕ
bytes_text b at = decimal (get_or b at 0) ++ (text " " ++ kind_text (get_or b (at + 1) 0)) ++ field (get_or b (at + 2) 0) ++ field (get_or b (at + 3) 0)

unfoldable pub numbers_text : List ℕ → ℕ → List ℕ
numbers_text b at = field (number_at b (at + 4)) ++ field (number_at b (at + 8)) ++ field (number_at b (at + 12)) ++ field (number_at b (at + 16)) ++ text "\n"

-- the lines of the first k rows
unfoldable pub row_texts : List ℕ → ℕ → List ℕ
row_texts b zero = []
row_texts b (suc k) = row_texts b k ++ row_text b (9 + row_length * k)

-- the line before them
unfoldable pub first_text : ℕ → ℕ → List ℕ
first_text operations counter = line (text "operations" ∷ decimal operations ∷ text "counter" ∷ decimal counter ∷ [])

-- the whole text; bytes 1 to 4 tell how many rows there are
unfoldable pub report_text : List ℕ → List ℕ
report_text b = first_text (number_at b 1 / row_length) (number_at b 5) ++ row_texts b (number_at b 1 / row_length)

unfoldable pub refusal_text : ℕ → ℕ → List ℕ
refusal_text number place = line (text "refused" ∷ decimal number ∷ decimal place ∷ [])
