-- What the printing program prints.
use Rattle.std.specs.Prelude.{ℕ, zero, suc, ◌+◌, ◌/◌, ◌%◌, cond, List, [], ◌∷◌, ◌++◌, take, ltb, eqb}
use Prim.Native.Char.{code}
use Prim.Native.String.{String}
use Rattle.meaning.specs.Layout.{form_of}
use Rattle.meaning.specs.Tree.{root}
use Rattle.meaning.specs.Shape.{Form}
use Rattle.meaning.specs.Run.{Row, State, Outcome, refused, accepted, outcome}
use Rattle.meaning.specs.Contention.{contention}
use Rattle.meaning.specs.TakenIn.{rank}
use Rattle.meaning.specs.Report.{one}

-- the bytes of a text
unfoldable pub text : String → List ℕ
text String.[] = []
text (String.◌∷◌ c cs) = code c ∷ text cs

-- "All numbers are decimal": the digits of n, of which there are at most as many as the first number says, in front of the rest
unfoldable pub digits_of : ℕ → ℕ → List ℕ → List ℕ
digits_of zero n rest = rest
digits_of (suc most) n rest = cond (ltb n 10) ((48 + n) ∷ rest) (digits_of most (n / 10) ((48 + n % 10) ∷ rest))

-- no number of an answer or a report has more than ten digits
unfoldable pub decimal : ℕ → List ℕ
decimal n = digits_of 10 n []

-- "fields are parted by single spaces, and each line ends with a line feed"
unfoldable pub line : List (List ℕ) → List ℕ
line [] = text "\n"
line (f ∷ []) = f ++ text "\n"
line (f ∷ g ∷ fs) = f ++ (text " " ++ line (g ∷ fs))

-- "the columns in order, `read` or `add` for the kind"
unfoldable pub row_line : Row → ℕ → ℕ → List ℕ
row_line w contention rank =
    line
    (decimal w.process
    ∷ cond (eqb w.kind 2) (text "read") (text "add")
    ∷ decimal (one w.finished)
    ∷ decimal contention
    ∷ decimal w.steps
    ∷ decimal w.answer
    ∷ decimal rank
    ∷ decimal w.seconds
    ∷ [])

unfoldable pub row_lines : Form → State → ℕ → List ℕ
row_lines F st zero = []
row_lines F st (suc k) = row_lines F st k ++ row_line (st.row k) (contention (st.row k) st.history) (rank F st.history k)

-- "the word `refused`, the number and the place"; otherwise "`operations m counter v` and one line per row"
unfoldable pub printed_of : Form → Outcome → List ℕ
printed_of F (refused a) = line (text "refused" ∷ decimal a.number ∷ decimal a.place ∷ [])
printed_of F (accepted st) =
    line (text "operations" ∷ decimal st.operations ∷ text "counter" ∷ decimal (st.memory.value root) ∷ [])
    ++ row_lines F st st.operations

-- "It takes in at most 65,537 bytes; more would not change the answer."
unfoldable pub printed : List ℕ → List ℕ
printed s = let t : List ℕ = take 65537 s in printed_of (form_of t) (outcome t)

-- the line before each recording of a drawer: "its number, its offset in the file", the number from 1 on
unfoldable pub heading_of : ℕ → ℕ → List ℕ
heading_of number at = line (text "recording" ∷ decimal number ∷ text "offset" ∷ decimal at ∷ [])
