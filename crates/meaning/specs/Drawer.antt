-- A drawer: a shift's recordings end to end in one file, each answered "exactly as if run alone".
use Rattle.std.specs.Prelude.{ℕ, zero, suc, ◌+◌, ◌-◌, cond, ◌||◌, List, [], ◌∷◌, ◌++◌, length, take, drop, leb, ltb, eqb}
use Rattle.recording.specs.Numbers.{four_bytes, number_at}
use Rattle.recording.specs.Record.{Answer}
use Rattle.meaning.specs.Layout.{form_of}
use Rattle.meaning.specs.Shape.{Form}
use Rattle.meaning.specs.Run.{Outcome, refused, accepted, outcome}
use Rattle.meaning.specs.Report.{report_bytes, passes, check_answer}

-- ---- "The cut is by each L."

-- the bytes of a piece: L of them follow byte 4
unfoldable pub size_at : List ℕ → ℕ → ℕ
size_at s at = 5 + number_at s (at + 1)

-- what a cut finds at a place: nothing left, a piece of so many bytes, or that it fails
pub data Found : Type 0 where
  none : Found
  whole : (size : ℕ) → Found
  broken : Found

-- "if 1 to 4 bytes remain at a cut or L passes the end"
unfoldable pub found_at : List ℕ → ℕ → Found
found_at s at =
    cond (leb (length s) at) none
    (cond (ltb (length s - at) 5 || ltb (length s - at) (size_at s at)) broken
    (whole (size_at s at)))

-- the pieces in drawer order, or the offset of the first cut that fails
pub data Pieces : Type 0 where
  into : List (List ℕ) → Pieces
  fails : (at : ℕ) → Pieces

unfoldable pub also : List ℕ → Pieces → Pieces
also s (into ss) = into (s ∷ ss)
also s (fails at) = fails at

unfoldable pub onward : List ℕ → ℕ → Found → (ℕ → Pieces) → Pieces
onward s at none rest = into []
onward s at (whole size) rest = also (take size (drop at s)) (rest (at + size))
onward s at broken rest = fails at

-- the pieces from a place on, of which there are at most as many as the first number says
unfoldable pub pieces_from : ℕ → List ℕ → ℕ → Pieces
pieces_from zero s at = into []
pieces_from (suc most) s at = onward s at (found_at s at) (pieces_from most s)

-- The first cut is at byte 0; a piece takes five bytes at least, so there are no more pieces than bytes.
unfoldable pub pieces_of : List ℕ → Pieces
pieces_of s = pieces_from (length s) s 0

-- ---- "each exactly as if run alone"

-- the bytes of a piece's report: "a refused one adds no bytes there"
unfoldable pub report_with : Form → Outcome → List ℕ
report_with F (refused a) = []
report_with F (accepted st) = report_bytes F st

unfoldable pub report_of : List ℕ → List ℕ
report_of s = report_with (form_of s) (outcome s)

-- "5 bytes for each recording": "its refusal number, 0 if accepted, then four bytes of place, counted from that recording's own byte 0"
unfoldable pub mark_of : List ℕ → List ℕ
mark_of s = (check_answer s).number ∷ four_bytes (check_answer s).place

-- one after another, "in drawer order"
unfoldable pub joined : (List ℕ → List ℕ) → List (List ℕ) → List ℕ
joined f [] = []
joined f (s ∷ ss) = f s ++ joined f ss

-- ---- the answer for the whole

-- "19, place 0, before anything else, for a drawer above 16,777,216 bytes"
unfoldable pub longest_drawer : ℕ
longest_drawer = 16777216

-- "11 is given once for the whole drawer, place the bytes needed, for the report buffer first and then for the second one"
unfoldable pub answer_within : List (List ℕ) → ℕ → ℕ → Answer
answer_within ss room marks_room =
    cond (ltb room (length (joined report_of ss))) (record { number = 11; place = length (joined report_of ss) })
    (cond (ltb marks_room (length (joined mark_of ss))) (record { number = 11; place = length (joined mark_of ss) })
    passes)

-- "12 ..., place the offset of that cut"
unfoldable pub answer_cut : Pieces → ℕ → ℕ → Answer
answer_cut (fails at) room marks_room = record { number = 12; place = at }
answer_cut (into ss) room marks_room = answer_within ss room marks_room

unfoldable pub drawer_answer : List ℕ → List ℕ → List ℕ → Answer
drawer_answer s out marks =
    cond (ltb longest_drawer (length s)) (record { number = 19; place = 0 })
    (answer_cut (pieces_of s) (length out) (length marks))

-- ---- the two buffers

-- bytes at the front of a buffer: "Bytes after these stay in both."
unfoldable pub over : List ℕ → List ℕ → List ℕ
over new buf = new ++ drop (length new) buf

-- what the pieces give, once the whole is accepted; "19, 12 and 11 write nothing in either"
unfoldable pub given : (List ℕ → List ℕ) → Answer → Pieces → List ℕ
given f a (fails at) = []
given f a (into ss) = cond (eqb a.number 0) (joined f ss) []

unfoldable pub drawer_reports : List ℕ → List ℕ → List ℕ → List ℕ
drawer_reports s out marks = over (given report_of (drawer_answer s out marks) (pieces_of s)) out

unfoldable pub drawer_marks : List ℕ → List ℕ → List ℕ → List ℕ
drawer_marks s out marks = over (given mark_of (drawer_answer s out marks) (pieces_of s)) marks
