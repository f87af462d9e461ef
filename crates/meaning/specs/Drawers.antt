-- Drawers on both sides of each line, each with the bytes lent and what was worked out for it from the document: the answer and every byte of
-- both buffers afterwards. Then single values. proofs/Drawers.antt holds the definitions to them.
use Rattle.std.specs.Prelude.{ℕ, zero, suc, List, [], ◌∷◌, ◌++◌, length, drop}
use Rattle.recording.specs.Record.{Answer}
use Rattle.meaning.specs.Printed.{text, heading_of}
use Rattle.meaning.specs.Drawer.{Found, none, whole, broken, into, fails, size_at, found_at, report_of as pieceReport, mark_of, longest_drawer, drawer_answer, over, given, drawer_reports, drawer_marks}
use Rattle.meaning.specs.Starred.{join, times, step, reads, low, adds, recording_of, recording, report_of, row}
use Rattle.meaning.specs.Cases.{long}
use Rattle.meaning.specs.Direct.{Pair, ◌is◌}

-- a drawer, the bytes lent for reports and for marks, and what the document says: number and place, and the bytes laid in each, none for a refusal
pub record Lent : Type 0 where
  pub drawer : List ℕ
  pub room : ℕ
  pub marks_room : ℕ
  pub number : ℕ
  pub place : ℕ
  pub reports : List ℕ
  pub marks : List ℕ

-- the answer, and both buffers afterwards
pub record Drawn : Type 0 where
  pub answer : Answer
  pub reports : List ℕ
  pub marks : List ℕ

-- that many bytes from a number on, no two of them alike
abbrev pub rising : ℕ → ℕ → List ℕ
rising from zero = []
rising from (suc n) = from ∷ rising (suc from) n

-- the two buffers before
abbrev pub out_lent : Lent → List ℕ
out_lent c = rising 120 c.room

abbrev pub marks_lent : Lent → List ℕ
marks_lent c = rising 30 c.marks_room

unfoldable pub defined_drawn : Lent → Drawn
defined_drawn c =
    record {
      answer = drawer_answer c.drawer (out_lent c) (marks_lent c);
      reports = drawer_reports c.drawer (out_lent c) (marks_lent c);
      marks = drawer_marks c.drawer (out_lent c) (marks_lent c);
    }

unfoldable pub documented_drawn : Lent → Drawn
documented_drawn c =
    record {
      answer = record { number = c.number; place = c.place };
      reports = c.reports ++ drop (length c.reports) (out_lent c);
      marks = c.marks ++ drop (length c.marks) (marks_lent c);
    }

abbrev pub laid : List ℕ → ℕ → ℕ → List ℕ → List ℕ → Lent
laid s room marks_room r m = record { drawer = s; room = room; marks_room = marks_room; number = 0; place = 0; reports = r; marks = m }

abbrev pub unlaid : List ℕ → ℕ → ℕ → ℕ → ℕ → Lent
unlaid s room marks_room k at = record { drawer = s; room = room; marks_room = marks_room; number = k; place = at; reports = []; marks = [] }

-- ---- recordings, and what the document says of each alone

-- a refusal number and a place below 256
abbrev pub mark : ℕ → ℕ → List ℕ
mark k at = k ∷ low at

-- no operation: 6 bytes, a report of 9
abbrev pub bare : List ℕ
bare = recording 1 []

abbrev pub bare_report : List ℕ
bare_report = report_of 4 0 []

-- the starred A: 37 bytes, a report of 49
abbrev pub of_a : List ℕ
of_a = recording 32 (adds 0 5 ∷ times 6 (step 0) ∷ reads 1 ∷ step 1 ∷ [])

abbrev pub report_a : List ℕ
report_a = report_of 44 5 (row 0 3 1 1 6 0 1 0 ∷ row 1 2 1 1 1 5 2 0 ∷ [])

-- h = 2, a read by 3: 12 bytes, a report of 29
abbrev pub higher : List ℕ
higher = recording_of (low 7) 2 (reads 3 ∷ step 3 ∷ [])

abbrev pub higher_report : List ℕ
higher_report = report_of 24 0 (row 3 2 1 1 1 0 1 0 ∷ [])

-- 9 bytes, refused by 9 at its byte 6
abbrev pub idle : List ℕ
idle = recording 4 (step 0 ∷ [])

-- L = 0: 5 bytes, refused by 1
abbrev pub five : List ℕ
five = 1 ∷ low 0

-- ---- the cases

unfoldable pub drawers : List Lent
drawers =
    -- no recording: nothing is needed, nothing written
    laid [] 0 0 [] []
    ∷ laid [] 2 3 [] []
    -- one: just enough room, a byte more in each
    ∷ laid bare 9 5 bare_report (mark 0 0)
    ∷ laid bare 10 7 bare_report (mark 0 0)
    -- a byte too few for the report, for the mark, for both; none at all
    ∷ unlaid bare 8 5 11 9
    ∷ unlaid bare 9 4 11 5
    ∷ unlaid bare 8 4 11 9
    ∷ unlaid bare 0 0 11 9
    -- a refused one needs its mark alone
    ∷ laid idle 0 5 [] (mark 9 6)
    ∷ laid idle 3 6 [] (mark 9 6)
    ∷ unlaid idle 3 4 11 5
    ∷ unlaid idle 0 0 11 5
    -- five bytes alone, first, last
    ∷ laid five 1 5 [] (mark 1 0)
    ∷ laid (five ++ bare) 9 10 bare_report (mark 1 0 ++ mark 0 0)
    ∷ laid (bare ++ five) 9 10 bare_report (mark 0 0 ++ mark 1 0)
    -- accepted, refused, accepted: 58 bytes of reports, 15 of marks, on both sides of each line
    ∷ laid (bare ++ (idle ++ of_a)) 58 15 (bare_report ++ report_a) (mark 0 0 ++ (mark 9 6 ++ mark 0 0))
    ∷ laid (bare ++ (idle ++ of_a)) 59 17 (bare_report ++ report_a) (mark 0 0 ++ (mark 9 6 ++ mark 0 0))
    ∷ unlaid (bare ++ (idle ++ of_a)) 57 15 11 58
    ∷ unlaid (bare ++ (idle ++ of_a)) 58 14 11 15
    ∷ unlaid (bare ++ (idle ++ of_a)) 57 14 11 58
    ∷ unlaid (bare ++ (idle ++ of_a)) 15 58 11 58
    -- refused, refused, accepted: more bytes of marks than of reports
    ∷ laid (idle ++ (five ++ bare)) 9 15 bare_report (mark 9 6 ++ (mark 1 0 ++ mark 0 0))
    ∷ unlaid (idle ++ (five ++ bare)) 15 9 11 15
    -- in drawer order, each by its own height; the same one twice, from 0 anew
    ∷ laid (of_a ++ higher) 80 12 (report_a ++ higher_report) (mark 0 0 ++ mark 0 0)
    ∷ laid (higher ++ of_a) 80 12 (higher_report ++ report_a) (mark 0 0 ++ mark 0 0)
    ∷ laid (of_a ++ of_a) 100 10 (report_a ++ report_a) (mark 0 0 ++ mark 0 0)
    -- each refusal that a piece may have but for 4 and 10, and never 3, since it is cut by its L; the place from its own byte 0
    ∷ laid
    (join
    (recording 7 (reads 0 ∷ reads 0 ∷ []) ∷ (0 ∷ low 1 ++ (1 ∷ [])) ∷ (1 ∷ low 1 ++ (7 ∷ [])) ∷ recording 6 (reads 0 ∷ (2 ∷ 1 ∷ []) ∷ [])
    ∷ recording 4 (reads 2 ∷ []) ∷ idle ∷ five ∷ []))
    2 36 [] (join (mark 8 9 ∷ mark 2 0 ∷ mark 5 0 ∷ mark 6 9 ∷ mark 7 6 ∷ mark 9 6 ∷ mark 1 0 ∷ []))
    -- L takes in what could be a recording of its own: one piece
    ∷ laid (1 ∷ low 7 ++ (1 ∷ bare)) 1 6 [] (mark 6 6)
    -- 1, 2, 3 and 4 bytes remain at the first cut, and after a piece
    ∷ unlaid (1 ∷ []) 20 20 12 0
    ∷ unlaid (1 ∷ 0 ∷ []) 20 20 12 0
    ∷ unlaid (1 ∷ 0 ∷ 0 ∷ []) 20 20 12 0
    ∷ unlaid (1 ∷ 0 ∷ 0 ∷ 0 ∷ []) 20 20 12 0
    ∷ unlaid (bare ++ (1 ∷ [])) 20 20 12 6
    ∷ unlaid (bare ++ (1 ∷ 0 ∷ [])) 20 20 12 6
    ∷ unlaid (bare ++ (1 ∷ 0 ∷ 0 ∷ [])) 20 20 12 6
    ∷ unlaid (bare ++ (1 ∷ 0 ∷ 0 ∷ 0 ∷ [])) 20 20 12 6
    -- L passes the end by one, by its highest byte; an L that comes to the end is in every case above
    ∷ unlaid (1 ∷ low 2 ++ (1 ∷ [])) 20 20 12 0
    ∷ unlaid (1 ∷ low 1) 20 20 12 0
    ∷ unlaid (1 ∷ 1 ∷ 0 ∷ 0 ∷ 1 ∷ 1 ∷ []) 20 20 12 0
    ∷ unlaid (bare ++ (1 ∷ low 2 ++ (1 ∷ []))) 20 20 12 6
    ∷ unlaid (bare ++ (1 ∷ low 1)) 20 20 12 6
    -- the cut that fails stands behind a refused piece; 12 before 11
    ∷ unlaid (idle ++ (bare ++ (1 ∷ low 3 ++ (1 ∷ 0 ∷ [])))) 20 20 12 15
    ∷ unlaid (bare ++ (0 ∷ [])) 0 0 12 6
    ∷ []

-- ---- single values

abbrev pub found_shown : Found → List ℕ
found_shown none = []
found_shown (whole size) = 0 ∷ size ∷ []
found_shown broken = 12 ∷ []

abbrev pub same : List ℕ → List ℕ
same s = s

abbrev pub two : List (List ℕ)
two = (7 ∷ 8 ∷ []) ∷ (9 ∷ []) ∷ []

unfoldable pub of_drawer : List Pair
of_drawer =
    (size_at (9 ∷ 1 ∷ 2 ∷ 3 ∷ 4 ∷ []) 0 ∷ size_at (bare ++ idle) 6 ∷ size_at five 0 ∷ longest_drawer ∷ [] is 16909065 ∷ 9 ∷ 5 ∷ 16777216 ∷ [])
    ∷ (found_shown (found_at (bare ++ idle) 0) is 0 ∷ 6 ∷ [])
    ∷ (found_shown (found_at (bare ++ idle) 6) is 0 ∷ 9 ∷ [])
    ∷ (found_shown (found_at (bare ++ five) 6) is 0 ∷ 5 ∷ [])
    ∷ (found_shown (found_at (bare ++ (1 ∷ low 1)) 6) is 12 ∷ [])
    ∷ (found_shown (found_at bare 2) is 12 ∷ [])
    ∷ (found_shown (found_at bare 5) is 12 ∷ [])
    -- no bytes left, or a place beyond the end
    ∷ (found_shown (found_at bare 6) ++ found_shown (found_at bare 7) is [])
    ∷ (over (1 ∷ 2 ∷ []) (7 ∷ 8 ∷ 9 ∷ []) ++ (over [] (7 ∷ 8 ∷ []) ++ over (1 ∷ 2 ∷ []) (7 ∷ 8 ∷ [])) is 1 ∷ 2 ∷ 9 ∷ 7 ∷ 8 ∷ 1 ∷ 2 ∷ [])
    ∷ (given same (record { number = 0; place = 0 }) (into two) is 7 ∷ 8 ∷ 9 ∷ [])
    ∷ (given same (record { number = 11; place = 3 }) (into two) ++ given same (record { number = 19; place = 0 }) (into two) is [])
    ∷ (given same (record { number = 12; place = 0 }) (fails 0) is [])
    ∷ (heading_of 1 0 is text "recording 1 offset 0\n")
    ∷ (heading_of 23 16777216 is text "recording 23 offset 16777216\n")
    ∷ []

-- ---- a piece of 65,537 bytes, which takes a second to compute

abbrev pub too_long : List ℕ
too_long = long (0 ∷ 0 ∷ 255 ∷ 252 ∷ []) 1 65531

unfoldable pub of_too_long : List Pair
of_too_long =
    (found_shown (found_at (too_long ++ bare) 0) is 0 ∷ 65537 ∷ [])
    ∷ (mark_of too_long ++ pieceReport too_long is mark 4 0)
    ∷ []
