-- What laying one piece does, and what it is lent.
use Rattle.std.specs.Prelude.{ℕ, ◌+◌, ◌^◌, ◌≤◌, ◌<◌, ◌≡◌, List, ◌∷◌, length, Result, IfErr}
use Rattle.refusals.specs.declared.Refused.{Refused}
use Rattle.recording.specs.Numbers.{four_bytes}
use Rattle.meaning.specs.Drawer.{into, pieces_of, report_of, mark_of, joined}
use Rattle.laying.specs.Lays.{Lays}
use Rattle.engine.specs.declared.Accepted.{Accepted}
use Rattle.entries.specs.Promises.{answer_of}
use Rattle.drawer.specs.Cuts.{bytes_by}

-- the bytes of a mark, by how the run ended
abbrev pub mark_by : Result Accepted Refused → List ℕ
mark_by e = (answer_of e).number ∷ four_bytes (answer_of e).place

-- a piece's report laid from a place on, and how its run ended
pub record LaysReport (s before : List ℕ) (at : ℕ) (after : List ℕ) (e : Result Accepted Refused) : Type 0 where
  pub laid : Lays before at (report_of s) after (at + bytes_by e)
  pub mark : mark_by e ≡ mark_of s
  pub within : IfErr e (λ r. r.place < 2 ^ 32)

-- both buffers have room for what the pieces of a drawer give
pub record RoomForAll (s out marks : List ℕ) : Type 0 where
  pub parts : List (List ℕ)
  pub cut : pieces_of s ≡ into parts
  pub for_reports : length (joined report_of parts) ≤ length out
  pub for_marks : length (joined mark_of parts) ≤ length marks
  pub short : length s ≤ 16777216

-- both laid
pub record LaysAll (s out marks out' marks' : List ℕ) : Type 0 where
  pub parts : List (List ℕ)
  pub cut : pieces_of s ≡ into parts
  pub reports_laid : Lays out 0 (joined report_of parts) out' (length (joined report_of parts))
  pub marks_laid : Lays marks 0 (joined mark_of parts) marks' (length (joined mark_of parts))
