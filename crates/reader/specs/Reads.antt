-- "The reader keeps the recording it was lent and its place in it, and hands out one event after another. At a record that rule 6 below refuses
-- it answers 6 with that record's offset and its place does not move. With no bytes left, or with a place beyond the lent bytes, it says that
-- the end is reached."
use Rattle.std.specs.Prelude.{ℕ, ◌≡◌, List, Some, None, Ok, Err}
use Rattle.std.specs.Borrow.{Bor}
use Rattle.recording.specs.Record.{Cuts, Cut}
use Rattle.meaning.specs.Layout.{first_record}
use Rattle.reader.specs.declared.Reader.{Reader}
use Rattle.reader.specs.declared.Reading.{Reading}

-- a reader that was lent a recording: it stands at the first record, behind the height at byte 5
unfoldable pub reader_of : Bor (List ℕ) → Reader
reader_of rec = record { rec = rec; place = first_record }

-- the place afterwards: it moves past an event, and not at a refusal or at the end
unfoldable pub place_after : ℕ → Cut → ℕ
place_after at (Ok (Some found)) = found.next
place_after at (Ok None) = at
place_after at (Err refused) = at

-- what is promised of a place: of what is handed out there, what the cut promises (its number and place by `cut_answer`, and its event); and the
-- place afterwards
pub record ReadsAt (s : List ℕ) (at : ℕ) (r : Reading) : Type 0 where
  pub cuts : Cuts s at r.cut
  pub moves : r.place ≡ place_after at r.cut

-- what the reader promises of a turn: that at its place, and the same recording
pub record Reads (before after : Reader) (r : Cut) : Type 0 where
  pub gives : ReadsAt before.rec.now before.place (record { cut = r; place = after.place })
  pub keeps : after.rec ≡ before.rec
