-- "hands out one event after another": what turns in a row hand out, each event with its record's offset, up to the end or to the first record
-- that is refused.
use Rattle.std.specs.Prelude.{ℕ, Err}
use Rattle.refusals.specs.declared.Refused.{Refused}
use Rattle.recording.specs.declared.Event.{Event}
use Rattle.recording.specs.Record.{whole_record, no_more}
use Rattle.meaning.specs.Layout.{Records, end, broken, event}
use Rattle.reader.specs.Reads.{Reads}
use Rattle.reader.specs.declared.Reader.{Reader}

pub data HandsOut : Reader → Records → Type 0 where
  ends : {r r' : Reader} → Reads r r' no_more → HandsOut r end
  refuses : {r r' : Reader} {refused : Refused} → Reads r r' (Err refused) → HandsOut r (broken refused.place)
  hands : {r r' : Reader} {e : Event} {next : ℕ} {rest : Records} → Reads r r' (whole_record e next) → HandsOut r' rest
      → HandsOut r (event r.place e rest)
