-- "The writer lays one event at the front of a lent buffer, 3 or 7 bytes; bytes after them stay. With less room it answers refusal 11,
-- with 3 or 7 as the place, and writes nothing."
use Rattle.std.specs.Prelude.{ℕ, ◌≡◌, cond, List, ◌++◌, length, drop, leb, Result, Ok, Err}
use Rattle.refusals.specs.Table.{number_of}
use Rattle.refusals.specs.declared.Refused.{Refused}
use Rattle.refusals.specs.declared.Refusal.TheVariants.{NoRoom}
use Rattle.recording.specs.Record.{Answer, bytes_of}
use Rattle.recording.specs.declared.Event.{Event}

-- the answer to an event and a buffer of that many bytes
unfoldable pub write_answer : Event → ℕ → Answer
write_answer e room = record { number = cond (leb (length (bytes_of e)) room) 0 11; place = length (bytes_of e) }

-- the buffer afterwards
unfoldable pub write_buffer : Event → List ℕ → List ℕ
write_buffer e buf = cond (leb (length (bytes_of e)) (length buf)) (bytes_of e ++ drop (length (bytes_of e)) buf) buf

-- what the writer did: the bytes laid, or a refusal
abbrev pub Written : Type 0
Written = Result ℕ Refused

-- refused for the bytes needed
abbrev pub needs_room : ℕ → Written
needs_room k = Err (record { refusal = NoRoom; place = k })

-- the tabled number and place for each case
unfoldable pub written_answer : Written → Answer
written_answer (Ok k) = record { number = 0; place = k }
written_answer (Err refused) = record { number = number_of refused.refusal; place = refused.place }

-- what the writer promises: its answer, and every byte of the buffer
pub record Writes (e : Event) (before after : List ℕ) (r : Written) : Type 0 where
  pub answer : written_answer r ≡ write_answer e (length before)
  pub buffer : after ≡ write_buffer e before
