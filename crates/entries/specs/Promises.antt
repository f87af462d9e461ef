-- What check and report promise.
use Rattle.std.specs.Prelude.{ℕ, ◌≡◌, List, Result, Ok, Err}
use Rattle.refusals.specs.Table.{number_of}
use Rattle.refusals.specs.declared.Refused.{Refused}
use Rattle.recording.specs.Record.{Answer}
use Rattle.meaning.specs.Report.{passes, report_answer, report_buffer}

-- the answer in the table's numbers
unfoldable pub answer_of : {T : Type 0} → Result T Refused → Answer
answer_of (Ok x) = passes
answer_of (Err r) = record { number = number_of r.refusal; place = r.place }

-- what report promises: the answer, and every byte of the buffer
pub record Reports (s before after : List ℕ) (a : Answer) : Type 0 where
  pub answer : a ≡ report_answer s before
  pub buffer : after ≡ report_buffer s before
