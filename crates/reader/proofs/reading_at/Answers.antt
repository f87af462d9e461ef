-- `reading_at` meets its contract: each arm, at the answer that the pattern took apart.
use Rattle.reader.proofs.Laws.{reads_found, reads_end, reads_refused}
use Rattle.reader.proofs.reading_at.Goals as goal

pub returns-in-Ok-Some : goal.returns-in-Ok-Some
returns-in-Ok-Some c = reads_found c.cut_at-cut.ensures c.in-Ok-Some.is (rw c.in-Ok-Some.is at c.in-Ok-Some.field-0-is)

pub returns-in-Ok-None : goal.returns-in-Ok-None
returns-in-Ok-None c = reads_end c.cut_at-cut.ensures c.in-Ok-None.is (rw c.in-Ok-None.is at c.in-Ok-None.field-0-is)

pub returns-in-Err : goal.returns-in-Err
returns-in-Err c = reads_refused c.cut_at-cut.ensures c.in-Err.is
