-- `end_line`: a line feed is one byte.
use Rattle.meaning.specs.Printed.{text}
use Rattle.lines.proofs.Cursor.end_line.Goals as goal

pub returns-clause-lays : goal.returns-clause-lays
unfolding text
returns-clause-lays c = c.lay_byte.ensures.lays
