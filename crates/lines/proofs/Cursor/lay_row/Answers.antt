-- `lay_row`: the two halves of a row's line.
use Rattle.laying.proofs.Laid.{lays_then, lays_as}
use Rattle.lines.proofs.Texts.{row_parts}
use Rattle.lines.proofs.Cursor.lay_row.Goals as goal

pub returns-clause-lays : goal.returns-clause-lays
returns-clause-lays c = lays_as (row_parts _ _) (lays_then c.lay_bytes.ensures.lays c.lay_numbers.ensures.lays)
