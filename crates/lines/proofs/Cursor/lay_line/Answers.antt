-- `lay_line`: six parts one after another.
use Rattle.meaning.specs.Printed.{text}
use Rattle.laying.proofs.Laid.{lays_then, lays_as}
use Rattle.lines.proofs.Texts.{line_parts}
use Rattle.lines.proofs.Cursor.lay_line.Goals as goal

pub returns-clause-lays : goal.returns-clause-lays
unfolding text
returns-clause-lays c =
    let two = lays_then c.lay_word.ensures.lays c.lay_field.ensures.lays in
    let four = lays_then (lays_then two c.lay_byte.ensures.lays) c.lay_word-2.ensures.lays in lays_as (line_parts _ _ _ _) (lays_then (lays_then four c.lay_field-2.ensures.lays) c.end_line.ensures.lays)
