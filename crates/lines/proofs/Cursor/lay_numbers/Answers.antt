-- `lay_numbers`: four columns and the line feed one after another.
use mathlib.Core.Path.{ap}
use Rattle.meaning.specs.Printed.{text}
use Rattle.lines.specs.Text.{field, numbers_text}
use Rattle.laying.proofs.Laid.{lays_then, lays_as}
use Rattle.lines.proofs.Cursor.lay_numbers.Goals as goal

pub returns-clause-lays : goal.returns-clause-lays
unfolding numbers_text text
returns-clause-lays c =
    let a = lays_as (ap field c.number_at.ensures) c.lay_field.ensures.lays in
    let b = lays_as (ap field c.number_at-2.ensures) c.lay_field-2.ensures.lays in
    let d = lays_as (ap field c.number_at-3.ensures) c.lay_field-3.ensures.lays in
    let e = lays_as (ap field c.number_at-4.ensures) c.lay_field-4.ensures.lays in lays_then (lays_then (lays_then (lays_then a b) d) e) c.end_line.ensures.lays
