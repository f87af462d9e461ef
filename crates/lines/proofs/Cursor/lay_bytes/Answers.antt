-- `lay_bytes`: four columns one after another.
use native.Mathlib.Omega.{arith}
use mathlib.Core.Path.{ap}
use Rattle.meaning.specs.Printed.{decimal}
use Rattle.lines.specs.Text.{field, bytes_text}
use Rattle.lines.proofs.Digits.{decimal_few}
use Rattle.laying.proofs.Laid.{lays_then, lays_as}
use Rattle.lines.proofs.Cursor.lay_bytes.Goals as goal

pub lay_decimal-requires : goal.lay_decimal-requires
lay_decimal-requires c =
    record { long = c.requires.room.long; enough = omega (arith, c.requires.room.enough, decimal_few c.from.result) }

pub returns-clause-lays : goal.returns-clause-lays
unfolding bytes_text
returns-clause-lays c =
    let a = lays_as (ap decimal c.from.ensures) c.lay_decimal.ensures.lays in
    let b = lays_as (ap field c.from-2.ensures) c.lay_field.ensures.lays in
    let d = lays_as (ap field c.from-3.ensures) c.lay_field-2.ensures.lays in lays_then (lays_then (lays_then a c.lay_kind.ensures.lays) b) d
