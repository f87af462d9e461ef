-- `lay_field`: a space, and the digits after it.
use Rattle.meaning.specs.Printed.{text}
use Rattle.lines.specs.Text.{field}
use Rattle.lines.proofs.Digits.{decimal_few}
use Rattle.laying.proofs.Laid.{lays_then}
use Rattle.lines.proofs.Left.{room_left}
use native.Mathlib.Omega.{arith}
use Rattle.lines.proofs.Cursor.lay_field.Goals as goal

pub lay_decimal-requires : goal.lay_decimal-requires
lay_decimal-requires c = room_left _ c.requires c.lay_byte.ensures.lays (omega (arith, decimal_few c.args.n))

pub returns-clause-lays : goal.returns-clause-lays
unfolding field text
returns-clause-lays c = lays_then c.lay_byte.ensures.lays c.lay_decimal.ensures.lays
