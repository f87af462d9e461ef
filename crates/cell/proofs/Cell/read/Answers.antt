-- `Cell::read`: the value of the cell's state is the field itself.
use native.Mathlib.Omega.{arith}
use Rattle.cell.specs.Cell.{read_of, state_of}
use Rattle.cell.proofs.Cell.read.Goals as goal

pub returns : goal.returns
unfolding read_of state_of
returns c = omega arith
