-- `close`. The loop's invariant: the rows before the turn's are closed.
use mathlib.Core.Path.{◌≡◌}
use Rattle.arrays.specs.Arrays.{as_fun}
use Rattle.arrays.specs.Numbers.{numbers_of}
use Rattle.rows.specs.Rows.{closed}
use Rattle.rows.proofs.close.Given as goal

abbrev pub invariant-loop-row : goal.invariant-loop-row
invariant-loop-row l = numbers_of l.row-items ≡ closed (as_fun l.greatest) l.row-index (numbers_of l.fn.rows)
