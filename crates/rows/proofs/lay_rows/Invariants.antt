-- `lay_rows`. The loop's invariant: the first i rows are laid.
use mathlib.Core.Path.{◌≡◌}
use Rattle.arrays.specs.Numbers.{numbers_of}
use Rattle.rows.proofs.Stores.{laid_rows}
use Rattle.rows.proofs.lay_rows.Given as goal

abbrev pub invariant-loop-i : goal.invariant-loop-i
invariant-loop-i l = l.out ≡ laid_rows l.initial.out (numbers_of l.rows) l.i
