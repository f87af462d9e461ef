-- `step_row`: each number stored from the old one; the room that the caller shows is that of each sum. The rank stays.
use mathlib.Core.Path.{◌∙◌}
use native.Mathlib.Omega.{arith}
use Rattle.arrays.specs.Numbers.{no_row}
use Rattle.meaning.specs.Report.{one}
use Rattle.rows.proofs.Stores.{its_head, its_steps, its_seconds, counted, one_small, row_stepped}
use Rattle.rows.proofs.step_row.Goals as goal

pub overflow_add-row : goal.overflow_add-row
unfolding no_row
overflow_add-row c = omega (arith, its_steps c.args.rows.now c.args.i, c.requires.0)

pub overflow_add-row-2 : goal.overflow_add-row-2
unfolding no_row
overflow_add-row-2 c = omega (arith, its_seconds c.args.rows.now c.args.i, c.requires.0, c.from.ensures, counted c.args.second, one_small c.args.second)

pub overflow_add-row-then-finished : goal.overflow_add-row-then-finished
unfolding no_row
overflow_add-row-then-finished c = omega (arith, its_head c.args.rows.now c.args.i, c.requires.0)

pub overflow_add-row-then-finished-2 : goal.overflow_add-row-then-finished-2
unfolding no_row
overflow_add-row-then-finished-2 c = omega (arith, its_head c.args.rows.now c.args.i, c.requires.0)

pub returns-then-finished : goal.returns-then-finished
unfolding no_row one
returns-then-finished c = row_stepped _ _ _ _ _ _ _ _ c.requires.1 (rw c.if-finished.true (omega arith)) (c.from.ensures ∙ counted c.args.second)

pub returns-else-finished : goal.returns-else-finished
unfolding no_row one
returns-else-finished c = row_stepped _ _ _ _ _ _ _ _ c.requires.1 (rw c.if-finished.false (omega arith)) (c.from.ensures ∙ counted c.args.second)
