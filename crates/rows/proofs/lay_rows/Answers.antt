-- `lay_rows`. The loop's invariant: the first i rows are laid.
use mathlib.Core.Path.{◌∙◌}
use native.Mathlib.Omega.{arith}
use Rattle.arrays.specs.Numbers.{no_row}
use Rattle.rows.proofs.Stores.{none_laid, one_more_laid}
use Rattle.rows.proofs.lay_rows.Goals as goal

pub loop-i-init : goal.loop-i-init
loop-i-init c = none_laid _ _

pub loop-i-preserved : goal.loop-i-preserved
unfolding no_row
loop-i-preserved c = c.lay_row.ensures ∙ rw c.loop-i.invariant (one_more_laid _ _ _ (omega arith))
