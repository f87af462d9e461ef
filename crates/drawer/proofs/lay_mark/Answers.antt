-- `lay_mark` meets its contract: a byte, and four more right after it.
use mathlib.Core.Path.{◌∙◌}
use lib.ListN.{length-set}
use native.Mathlib.Omega.{arith}
use Rattle.meaning.specs.Report.{passes}
use Rattle.entries.specs.Promises.{answer_of}
use Rattle.drawer.proofs.Alone.{mark_laid}
use Rattle.drawer.proofs.lay_mark.Goals as goal
use Rattle.drawer.proofs.lay_mark.Goals.{in-Ok, in-Err}

pub lay_number-requires : goal.lay_number-requires
lay_number-requires c =
    simp length-set (omega arith)

pub shape_of-marks : goal.shape_of-marks
shape_of-marks c =
    c.lay_number.auto.out ∙ simp length-set

pub returns : goal.returns
unfolding answer_of passes
returns c =
    elim c.match-e.branch [
      | in-Ok w ↦ rw w.in-Ok.is (mark_laid _ _ _ _ _ (omega (arith, c.requires)) (rw w.number-is at c.lay_number.ensures))
      | in-Err w ↦ rw (w.in-Err.is, ← w.number.ensures) (mark_laid _ _ _ _ _ (omega (arith, c.requires)) (rw w.number-is at c.lay_number.ensures))
    ]
