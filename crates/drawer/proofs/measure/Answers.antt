-- `measure`. The loop's invariant: the pieces before what is left count with their reports' bytes, the others with their most. The measure is the
-- bytes left.
use Rattle.std.proofs.Common.{arith, refl}
use Rattle.drawer.proofs.Alone.{report_few}
use Rattle.drawer.proofs.Passes.{measured_none, most_counts, need_small, measured_next, measured_fits, measured_all}
use Rattle.drawer.proofs.measure.Goals as goal

pub pieces-init : goal.pieces-init
pieces-init c = measured_none _ _

pub returns-then-need-room : goal.returns-then-need-room
returns-then-need-room c = measured_fits _ _ _ _ _ c.pieces.invariant c.requires.1 _ (omega (arith, c.if-need-room.true))

pub overflow_sub-need : goal.overflow_sub-need
overflow_sub-need c = omega (arith, c.most_of.ensures, most_counts _ _ _ _ _ c.pieces.invariant c.requires.1 _ _ c.in-Some.ensures)

pub overflow_add-need : goal.overflow_add-need
overflow_add-need c = omega (arith, report_few _ _ c.needed.ensures, need_small _ _ _ _ _ c.pieces.invariant c.requires.1)

pub pieces-preserved : goal.pieces-preserved
pieces-preserved c = measured_next _ _ _ _ _ c.pieces.invariant c.requires.1 _ _ c.in-Some.ensures _ _ _ c.most_of.ensures c.needed.ensures refl

pub returns : goal.returns
returns c = measured_all _ _ _ _ _ c.pieces.invariant c.requires.1 _ c.in_default.ensures
