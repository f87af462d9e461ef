-- `measure`. The loop's invariant: the pieces before what is left count with their reports' bytes, the others with their most. The measure is the
-- bytes left.
use Rattle.std.proofs.Common.{length}
use Rattle.drawer.proofs.Passes.{MeasuredTo}
use Rattle.drawer.proofs.measure.Given as goal

abbrev pub invariant-pieces : goal.invariant-pieces
invariant-pieces l = MeasuredTo l.s l.rest l.fn.pieces.most l.need

abbrev pub decreases-pieces : goal.decreases-pieces
decreases-pieces l = length l.rest
