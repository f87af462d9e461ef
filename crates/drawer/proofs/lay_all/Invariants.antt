-- `lay_all`. The loop's invariant: the reports and marks of the pieces before what is left are laid, and there is room for any recording. The measure
-- is the bytes left.
use Rattle.std.proofs.Common.{length}
use Rattle.keeping.specs.Keeping.{lent_to}
use Rattle.engine.specs.Ends.{RoomForAny}
use Rattle.drawer.proofs.Passes.{LaidTo}
use Rattle.drawer.proofs.lay_all.Given as goal

abbrev pub invariant-pieces : goal.invariant-pieces
invariant-pieces l = LaidTo l.s l.initial.out l.initial.marks l.rest l.out l.marks l.laid l.marked × RoomForAny (lent_to l.ledger)

abbrev pub decreases-pieces : goal.decreases-pieces
decreases-pieces l = length l.rest
