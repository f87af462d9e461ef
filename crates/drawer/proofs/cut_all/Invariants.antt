-- `cut_all`. The loop's invariant: the pieces before what is left are cut, counted, and their most bytes added. The measure is the bytes left.
use Rattle.std.proofs.Common.{length}
use Rattle.drawer.proofs.Passes.{CutTo}
use Rattle.drawer.proofs.cut_all.Given as goal

abbrev pub invariant-pieces : goal.invariant-pieces
invariant-pieces l = CutTo l.s l.rest l.pieces.number l.pieces.most

abbrev pub decreases-pieces : goal.decreases-pieces
decreases-pieces l = length l.rest
