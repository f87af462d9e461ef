-- `cut_all`. The loop's invariant: the pieces before what is left are cut, counted, and their most bytes added. The measure is the bytes left.
use Rattle.std.proofs.Common.{◌<◌, length, refl, rules, arith}
use Rattle.drawer.proofs.Alone.{most_small}
use Rattle.drawer.proofs.Passes.{cut_none, cut_next, cut_into, cut_broken}
use Rattle.drawer.proofs.cut_all.Goals as goal

pub pieces-init : goal.pieces-init
pieces-init c = cut_none _

pub overflow_add-pieces-in-Some : goal.overflow_add-pieces-in-Some
overflow_add-pieces-in-Some c = omega (arith, c.pieces.invariant.small, c.most_of.ensures, most_small (length c.in-Some.piece.now), c.in-Some.ensures.parted.0)

pub pieces-preserved : goal.pieces-preserved
pieces-preserved c = cut_next _ _ _ _ _ _ _ c.pieces.invariant c.in-Some.ensures c.most_of.ensures

pub returns-then-is_empty : goal.returns-then-is_empty
returns-then-is_empty c = cut_into _ _ _ _ c.pieces.invariant (search rules)

pub returns : goal.returns
returns c =
    let some : 0 < length c.pieces.rest.now = search rules in
    (refl, cut_broken _ _ _ _ c.pieces.invariant some c.in_default.ensures, omega (arith, c.pieces.invariant.few, c.pieces.invariant.small))
