-- `lay_all`: what is laid grows by each piece's report and mark, with the same room for the next.
use native.Mathlib.Omega.{arith}
use Rattle.keeping.specs.Keeping.{lent_to}
use Rattle.drawer.proofs.Passes.{laid_none, room_report, room_mark, laid_next, laid_all, room_still}
use Rattle.drawer.proofs.lay_all.Goals as goal

pub pieces-init : goal.pieces-init
unfolding lent_to
pieces-init c = (
  laid_none _ _ _,
  record { readers = omega arith; enough = record { few = omega arith; rows_fit = omega arith }; operations = omega arith; processes = omega arith },
)

pub lay_piece-e-requires : goal.lay_piece-e-requires
lay_piece-e-requires c = (c.pieces.invariant.1, room_report _ _ _ _ _ _ _ _ c.pieces.invariant.0 c.requires _ _ c.in-Some.ensures)

pub lay_mark-requires : goal.lay_mark-requires
lay_mark-requires c = (c.lay_piece-e.ensures.lays.within, room_mark _ _ _ _ _ _ _ _ c.pieces.invariant.0 c.requires _ _ c.in-Some.ensures)

pub pieces-preserved : goal.pieces-preserved
pieces-preserved c = (
  laid_next _ _ _ _ _ _ _ _ c.pieces.invariant.0 c.requires _ _ c.in-Some.ensures _ _ _ _ c.lay_piece-e.ensures.lays c.lay_mark.ensures c.bytes_of-laid.ensures,
  room_still _ _ c.lay_piece-e.ensures.same c.pieces.invariant.1,
)

pub returns : goal.returns
returns c = laid_all _ _ _ _ _ _ _ _ c.pieces.invariant.0 c.requires c.in_default.ensures
