-- `close_rows`: the first m rows are closed, and so those of the array.
use native.Mathlib.Omega.{arith}
use Rattle.rows.proofs.Front.{front_room, front_closed}
use Rattle.keeping.proofs.close_rows.Goals as goal

pub close-requires : goal.close-requires
close-requires c = front_room _ _ _ _ (omega arith) (omega arith) c.requires.1

pub returns-clause-rows : goal.returns-clause-rows
returns-clause-rows c = front_closed _ _ _ _ _ c.close.auto.rows (omega arith) (omega arith) c.close.ensures
