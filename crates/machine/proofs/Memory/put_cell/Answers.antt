-- `Memory::put_cell`: the value and the link set, each stored in its array.
use Rattle.std.proofs.Common.{arith}
use Rattle.arrays.proofs.Laws.{fun_set}
use Rattle.machine.proofs.Stored.{cell_stored}
use Rattle.machine.proofs.Memory.put_cell.Goals as goal

pub returns : goal.returns
returns c =
    cell_stored _ _ _ _ (fun_set _ _ _ (omega (arith, c.sized.ensures))) (fun_set _ _ _ (omega (arith, c.sized-2.ensures)))
