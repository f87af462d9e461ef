-- `Memory::put_value`: `sized` says that the index is inside.
use Rattle.std.proofs.Common.{arith}
use Rattle.arrays.proofs.Laws.{fun_set}
use Rattle.machine.proofs.Stored.{value_stored}
use Rattle.machine.proofs.Memory.put_value.Goals as goal

pub returns : goal.returns
returns c = value_stored _ _ _ _ (fun_set _ _ _ (omega (arith, c.sized.ensures)))
