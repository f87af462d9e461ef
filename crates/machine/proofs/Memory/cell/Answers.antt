-- `Memory::cell`: the two elements are the cell that the memory has there.
use Rattle.std.proofs.Common.{refl}
use Rattle.cell.specs.Cell.{state_of}
use Rattle.meaning.specs.Steps.{cell_at}
use Rattle.arrays.specs.Arrays.{as_fun}
use Rattle.machine.specs.Arrays.{memory_of}
use Rattle.machine.proofs.Memory.cell.Goals as goal

pub returns : goal.returns
unfolding state_of cell_at as_fun memory_of
returns c = refl
