-- `Process::idle`: the record, field by field.
use Rattle.std.proofs.Common.{refl}
use Rattle.machine.specs.Arrays.{idle_record}
use Rattle.machine.proofs.Process.idle.Goals as goal

pub returns : goal.returns
unfolding idle_record
returns c = refl
