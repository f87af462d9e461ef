-- `empty`: every digit of 0 is 0.
use Rattle.sets.proofs.Laws.{is_in_empty}
use Rattle.sets.proofs.empty.Goals as goal

pub returns : goal.returns
returns c = is_in_empty
