-- `lay_word`: one copy.
use Rattle.std.proofs.Common.{arith}
use Rattle.lines.proofs.Left.{lays_copied}
use Rattle.lines.proofs.lay_word.Goals as goal

pub returns : goal.returns
returns c = lays_copied _ _ _ _ _ _ _ (omega arith) (omega arith) (omega arith) c.copy_from_slice.ensures.after (omega arith)
