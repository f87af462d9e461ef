-- `raise`: each turn raises the next number.
use Rattle.std.proofs.Common.{arith, rules}
use Rattle.contention.proofs.Raised.{raised_more, all_raised}
use Rattle.contention.proofs.raise.Goals as goal

pub loop-g-preserved : goal.loop-g-preserved
loop-g-preserved c = raised_more _ _ _ _ _ c.loop-g.invariant (search rules) (omega arith) (omega arith)

pub returns : goal.returns
returns c = all_raised _ _ c.loop-g.g-index _ _ c.loop-g.invariant (search rules) (search rules) (search rules)
