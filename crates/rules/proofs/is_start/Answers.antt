-- `is_start` meets its contract: each arm, at the event that the pattern took apart.
use mathlib.Core.Path.{sym, ap}
use Rattle.meaning.specs.Run.{is_start}
use Rattle.rules.proofs.is_start.Goals as goal

pub returns-in-Step : goal.returns-in-Step
unfolding is_start
returns-in-Step c = sym (ap is_start c.in-Step.is)

pub returns-in-Read : goal.returns-in-Read
unfolding is_start
returns-in-Read c = sym (ap is_start c.in-Read.is)

pub returns-in-Add : goal.returns-in-Add
unfolding is_start
returns-in-Add c = sym (ap is_start c.in-Add.is)
