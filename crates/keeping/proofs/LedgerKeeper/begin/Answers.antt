-- `begin`: the counts are 0, nobody waits, and none is listed; the rows and what was read stay.
use mathlib.Core.Path.{refl}
use Rattle.counts.specs.Counts.{counts_of}
use Rattle.placing.specs.Placing.{kept_of}
use Rattle.keeping.proofs.Laws.{begun}
use Rattle.keeping.proofs.LedgerKeeper.begin.Goals as goal

pub returns-clause-begun : goal.returns-clause-begun
returns-clause-begun c = λ a. begun _ 6 64 refl refl refl

pub returns-clause-others : goal.returns-clause-others
unfolding kept_of counts_of
returns-clause-others c = λ a. (refl, refl, refl, refl)
