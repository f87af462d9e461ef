-- `close` meets its contract: the rows closed, and all else as it was.
use mathlib.Core.Path.{refl, ap}
use native.Mathlib.Omega.{arith}
use Rattle.arrays.specs.Arrays.{as_fun}
use Rattle.rows.proofs.Laws.{fewer_to_close}
use Rattle.placing.specs.Placing.{kept_of}
use Rattle.keeping.specs.Keeping.{lent_to}
use Rattle.keeping.proofs.LedgerKeeper.close.Goals as goal

pub close_rows-requires : goal.close_rows-requires
unfolding kept_of lent_to
close_rows-requires c = let pre = c.requires refl in (omega (arith, pre.1), fewer_to_close _ _ _ _ (omega arith) pre.2)

pub returns-clause-rows : goal.returns-clause-rows
unfolding kept_of
returns-clause-rows c = λ a. c.close_rows.ensures.rows

pub returns-clause-others : goal.returns-clause-others
unfolding kept_of
returns-clause-others c = λ a. (refl, refl, refl, ap as_fun c.close_rows.ensures.greatest, refl)
