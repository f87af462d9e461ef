-- `start` meets its contract: the kind by the branch, and the count of ones as the count of the set.
use mathlib.Core.Path.{refl, ◌∙◌}
use mathlib.Core.Bool.{true, false}
use native.Mathlib.Omega.{arith}
use Rattle.keeping.specs.Keeping.{lent_to}
use Rattle.keeping.proofs.Laws.{kind_of_lem, row_starts, count_fits}
use Rattle.keeping.proofs.LedgerKeeper.start.Goals.{then-adds, else-adds}
use Rattle.keeping.proofs.LedgerKeeper.start.Goals as goal

pub start_row-requires : goal.start_row-requires
unfolding lent_to
start_row-requires c = c.requires.row refl

pub overflow_cast-count : goal.overflow_cast-count
overflow_cast-count c = omega (arith, count_fits _ c.count.ensures)

pub raise-requires : goal.raise-requires
unfolding lent_to
raise-requires c = (c.requires.process, c.requires.most refl)

pub returns-clause-kept : goal.returns-clause-kept
returns-clause-kept c =
    λ a.
    row_starts _ _ refl refl refl _ _ _ _
    (elim c.if-adds.branch [
      | then-adds w ↦ w.kind-is ∙ kind_of_lem _ true w.if-adds.true
      | else-adds w ↦ w.kind-is ∙ kind_of_lem _ false w.if-adds.false
    ])
    c.start_row.ensures
