-- `step`: the listing of the step, and then its row, which has room as before.
use mathlib.Core.Path.{refl, sym, ap, ◌∙◌}
use native.Mathlib.Omega.{arith}
use Rattle.machine.specs.Arrays.{process_of}
use Rattle.ledger.specs.Kept.{row_then}
use Rattle.placing.specs.Placing.{kept_of}
use Rattle.keeping.specs.Keeping.{lent_to}
use Rattle.keeping.proofs.Laws.{can_place, addition_room, read_room, row_steps, addition_step_lem, read_step_lem}
use Rattle.keeping.proofs.LedgerKeeper.step.Goals as goal

pub bounds-self-p : goal.bounds-self-p
unfolding lent_to
bounds-self-p c = omega (arith, (c.requires refl).most)

pub place_addition-requires : goal.place_addition-requires
place_addition-requires c = can_place (c.requires refl)

pub step_row-requires : goal.step_row-requires
unfolding lent_to
step_row-requires c =
    let can = c.requires refl in
    (addition_room _ _ _ _ _ _ c.place_addition.ensures.kept can.row, omega (arith, c.place_addition.ensures.same.of_rows, can.operation, can.enough.rows_fit))

pub place_read-requires : goal.place_read-requires
unfolding lent_to kept_of
place_read-requires c =
    let can = c.requires refl in
    (omega (arith, can.operation, can.enough.rows_fit), can.ranks)

pub step_row-requires-else-r : goal.step_row-requires-else-r
unfolding lent_to
step_row-requires-else-r c =
    let can = c.requires refl in
    (read_room _ _ _ c.place_read.ensures.kept can.row, omega (arith, c.place_read.ensures.same.of_rows, can.operation, can.enough.rows_fit))

pub returns-then-r-clause-kept : goal.returns-then-r-clause-kept
unfolding process_of
returns-then-r-clause-kept c =
    λ a.
    let can = c.requires a in
    let second = c.second_link.ensures c.args.p c.args.r.adds can.known.low can.last in
    row_steps _ _ refl refl refl _ _ _ _ _ _ (rw second at c.step_row.ensures)
    ∙ ap (row_then _ _ _ _ _) c.place_addition.ensures.kept ∙ sym (addition_step_lem _ _ _ _ _ _ _ c.if-r.true)

pub returns-else-r-clause-kept : goal.returns-else-r-clause-kept
unfolding process_of
returns-else-r-clause-kept c =
    λ a.
    row_steps _ _ refl refl refl _ _ _ _ _ _ c.step_row-else-r.ensures
    ∙ ap (row_then _ _ _ _ _) c.place_read.ensures.kept ∙ sym (read_step_lem _ _ _ _ _ _ _ c.if-r.false)
