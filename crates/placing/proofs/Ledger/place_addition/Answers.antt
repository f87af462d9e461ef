-- `place_addition`: a leaf write joins the queue, a store at node 1 lists, and every other step leaves it.
use mathlib.Core.Path.{refl}
use Rattle.arrays.specs.Arrays.{as_fun}
use Rattle.climb.specs.Climb.{SpotAt}
use Rattle.placing.proofs.Laws.{not_stored}
use Rattle.placing.proofs.Steps.{one_of_64, counts_there, stored_at_root, stored_below, joins, leaves, clears, lists_by}
use native.Mathlib.Omega.{arith}
use Rattle.placing.proofs.Ledger.place_addition.Goals.{After-spot_of-spot, else-stored-via-then-stored+else-spot-f, else-stored-via-else-stored}
use Rattle.placing.proofs.Ledger.place_addition.Goals as goal

pub bounds-self-p : goal.bounds-self-p
bounds-self-p c = one_of_64 _ _ c.requires.known c.requires.process

-- the spot is that of the step
spot_there : (c : After-spot_of-spot) → SpotAt c.args.f c.args.p c.args.r.step c.spot_of-spot.result
spot_there c = c.spot_of-spot.ensures c.args.p c.args.r.adds c.requires.known.low c.requires.last

pub take_in-requires : goal.take_in-requires
take_in-requires c =
    let can = c.requires in
    record { process = one_of_64 _ _ can.known can.process; row = can.reader; shape = can.known.shape; level = omega (arith, (spot_there (goal.at.take_in-requires c).After-spot_of-spot).level, can.known.high); room = can.written }

pub returns-then-s-eq2-clause-kept : goal.returns-then-s-eq2-clause-kept
unfolding as_fun
returns-then-s-eq2-clause-kept c =
    let can = c.requires in
    joins _ _ _ _ _ _ (counts_there _ _ c.args.r _ _ _ _ (spot_there (goal.at.returns-then-s-eq2-clause-kept c).After-spot_of-spot) c.take_in.ensures.counts) refl refl refl c.if-s-eq2.true (can.still c.if-s-eq2.true) c.wait.ensures

pub returns-then-spot-f-clause-kept : goal.returns-then-spot-f-clause-kept
returns-then-spot-f-clause-kept c =
    let can = c.requires in
    clears _ _ _ _ _ _ (counts_there _ _ c.args.r _ _ _ _ (spot_there (goal.at.returns-then-spot-f-clause-kept c).After-spot_of-spot) c.take_in.ensures.counts) c.if-s-eq2.false can.known.low
    (stored_at_root _ _ c.args.r _ (spot_there (goal.at.returns-then-spot-f-clause-kept c).After-spot_of-spot) c.if-stored.true (omega (arith, c.if-spot-f.true)))
    (lists_by _ _ c.row_of-root.ensures c.list_in-self.ensures)

pub returns-else-stored-clause-kept : goal.returns-else-stored-clause-kept
returns-else-stored-clause-kept c =
    leaves _ _ _ _ _ _ (counts_there _ _ c.args.r _ _ _ _ (spot_there (goal.at.returns-else-stored-clause-kept c).After-spot_of-spot) c.take_in.ensures.counts) refl refl refl c.if-s-eq2.false
    (elim c.else-stored.branch [
      | else-stored-via-then-stored+else-spot-f w ↦ stored_below _ _ c.args.r _ _ (spot_there (goal.at.returns-else-stored-clause-kept c).After-spot_of-spot) (λ e. w.if-spot-f.false (omega (arith, e)))
      | else-stored-via-else-stored w ↦ not_stored _ _ w.if-stored.false
    ])
