-- `attempt`: each way out is one case of `attempted`, over the bounds that the calls before it give.
use mathlib.Core.Path.{refl, ◌∙◌}
use native.Mathlib.Omega.{arith}
use borrow.Author.Rules.{rules}
use Rattle.counts.proofs.Stores.{node_stored_lem}
use Rattle.counts.proofs.Attempts.{Under, within_node, linked, group_read_lem, node_taken_in, node_kept}
use Rattle.counts.proofs.Counts.attempt.Goals as goal
use Rattle.counts.proofs.Counts.attempt.Goals.{After-first_under-lo}

under : (c : After-first_under-lo) → Under c.args.p c.args.spot.level c.first_under-lo.result
under c = record { first = c.first_under-lo.ensures.0; inside = c.first_under-lo.ensures.1 }

pub returns-then-i-eq0-clause-counts : goal.returns-then-i-eq0-clause-counts
returns-then-i-eq0-clause-counts c =
    linked _ _ _ _ _ (omega (arith, c.if-i-eq0.true))

pub overflow_add-from : goal.overflow_add-from
overflow_add-from c =
    omega (arith, within_node (under (goal.at.overflow_add-from c).After-first_under-lo) (omega (arith, c.group_at-g.ensures.inside)) c.leaves_under.ensures)

pub overflow_add-to : goal.overflow_add-to
overflow_add-to c =
    omega (arith, within_node (under (goal.at.overflow_add-to c).After-first_under-lo) c.group_at-g.ensures.inside c.leaves_under-then-i-groups.ensures)

pub read_child-requires : goal.read_child-requires
read_child-requires c =
    let m = within_node (under (goal.at.read_child-requires c).After-first_under-lo) c.group_at-g.ensures.inside c.leaves_under-then-i-groups.ensures in search rules

pub returns-then-i-groups-clause-counts : goal.returns-then-i-groups-clause-counts
returns-then-i-groups-clause-counts c =
    c.read_child.ensures.counts
    ∙ group_read_lem _ _ _ _ _ (under (goal.at.returns-then-i-groups-clause-counts c).After-first_under-lo) _ (λ e. omega (arith, e, c.if-i-eq0.false)) c.if-i-groups.true c.groups.ensures
    c.group_at-g.ensures c.leaves_under.ensures c.leaves_under-then-i-groups.ensures

pub overflow_add-hi : goal.overflow_add-hi
overflow_add-hi c =
    omega (arith, within_node (under (goal.at.overflow_add-hi c).After-first_under-lo) (omega arith) c.leaves_under-then-stored.ensures)

pub store-self-requires : goal.store-self-requires
store-self-requires c =
    let m = within_node (under (goal.at.store-self-requires c).After-first_under-lo) (omega arith) c.leaves_under-then-stored.ensures in search rules

pub returns-then-stored-clause-counts : goal.returns-then-stored-clause-counts
returns-then-stored-clause-counts c =
    node_stored_lem _ _ _ _ _ _ c.store-self.ensures refl refl
    ∙ node_taken_in _ _ _ _ _ (under (goal.at.returns-then-stored-clause-counts c).After-first_under-lo) (λ e. omega (arith, e, c.if-i-groups.false)) c.groups.ensures c.if-stored.true
    c.leaves_under-then-stored.ensures

pub returns-else-stored-clause-counts : goal.returns-else-stored-clause-counts
returns-else-stored-clause-counts c =
    node_kept _ _ _ _ _ (λ e. omega (arith, e, c.if-i-groups.false)) c.groups.ensures c.if-stored.false
