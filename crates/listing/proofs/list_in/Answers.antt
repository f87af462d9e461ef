-- `list_in` meets its contract: the invariant is that the first j entries are listed, and each branch lists one more.
use mathlib.Core.Path.{sym, ◌∙◌}
use Rattle.arrays.specs.Numbers.{no_row}
use Rattle.arrays.proofs.Rows.{ranked_row}
use Rattle.listing.specs.Queue.{no_waiter}
use Rattle.listing.proofs.Loop.{starts, room, lists_it, keeps_it}
use native.Mathlib.Omega.{arith}
use Rattle.listing.proofs.list_in.Goals as goal
use Rattle.listing.proofs.list_in.Goals.{then-is_counted, else-is_counted}

pub loop-j-init : goal.loop-j-init
loop-j-init c = starts c.requires

pub overflow_add-rank : goal.overflow_add-rank
overflow_add-rank c = omega (arith, room c.loop-j.invariant c.loop-j-test.true)

pub bounds-rows-w : goal.bounds-rows-w
unfolding no_waiter
bounds-rows-w c = omega (arith, room c.loop-j.invariant c.loop-j-test.true)

pub offset_bounds-queue-kept : goal.offset_bounds-queue-kept
offset_bounds-queue-kept c = omega (arith, room c.loop-j.invariant c.loop-j-test.true)

pub bounds-queue-kept : goal.bounds-queue-kept
bounds-queue-kept c = omega (arith, room c.loop-j.invariant c.loop-j-test.true)

pub overflow_add-kept : goal.overflow_add-kept
overflow_add-kept c = omega (arith, room c.loop-j.invariant c.loop-j-test.true)

pub loop-j-preserved : goal.loop-j-preserved
unfolding no_waiter no_row ranked_row
loop-j-preserved c =
    let inv = c.loop-j.invariant in
    let taken = c.loop-j-test.true in
    elim c.if-is_counted.branch [
      | then-is_counted w ↦ rw (w.queue-is, w.rows-is, w.rank-is, w.kept-is) (lists_it inv taken (sym c.is_counted.ensures ∙ w.if-is_counted.true))
      | else-is_counted w ↦ rw (w.queue-is, w.rows-is, w.rank-is, w.kept-is) (keeps_it inv taken (omega arith) (sym c.is_counted.ensures ∙ w.if-is_counted.false))
    ]
