-- `list_in` meets its contract: the invariant is that the first j entries are listed, and each branch lists one more.
use Prim.Native.Nat.{◌-◌}
use Rattle.arrays.specs.Arrays.{as_fun}
use Rattle.listing.proofs.Loop.{Walk}
use Rattle.listing.proofs.list_in.Given as goal

abbrev pub invariant-loop-j : goal.invariant-loop-j
invariant-loop-j l = Walk l.initial.queue l.initial.rows (as_fun l.counts) l.waiting l.initial.rank l.queue l.rows l.rank l.kept l.j

abbrev pub decreases-loop-j : goal.decreases-loop-j
decreases-loop-j l = l.waiting - l.j
