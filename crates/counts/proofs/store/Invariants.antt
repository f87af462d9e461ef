-- `store`: each turn stores the greater of the next two counts.
use Rattle.std.proofs.Common.{◌≡◌, ℕ, ◌<◌, ◌≤◌, max, get_or}
use Rattle.counts.proofs.store.Given as goal

abbrev pub invariant-loop-i : goal.invariant-loop-i
invariant-loop-i l =
    record {
      done : (k : ℕ) → k < l.i → get_or l.x-items k 0 ≡ max (get_or l.initial.x-items k 0) (get_or l.row k 0);
      left : (k : ℕ) → l.i ≤ k → get_or l.x-items k 0 ≡ get_or l.initial.x-items k 0;
    }
