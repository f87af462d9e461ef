-- `go`. The loop's invariant: the pass goes, and there is room for one text more. The measure is what is left of the drawer.
use Rattle.std.proofs.Common.{◌-◌, ◌≤◌}
use Rattle.replay_drawer.specs.Pass.{Goes}
use Rattle.replay_drawer.proofs.Pass.go.Given as goal

abbrev pub invariant-loop-self : goal.invariant-loop-self
invariant-loop-self l = Goes l.self × (l.waiting.waits ≤ 47024)

abbrev pub decreases-loop-self : goal.decreases-loop-self
decreases-loop-self l = l.self.size - l.self.at
