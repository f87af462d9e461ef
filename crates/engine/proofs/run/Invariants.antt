-- `run` meets its contract: each way out is one of the invariant's, and each turn takes it on by one record.
use Prim.Native.Nat.{◌-◌}
use lib.ListN.{length}
use Rattle.engine.proofs.Runs.{RunsKept}
use Rattle.engine.proofs.run.Given as goal

abbrev pub invariant-loop-passed : goal.invariant-loop-passed
invariant-loop-passed g l =
    RunsKept l.s l.f l.at l.memory l.procs l.busy l.m g.K.Keeper.asked (g.K.Keeper.kept l.kept) (g.K.Keeper.greatest l.kept) × g.K.Keeper.same l.initial.kept l.kept

abbrev pub decreases-loop-passed : goal.decreases-loop-passed
decreases-loop-passed g l = length l.s - l.at
