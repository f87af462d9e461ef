-- `Process::started`: an idle record with four fields set.
use Rattle.std.proofs.Common.{ℕ, Bool, ap}
use Rattle.machine.specs.Arrays.{idle_record, started_record}
use Rattle.machine.specs.declared.Process.{Process as Record}
use Rattle.machine.proofs.Process.started.Goals as goal

abbrev set : ℕ → Bool → ℕ → Record → Record
set i adds delta r =
    record {
      delta = delta;
      seen = r.seen;
      children = r.children;
      operation = i;
      step = 1;
      adds = adds;
      stored = r.stored;
    }

pub returns : goal.returns
unfolding idle_record started_record
returns c = ap (set c.args.operation c.args.adds c.args.delta) c.idle.ensures
