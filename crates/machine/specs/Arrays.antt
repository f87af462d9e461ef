-- The definition's functions as the code keeps them: numbers in arrays, sets of processes in a u64 each.
use Rattle.std.specs.Prelude.{ℕ, Bool, false, cond, ◌==◌}
use Rattle.sets.specs.Processes.{is_in}
use Rattle.arrays.specs.Arrays.{as_fun}
use Rattle.meaning.specs.Steps.{Memory, Process}
use Rattle.machine.specs.declared.Memory.{Memory as Nodes}
use Rattle.machine.specs.declared.Children.{Children}
use Rattle.machine.specs.declared.Process.{Process as Record}

-- the memory that the nodes' values and link sets are
unfoldable pub memory_of : Nodes → Memory
memory_of m = record { value = as_fun m.values; linked = λ x. is_in (as_fun m.links x) }

-- what was seen of a node's two children, by their numbers
unfoldable pub seen_by : Children → ℕ → ℕ
seen_by s c = cond (c == 0) s.left (cond (c == 1) s.right 0)

-- the definition's record of a process that the code's is
unfoldable pub process_of : Record → Process
process_of r =
    record {
      step = r.step;
      operation = r.operation;
      adds = r.adds;
      delta = r.delta;
      seen = r.seen;
      children = seen_by r.children;
    }

-- a record that is idle, and one right after its start record
unfoldable pub idle_record : Record
idle_record =
    record {
      delta = 0;
      seen = 0;
      children = record { left = 0; right = 0 };
      operation = 0;
      step = 0;
      adds = false;
      stored = false;
    }

unfoldable pub started_record : ℕ → Bool → ℕ → Record
started_record i adds delta =
    record {
      delta = delta;
      seen = 0;
      children = record { left = 0; right = 0 };
      operation = i;
      step = 1;
      adds = adds;
      stored = false;
    }
