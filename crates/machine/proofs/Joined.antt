-- How a step's parts make what the step promises: the access that its number says, and the step number that the access leads to.
use Rattle.std.proofs.Common.{◌≡◌, ℕ, ◌+◌}
use Rattle.recording.specs.declared.Form.{Form as Told}
use Rattle.meaning.specs.Access.{Access}
use Rattle.meaning.specs.Shape.{formed}
use Rattle.meaning.specs.Steps.{access_of, effect, at_step, within, next_record}
use Rattle.spots.specs.Spot.{last_step}
use Rattle.spots.proofs.Laws.{steps_long}
use Rattle.machine.specs.Arrays.{memory_of, process_of}
use Rattle.machine.specs.Nexts.{Nexts, effect_of}
use Rattle.machine.specs.declared.Memory.{Memory as Nodes}
use Rattle.machine.specs.declared.Process.{Process as Record}

-- the access a, after which the process is at step k
pub record Does (f : Told) (p k : ℕ) (a : Access) (r : Record) (before after : Nodes) (r' : Record) : Type 0 where
  pub process : process_of r' ≡ at_step k (effect (formed f) p (process_of r) (memory_of before) a).process
  pub stored : r'.stored ≡ (effect (formed f) p (process_of r) (memory_of before) a).stored
  pub memory : memory_of after ≡ (effect (formed f) p (process_of r) (memory_of before) a).memory

module _ {f : Told} {p k : ℕ} {a : Access} {r : Record} {before after : Nodes} {r' : Record} where
  pub joined : access_of (formed f) p (process_of r) ≡ a
      → within (r.step + (effect (formed f) p (process_of r) (memory_of before) a).passes) (last_step (formed f) p r.adds) ≡ k
      → Does f p k a r before after r' → Nexts f p r before after r'
  unfolding effect_of next_record process_of
  joined access step d =
      record {
        process = rw (access, steps_long (formed f) p (process_of r), step) d.process;
        stored = rw access d.stored;
        memory = rw access d.memory;
      }
