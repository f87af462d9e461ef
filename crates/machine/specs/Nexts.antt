-- What one step promises: the next record, whether its SC succeeded, and the memory.
use Rattle.std.specs.Prelude.{◌≡◌, ℕ, ◌^◌, ◌<◌, ◌≤◌}
use Rattle.recording.specs.declared.Form.{Form as Told}
use Rattle.meaning.specs.Shape.{Form, formed}
use Rattle.meaning.specs.Steps.{Memory, Process, Effect, effect, access_of, next_record}
use Rattle.spots.specs.Spot.{last_step}
use Rattle.climb.specs.Climb.{Known}
use Rattle.machine.specs.Arrays.{memory_of, process_of}
use Rattle.machine.specs.declared.Memory.{Memory as Nodes}
use Rattle.machine.specs.declared.Process.{Process as Record}

-- the last step of an addition in the highest tree
abbrev pub highest_step : ℕ
highest_step = 50

-- a form that is known, a process of that tree, and a step of its operation
pub record CanStep (f : Told) (p : ℕ) (r : Record) : Type 0 where
  pub known : Known f
  pub process : p < 2 ^ f.height
  pub busy : 1 ≤ r.step
  pub last : r.step ≤ last_step (formed f) p r.adds

unfoldable pub effect_of : Form → ℕ → Process → Memory → Effect
effect_of F p r m = effect F p r m (access_of F p r)

pub record Nexts (f : Told) (p : ℕ) (r : Record) (before after : Nodes) (r' : Record) : Type 0 where
  pub process : process_of r' ≡ next_record (formed f) p (process_of r) (effect_of (formed f) p (process_of r) (memory_of before))
  pub stored : r'.stored ≡ (effect_of (formed f) p (process_of r) (memory_of before)).stored
  pub memory : memory_of after ≡ (effect_of (formed f) p (process_of r) (memory_of before)).memory
