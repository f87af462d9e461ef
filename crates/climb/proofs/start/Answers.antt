-- `start`: the spot, field by field.
use mathlib.Core.Path.{refl}
use Rattle.climb.specs.Climb.{nowhere}
use Rattle.climb.proofs.start.Goals as goal

pub returns : goal.returns
unfolding nowhere
returns c = refl
