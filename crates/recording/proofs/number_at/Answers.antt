use Rattle.std.proofs.Common.{rules}
use Rattle.recording.specs.Numbers.{number_at}
use Rattle.recording.proofs.number_at.Goals as goal

pub returns : goal.returns
unfolding number_at
returns c = search rules
