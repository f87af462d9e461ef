-- `write` meets its contract: each arm lays the bytes of the event that the pattern took apart.
use mathlib.Core.Path.{ap}
use Rattle.recording.specs.Numbers.{four_bytes}
use Rattle.recording.specs.Record.{bytes_of}
use Rattle.recording.proofs.write.Goals as goal

pub returns-in-Step : goal.returns-in-Step
unfolding bytes_of
returns-in-Step c = c.lay.ensures _ (ap bytes_of c.in-Step.is)

pub returns-in-Read : goal.returns-in-Read
unfolding bytes_of
returns-in-Read c = c.lay-in-Read.ensures _ (ap bytes_of c.in-Read.is)

pub returns-in-Add : goal.returns-in-Add
unfolding bytes_of four_bytes
returns-in-Add c = c.lay-in-Add.ensures _ (rw c.to_be_bytes.ensures (ap bytes_of c.in-Add.is))
