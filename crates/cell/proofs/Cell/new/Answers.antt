-- `Cell::new`: the value 0, and what `empty` gives.
use Rattle.cell.specs.Cell.{initial, state_of}
use Rattle.cell.proofs.Cell.new.Goals as goal

pub returns : goal.returns
unfolding initial state_of
returns c = λ i. record { value = 0; linked = c.empty-links.ensures i }
