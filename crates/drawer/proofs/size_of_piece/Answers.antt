-- `size_of_piece` meets its contract.
use Rattle.drawer.proofs.Sizes.{size_told}
use Rattle.drawer.proofs.size_of_piece.Goals as goal

pub returns : goal.returns
returns c = size_told _ _ _ _ c.number_at.ensures c.size_within.ensures
