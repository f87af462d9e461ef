-- `wait` meets its contract: one store inside the array.
use Rattle.listing.specs.Queue.{waiter_of}
use Rattle.listing.proofs.Laws.{waiters_set}
use Rattle.listing.proofs.wait.Goals as goal

pub returns : goal.returns
unfolding waiter_of
returns c = waiters_set _ _ _ c.requires.0
