-- `second_link`: the definition's two tests, one after the other, at the spot of the step.
use Rattle.climb.specs.Climb.{spot_is}
use Rattle.ledger.specs.Kept.{second_link}
use Rattle.keeping.proofs.second_link.Goals as goal

pub returns-then-spot : goal.returns-then-spot
unfolding second_link spot_is
returns-then-spot c p adds low last = rw (← (c.spot_of-spot.ensures p adds low last).is, c.if-spot.true)

pub returns-else-spot : goal.returns-else-spot
unfolding second_link spot_is
returns-else-spot c p adds low last = rw (← (c.spot_of-spot.ensures p adds low last).is, c.if-spot.false)
