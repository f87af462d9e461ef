-- a drawer that is not too long has at most 16,777,216 bytes
use Rattle.replay_drawer.proofs.Sizes.{sized_small}
use Rattle.replay_drawer.proofs.print_drawer.Goals as goal

pub print_all-requires : goal.print_all-requires
print_all-requires c = sized_small _ _ c.in-Ok.ensures
