-- `node_of`: shifting right by l + 1 is going up l + 1 levels.
use Rattle.climb.proofs.Numbered.{node_of}
use Rattle.climb.proofs.node_of.Goals as goal

pub returns : goal.returns
returns c = node_of _ _ c.args.level _ c.requires c.leaf_of.ensures
