-- `read_child`: what is read is the row of the child's level, the leaves' own or one of the six above.
use mathlib.Core.Path.{refl}
use Rattle.counts.proofs.Stores.{leaves_level, node_level, read_stored}
use Rattle.counts.proofs.Counts.read_child.Goals as goal

pub returns-then-l-eq0-clause-counts : goal.returns-then-l-eq0-clause-counts
returns-then-l-eq0-clause-counts c =
    read_stored _ _ _ _ _ _ _ (leaves_level _ _ _ c.if-l-eq0.true) refl refl c.read_row.ensures.read

pub returns-else-l-eq0-clause-counts : goal.returns-else-l-eq0-clause-counts
returns-else-l-eq0-clause-counts c =
    read_stored _ _ _ _ _ _ _ (node_level _ _ _ (λ e. c.if-l-eq0.false e)) refl refl c.read_row-else-l-eq0.ensures.read
