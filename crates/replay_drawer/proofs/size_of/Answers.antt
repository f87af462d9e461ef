-- by the two tests
use mir.Facts.{to_z-of_z}
use Rattle.replay_drawer.proofs.Sizes.{below, above, within}
use Rattle.replay_drawer.proofs.size_of.Goals as goal

pub returns-then-end-lt0 : goal.returns-then-end-lt0
returns-then-end-lt0 c = below _ (rw (to_z-of_z c.ranges.end) at c.if-end-lt0.true)

pub returns-then-end-gt16777216 : goal.returns-then-end-gt16777216
returns-then-end-gt16777216 c = above _ (rw (to_z-of_z c.ranges.end) at c.if-end-gt16777216.true)

pub returns : goal.returns
returns c =
    let same = to_z-of_z c.ranges.end in
    rw same (within _ (rw same at c.if-end-lt0.false) (rw same at c.if-end-gt16777216.false))
