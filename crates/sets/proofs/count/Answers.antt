-- `count`: the ones of a number of 64 digits.
use mathlib.Core.Path.{ap, ◌∙◌}
use native.Mathlib.Omega.{arith}
use lib.Count.{ones}
use Rattle.sets.proofs.Digits.{ones_count}
use Rattle.sets.proofs.count.Goals as goal

pub returns : goal.returns
returns c = ap ones (omega arith) ∙ ones_count 64 c.args.set c.ranges.set.fits
