-- `leaf_of`: 2 ^ h is at most 64, so neither the shift nor the sum loses anything.
use native.Mathlib.Omega.{arith}
use lib.Pow.{pow_mono}
use Rattle.meaning.specs.Tree.{leaf_of, processes}
use Rattle.climb.proofs.leaf_of.Goals as goal

pub overflow_add-result : goal.overflow_add-result
overflow_add-result c = omega (arith, pow_mono c.requires.h_bound)

pub returns : goal.returns
unfolding leaf_of processes
returns c = record { is = omega (arith, pow_mono c.requires.h_bound); high = omega (arith, pow_mono c.requires.h_bound) }
