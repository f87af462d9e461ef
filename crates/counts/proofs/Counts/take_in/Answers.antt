-- `take_in`: a leaf write, a step before it, or an access of an attempt.
use mathlib.Core.Path.{refl, sym, ◌∙◌}
use native.Mathlib.Omega.{arith}
use Rattle.arrays.specs.Arrays.{as_fun}
use Rattle.counts.proofs.Laws.{after_start, after_write, after_attempt}
use Rattle.counts.proofs.Stores.{leaf_stored}
use Rattle.counts.proofs.Counts.take_in.Goals as goal

pub overflow_add-self : goal.overflow_add-self
unfolding as_fun
overflow_add-self c = omega arith

pub returns-in-2-clause-counts : goal.returns-in-2-clause-counts
unfolding as_fun
returns-in-2-clause-counts c =
    leaf_stored _ _ _ (omega arith) refl refl refl ∙ sym (after_write _ _ _ _ _ _ c.in-2.is)

pub returns-in-0-clause-counts : goal.returns-in-0-clause-counts
returns-in-0-clause-counts c = sym (after_start _ _ _ _ _ _ (omega arith))

pub returns-in_default-clause-counts : goal.returns-in_default-clause-counts
returns-in_default-clause-counts c = c.attempt.ensures.counts ∙ sym (after_attempt _ _ _ _ _ _ (omega arith))
