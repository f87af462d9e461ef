-- `form_of`: byte 5, as a wider number, and shape 0.
use mathlib.Core.Path.{refl}
use native.Mathlib.Omega.{arith}
use Rattle.meaning.specs.Layout.{height, shape_of}
use Rattle.rules.proofs.form_of.Goals as goal

pub overflow_cast-result : goal.overflow_cast-result
overflow_cast-result c = omega (arith, c.shared_slice_known-1.given 5)

pub returns : goal.returns
unfolding height shape_of
returns c = refl
