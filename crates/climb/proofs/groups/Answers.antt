-- `groups`: the shape that is taken has two groups, of one child each.
use mathlib.Core.Path.{sym, ap}
use native.Mathlib.Omega.{arith}
use lib.ListN.{length}
use Rattle.meaning.specs.Shape.{Shape, counting}
use Rattle.spots.proofs.Shapes.{shape_numbered}
use Rattle.climb.proofs.groups.Goals as goal

pub returns : goal.returns
unfolding counting
returns c =
    let f = c.args.f in
    record {
      is = λ x. sym (ap (λ (S : Shape). length (S.groups f.height x)) (shape_numbered f.shape c.requires));
      few = omega arith;
    }
