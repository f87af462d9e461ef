-- `group_at`: the shape that is taken reads the left child, then the right one.
use Prim.Native.Nat.{ℕ, zero, suc, ◌<◌}
use mathlib.Core.Path.{◌≡◌, refl, sym, ap, ◌∙◌}
use native.Mathlib.Omega.{arith}
use lib.ListN.{get_or}
use Rattle.meaning.specs.Shape.{Shape, the_one, counting}
use Rattle.spots.proofs.Shapes.{shape_numbered}
use Rattle.climb.proofs.group_at.Goals as goal

counting_from : (h x i : ℕ) → i < 2 → i ≡ (get_or (counting.groups h x) i (the_one 0)).from
unfolding counting
counting_from h x zero b = refl
counting_from h x (suc zero) b = refl
counting_from h x (suc (suc i)) b = absurd (omega arith)

counting_count : (h x i : ℕ) → i < 2 → 1 ≡ (get_or (counting.groups h x) i (the_one 0)).count
unfolding counting
counting_count h x zero b = refl
counting_count h x (suc zero) b = refl
counting_count h x (suc (suc i)) b = absurd (omega arith)

pub returns : goal.returns
returns c =
    let f = c.args.f in
    let i = c.args.i in
    let is = shape_numbered f.shape c.requires.shape_le_highest_shape in
    record {
      from = λ x. counting_from f.height x i c.requires.i_bound ∙ sym (ap (λ (S : Shape). (get_or (S.groups f.height x) i (the_one 0)).from) is);
      count = λ x. counting_count f.height x i c.requires.i_bound ∙ sym (ap (λ (S : Shape). (get_or (S.groups f.height x) i (the_one 0)).count) is);
      some = omega arith;
      inside = omega (arith, c.requires.i_bound);
    }
