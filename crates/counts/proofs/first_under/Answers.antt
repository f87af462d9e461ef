-- `first_under`: the shifts clear the low l digits and lose none, and 2 ^ l divides 64.
use Prim.Native.Nat.{ℕ, ◌+◌, ◌-◌, ◌*◌, ◌/◌, ◌%◌, ◌^◌, ◌≤◌, ◌<◌}
use mathlib.Core.Path.{◌≡◌, sym, ap, ◌∙◌}
use native.Mathlib.Nat.{mul-le-mul_right, suc-mul}
use native.Mathlib.Omega.{arith}
use lib.Pow.{pow-add, shr_le, shr_lt, shl_exact}
use Rattle.counts.specs.Counts.{first_under}
use Rattle.counts.proofs.first_under.Goals as goal

under_is : (l p : ℕ) → l ≤ 6 → p < 64 → p / 2 ^ l * 2 ^ l % 2 ^ 64 ≡ first_under l p
unfolding first_under
under_is l p h k = shl_exact 6 l 64 (omega (arith, shr_le p l)) (omega arith)

under_fits : (l p : ℕ) → l ≤ 6 → p < 64 → first_under l p + 2 ^ l ≤ 64
unfolding first_under
under_fits l p h k =
    let six : (6 - l) + l ≡ 6 = omega arith in
    let whole : 2 ^ (6 - l) * 2 ^ l ≡ 64 = sym (pow-add 2 (6 - l) l) ∙ ap (λ (x : ℕ). 2 ^ x) six in
    let part : p / 2 ^ l < 2 ^ (6 - l) = shr_lt (6 - l) l (rw six k) in
    omega (arith, mul-le-mul_right (2 ^ l) part, suc-mul (p / 2 ^ l) (2 ^ l))

pub returns : goal.returns
returns c = let is = under_is _ _ c.requires.l_bound c.requires.p_bound in (is, rw is (under_fits _ _ c.requires.l_bound c.requires.p_bound))
