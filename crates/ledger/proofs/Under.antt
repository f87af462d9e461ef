-- Which leaves lie under a node: those of the processes whose numbers have the same quotient by the node's width.
use Prim.Native.Nat.{ℕ, zero, suc, ◌+◌, ◌*◌, ◌/◌, ◌^◌, ◌≤◌, ◌<◌}
use native.Mathlib.Nat.{div-mul-le_self, lt-div-mul-add, div-eq_of_lt-le, le-div_iff_mul-le, div-lt_iff_lt-mul, pow-suc, suc-mul, add-mul, mul_assoc}
use native.Mathlib.Numerals.{add-one}
use native.Mathlib.Omega.{arith}
use mathlib.Core.Path.{◌≡◌, ap, subst}
use lib.Pow.{pow_pos}
use Rattle.meaning.specs.Tree.{leaf_of, left, child, ancestor}
use Rattle.history.proofs.Levels.{node_is}
use Rattle.counts.specs.Counts.{first_under}

-- a quotient, and the numbers that have it
quotient_low : (q d m : ℕ) → zero < d → q / d ≡ m → m * d ≤ q
quotient_low q d m b e = subst (λ (x : ℕ). x * d ≤ q) e (div-mul-le_self q d)

quotient_high : (q d m : ℕ) → zero < d → q / d ≡ m → q < m * d + d
quotient_high q d m b e = subst (λ (x : ℕ). q < x * d + d) e (lt-div-mul-add b)

quotient_is : (q d m : ℕ) → m * d ≤ q → q < m * d + d → q / d ≡ m
quotient_is q d m low high = div-eq_of_lt-le d low (omega (arith, suc-mul m d, ap (λ (x : ℕ). x * d) (add-one m)))

-- ---- the leaves under a node and under some of its children

-- process q's number lies from lo on, within a width
abbrev pub Within : ℕ → ℕ → ℕ → Type 0
Within lo hi q = (lo ≤ q) × (q < hi)

-- the node x is the ancestor of p's leaf l + 1 levels up, y that of q's leaf at the level of its children
module _ (h k l p q : ℕ) (e : h ≡ suc k + l) where
  abbrev x : ℕ
  x = ancestor (suc l) (leaf_of h p)

  abbrev y : ℕ
  y = ancestor l (leaf_of h q)

  here : x ≡ p / 2 ^ suc l + 2 ^ k
  here = node_is h k (suc l) (omega arith) p

  below : y ≡ q / 2 ^ l + 2 ^ suc k
  below = node_is h (suc k) l e q

  -- the first under its child number c, counted in the width of a child
  first_under_lem : (c : ℕ) → (2 * (p / 2 ^ suc l) + c) * 2 ^ l ≡ first_under (suc l) p + c * 2 ^ l
  unfolding first_under
  first_under_lem c =
      omega (
        arith,
        add-mul (2 * (p / 2 ^ suc l)) c (2 ^ l),
        mul_assoc (p / 2 ^ suc l) (2 ^ l) 2,
        mul_assoc 2 (p / 2 ^ suc l) (2 ^ l),
        ap (λ (w : ℕ). p / 2 ^ suc l * w) (pow-suc 2 l),
      )

  -- its children from one number on, up to another
  pub under_children : (from to : ℕ) → child x from ≤ y → y < child x to → Within (first_under (suc l) p + from * 2 ^ l) (first_under (suc l) p + to * 2 ^ l) q
  unfolding child left
  under_children from to low high = (
    omega (arith, first_under_lem from, (le-div_iff_mul-le {k = 2 ^ l} {x = 2 * (p / 2 ^ suc l) + from} {y = q} (pow_pos l)).0 (omega (arith, here, below, pow-suc 2 k))),
    omega (arith, first_under_lem to, (div-lt_iff_lt-mul {k = 2 ^ l} {x = q} {y = 2 * (p / 2 ^ suc l) + to} (pow_pos l)).0 (omega (arith, here, below, pow-suc 2 k))),
  )

  pub children_under : (from to : ℕ) → Within (first_under (suc l) p + from * 2 ^ l) (first_under (suc l) p + to * 2 ^ l) q → (child x from ≤ y) × (y < child x to)
  unfolding child left
  children_under from to w =
      let low : 2 * (p / 2 ^ suc l) + from ≤ q / 2 ^ l = (le-div_iff_mul-le (pow_pos l)).1 (omega (arith, first_under_lem from, w.0)) in
      let high : q / 2 ^ l < 2 * (p / 2 ^ suc l) + to = (div-lt_iff_lt-mul (pow_pos l)).1 (omega (arith, first_under_lem to, w.1)) in
      (omega (arith, here, below, pow-suc 2 k), omega (arith, here, below, pow-suc 2 k))

  -- a leaf under the node, by its own ancestor there
  up : ancestor (suc l) (leaf_of h q) ≡ q / 2 ^ suc l + 2 ^ k
  up = node_is h k (suc l) (omega arith) q

  pub under_node : ancestor (suc l) (leaf_of h q) ≡ ancestor (suc l) (leaf_of h p) → Within (first_under (suc l) p) (first_under (suc l) p + 2 ^ suc l) q
  unfolding first_under
  under_node same =
      let m : q / 2 ^ suc l ≡ p / 2 ^ suc l = omega (arith, up, here) in
      (quotient_low q (2 ^ suc l) _ (pow_pos (suc l)) m, quotient_high q (2 ^ suc l) _ (pow_pos (suc l)) m)

  pub node_under : Within (first_under (suc l) p) (first_under (suc l) p + 2 ^ suc l) q → ancestor (suc l) (leaf_of h q) ≡ ancestor (suc l) (leaf_of h p)
  unfolding first_under
  node_under w = omega (arith, up, here, quotient_is q (2 ^ suc l) (p / 2 ^ suc l) w.0 w.1)
