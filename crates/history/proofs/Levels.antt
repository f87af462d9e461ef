-- The nodes level by level: which numbers they have, and that nodes of two levels are never one.
use Prim.Native.Nat.{ℕ, suc, ◌+◌, ◌*◌, ◌/◌, ◌%◌, ◌^◌, ◌≤◌, ◌<◌}
use native.Mathlib.Nat.{add-mul-div_right, pow-suc, add_comm}
use native.Mathlib.Omega.{arith}
use mathlib.Core.Path.{◌≡◌, refl, ap, ◌∙◌, subst}
use mathlib.Core.Logic.{◌⊎◌, inl, inr}
use mathlib.Core.Bool.{Bool, true, false}
use lib.Dec.{ltb, eqb}
use borrow.Author.Tests.{ltb-true, ltb-false, eqb-true, eqb-false}
use lib.Pow.{pow_pos, pow_mono, pow-add, shr_lt}
use Rattle.meaning.specs.Tree.{processes, leaf_of, left, right, parent, ancestor}
use Rattle.spots.proofs.Laws.{ancestor_div}

less_same_more : (a b : ℕ) → (a < b) ⊎ ((a ≡ b) ⊎ (b < a))
less_same_more a b = go (ltb a b) refl (eqb a b) refl
  where
    go : (t : Bool) → ltb a b ≡ t → (u : Bool) → eqb a b ≡ u → (a < b) ⊎ ((a ≡ b) ⊎ (b < a))
    go true d u e = inl (ltb-true a b d)
    go false d true e = inr (inl (eqb-true a b e))
    go false d false e = inr (inr (let n = eqb-false a b e in omega (arith, ltb-false a b d)))

-- ---- the node l levels above a leaf of the tree of height k + l

pub levelled : (k l q : ℕ) → ancestor l (leaf_of (k + l) q) ≡ q / 2 ^ l + 2 ^ k
unfolding leaf_of processes
levelled k l q = ancestor_div l _ ∙ ap (λ (x : ℕ). x / 2 ^ l) (ap (λ (x : ℕ). x + q) (pow-add 2 k l) ∙ add_comm (2 ^ k * 2 ^ l) q) ∙ add-mul-div_right q (2 ^ k) (pow_pos l)

-- the same, in the tree of height h, for a node that has 2 ^ k nodes beside it at its level
module _ (h k l : ℕ) (e : h ≡ k + l) where
  pub node_is : (q : ℕ) → ancestor l (leaf_of h q) ≡ q / 2 ^ l + 2 ^ k
  node_is q = rw e (levelled k l q)

  pub node_low : (q : ℕ) → 2 ^ k ≤ ancestor l (leaf_of h q)
  node_low q = omega (arith, node_is q)

  pub node_high : (q : ℕ) → q < 2 ^ h → ancestor l (leaf_of h q) < 2 ^ suc k
  node_high q b = omega (arith, node_is q, pow-suc 2 k, shr_lt {n = q} k l (subst (λ (x : ℕ). q < 2 ^ x) e b))

-- nodes of two levels are never one
pub same_level : (h k l j m p q : ℕ) → h ≡ k + l → h ≡ j + m → p < 2 ^ h → q < 2 ^ h
    → ancestor l (leaf_of h p) ≡ ancestor m (leaf_of h q) → l ≡ m
same_level h k l j m p q d e b c same = go (less_same_more k j)
  where
    go : (k < j) ⊎ ((k ≡ j) ⊎ (j < k)) → l ≡ m
    go (inl w) = absurd (omega (arith, node_high h k l d p b, node_low h j m e q, pow_mono w))
    go (inr (inl w)) = omega arith
    go (inr (inr w)) = absurd (omega (arith, node_low h k l d p, node_high h j m e q c, pow_mono w))

-- a child is the left or the right one of its parent
pub left_or_right : (y : ℕ) → (y ≡ left (parent y)) ⊎ (y ≡ right (parent y))
unfolding left right parent
left_or_right y = go (eqb (y % 2) 0) refl
  where
    go : (t : Bool) → eqb (y % 2) 0 ≡ t → (y ≡ 2 * (y / 2)) ⊎ (y ≡ 2 * (y / 2) + 1)
    go true d = inl (omega (arith, eqb-true (y % 2) 0 d))
    go false d = inr (let n = eqb-false (y % 2) 0 d in omega arith)

pub left_not_right : (x : ℕ) → left x ≡ right x → ⊥
unfolding left right
left_not_right x e = omega arith
