-- Which processes' leaves lie under a node of the counter's tree, and at which level it stands above them.
use Prim.Native.Nat.{ℕ, zero, suc, ◌+◌, ◌-◌, ◌^◌, ◌≤◌, ◌<◌}
use native.Mathlib.Nat.{div-eq_of_lt}
use native.Mathlib.Omega.{arith}
use mathlib.Core.Path.{◌≡◌, refl, sym, ap, ◌∙◌}
use mathlib.Core.Logic.{◌⊎◌, inl, inr, ⊎_elim}
use mathlib.Core.Bool.{Bool, true, false, cond, ◌&&◌}
use lib.Dec.{ltb, eqb}
use borrow.Author.Tests.{ltb-true, ltb-false, lt-ltb, eqb-true, eqb-false, eq-eqb}
use Rattle.meaning.specs.Tree.{processes, leaf_of, parent, ancestor}
use Rattle.history.proofs.Levels.{same_level, node_is}
use Rattle.history.proofs.Turns.{false_true}
use Rattle.counter.specs.SumTree.{seek, level_over, is_over}

pub and_both : (a b : Bool) → (a && b) ≡ true → (a ≡ true) × (b ≡ true)
and_both true b e = (refl, e)
and_both false b e = absurd (false_true e)

pub ancestor_none : (x : ℕ) → ancestor 0 x ≡ x
unfolding ancestor
ancestor_none x = refl

pub ancestor_more : (l x : ℕ) → ancestor (suc l) x ≡ parent (ancestor l x)
unfolding ancestor
ancestor_more l x = refl

seek_le : (l c x : ℕ) → seek l c x ≤ l
unfolding seek
seek_le zero c x = omega arith
seek_le (suc l) c x = go (eqb (ancestor (suc l) c) x) (seek_le l c x)
  where
    go : (t : Bool) → seek l c x ≤ l → cond t (suc l) (seek l c x) ≤ suc l
    go true b = omega arith
    go false b = omega arith

-- the level found is the one, where no other level has the same node
seek_is : (n l c x : ℕ) → l ≤ n → ancestor l c ≡ x → ((k : ℕ) → k ≤ n → ancestor k c ≡ x → k ≡ l) → seek n c x ≡ l
unfolding seek
seek_is zero l c x b e one = omega arith
seek_is (suc n) l c x b e one = go (eqb (ancestor (suc n) c) x) refl (λ below. seek_is n l c x below e (λ k d. one k (omega arith)))
  where
    go : (t : Bool) → eqb (ancestor (suc n) c) x ≡ t → (l ≤ n → seek n c x ≡ l) → cond t (suc n) (seek n c x) ≡ l
    go true d rest = one (suc n) (omega arith) (eqb-true (ancestor (suc n) c) x d)
    go false d rest = rest (other (eqb-false (ancestor (suc n) c) x d))
      where
        other : (ancestor (suc n) c ≡ x → ⊥) → l ≤ n
        other none = ⊎_elim (λ s. s) (λ s. absurd (none (ap (λ (k : ℕ). ancestor k c) (sym s) ∙ e))) (less l b)
          where
            less : (l : ℕ) → l ≤ suc n → (l ≤ n) ⊎ (l ≡ suc n)
            less l b = split (ltb l (suc n)) refl
              where
                split : (t : Bool) → ltb l (suc n) ≡ t → (l ≤ n) ⊎ (l ≡ suc n)
                split true d = inl (let v = ltb-true l (suc n) d in omega arith)
                split false d = inr (let v = ltb-false l (suc n) d in omega arith)

-- the node above a leaf, by its level
pub record Above (h x q : ℕ) : Type 0 where
  pub level : ℕ
  pub low : level ≤ h
  pub inside : q < 2 ^ h
  pub is : ancestor level (leaf_of h q) ≡ x

module _ (h : ℕ) where
  -- two levels above one leaf, or above two, that have one node are one
  pub one_level : (x k l q d : ℕ) → k ≤ h → l ≤ h → q < 2 ^ h → d < 2 ^ h → ancestor k (leaf_of h q) ≡ x → ancestor l (leaf_of h d) ≡ x → k ≡ l
  one_level x k l q d a b c e f g = same_level h (h - k) k (h - l) l q d (omega arith) (omega arith) c e (f ∙ sym g)

  pub level_is : (x l q : ℕ) → l ≤ h → q < 2 ^ h → ancestor l (leaf_of h q) ≡ x → level_over h x q ≡ l
  unfolding level_over
  level_is x l q b c e = seek_is h l (leaf_of h q) x b e (λ k d f. one_level x k l q q d b c c f e)

  pub over_by : (x l q : ℕ) → l ≤ h → q < 2 ^ h → ancestor l (leaf_of h q) ≡ x → is_over h x q ≡ true
  unfolding is_over processes
  over_by x l q b c e = rw (level_is x l q b c e, lt-ltb q (2 ^ h) c) (eq-eqb (ancestor l (leaf_of h q)) x e)

  pub above : (x q : ℕ) → is_over h x q ≡ true → Above h x q
  unfolding is_over processes level_over
  above x q o =
      let v = and_both (ltb q (2 ^ h)) _ o in
      record { level = level_over h x q; low = seek_le h (leaf_of h q) x; inside = ltb-true q (2 ^ h) v.0; is = eqb-true (ancestor (level_over h x q) (leaf_of h q)) x v.1 }

  -- the root is over every leaf, at level h
  pub top : (q : ℕ) → q < 2 ^ h → ancestor h (leaf_of h q) ≡ 1
  top q b = node_is h 0 h (omega arith) q ∙ ap (λ (n : ℕ). n + 1) (div-eq_of_lt b)

  -- a leaf is no inner node, and an inner node stands above level 0
  pub leaf_high : (q : ℕ) → 2 ^ h ≤ leaf_of h q
  unfolding leaf_of processes
  leaf_high q = omega arith

  pub inner_high : (x q : ℕ) (v : Above h x q) → x < 2 ^ h → 1 ≤ v.level
  inner_high x q v b = go v.level refl
    where
      go : (l : ℕ) → v.level ≡ l → 1 ≤ l
      go zero e = absurd (omega (arith, leaf_high q, sym (ancestor_none (leaf_of h q)) ∙ ap (λ (k : ℕ). ancestor k (leaf_of h q)) (sym e) ∙ v.is))
      go (suc l) e = omega arith
