-- The counter's tree obeys the laws of a tree, for every height.
use Prim.Native.Nat.{ℕ, zero, suc, ◌+◌, ◌%◌, ◌^◌, ◌≤◌, ◌<◌}
use native.Mathlib.Omega.{arith}
use mathlib.Core.Path.{◌≡◌, refl, sym, ap, ap₂, ◌∙◌}
use mathlib.Core.Logic.{◌⊎◌, inl, inr}
use mathlib.Core.Bool.{Bool, true, false, cond}
use lib.Dec.{ltb}
use borrow.Author.Tests.{ltb-true, ltb-false, lt-ltb, le-ltb}
use Rattle.meaning.specs.Tree.{processes, leaf_of, left, right, parent, ancestor}
use Rattle.meaning.specs.Shape.{plus}
use Rattle.tree.specs.Tree.{Laws}
use Rattle.history.proofs.Levels.{left_or_right, left_not_right}
use Rattle.history.proofs.Turns.{false_true}
use Rattle.counter.specs.SumTree.{is_over, sum_under, sum_tree}
use Rattle.counter.proofs.Overs.{Above, above, over_by, one_level, top, leaf_high, inner_high, ancestor_none, ancestor_more}
use Rattle.counter.proofs.Sums.{sum_same, sum_split, sum_one, plus_left, plus_right}

abbrev pub IsInner : ℕ → ℕ → Type 0
IsInner h x = (1 ≤ x) × (x < 2 ^ h)

module _ (h : ℕ) where
  -- ---- above and below

  -- a child of an inner node stands below the root
  pub child_low : (x y d : ℕ) → IsInner h x → parent y ≡ x → (v : Above h y d) → suc v.level ≤ h
  unfolding parent
  child_low x y d i e v = go (ltb v.level h) refl
    where
      go : (t : Bool) → ltb v.level h ≡ t → suc v.level ≤ h
      go true b = ltb-true v.level h b
      go false b =
          let l : v.level ≡ h = (let c = ltb-false v.level h b in omega (arith, v.low)) in
          let one : y ≡ 1 = sym v.is ∙ ap (λ (k : ℕ). ancestor k (leaf_of h d)) l ∙ top h d v.inside in
          absurd (omega (arith, i.0))

  -- the node above a child, by its level
  node_above : (x y d : ℕ) → parent y ≡ x → (v : Above h y d) → ancestor (suc v.level) (leaf_of h d) ≡ x
  node_above x y d e v = ancestor_more v.level (leaf_of h d) ∙ ap parent v.is ∙ e

  pub parts_of : (x y d : ℕ) → IsInner h x → parent y ≡ x → is_over h y d ≡ true → is_over h x d ≡ true
  parts_of x y d i e o = let v = above h y d o in over_by h x (suc v.level) d (child_low x y d i e v) v.inside (node_above x y d e v)

  pub toward_of : (x d : ℕ) → IsInner h x → is_over h x d ≡ true → (y : ℕ) × (IsInner h x × (parent y ≡ x)) × (is_over h y d ≡ true)
  toward_of x d i o = go v.level refl
    where
      v : Above h x d
      v = above h x d o

      go : (l : ℕ) → v.level ≡ l → (y : ℕ) × (IsInner h x × (parent y ≡ x)) × (is_over h y d ≡ true)
      go zero e = absurd (omega (arith, inner_high h x d v i.1))
      go (suc l) e = (
        ancestor l (leaf_of h d),
        (i, sym (ancestor_more l (leaf_of h d)) ∙ ap (λ (k : ℕ). ancestor k (leaf_of h d)) (sym e) ∙ v.is),
        over_by h (ancestor l (leaf_of h d)) l d (omega (arith, v.low)) v.inside refl,
      )

  pub only_of : (x y z d : ℕ) → IsInner h x → parent y ≡ x → parent z ≡ x → is_over h y d ≡ true → is_over h z d ≡ true → y ≡ z
  only_of x y z d i e f o u =
      let v = above h y d o in
      let w = above h z d u in
      let j : suc v.level ≡ suc w.level = one_level h x (suc v.level) (suc w.level) d d (child_low x y d i e v) (child_low x z d i f w) v.inside w.inside (node_above x y d e v) (node_above x z d f w) in
      let s : v.level ≡ w.level = omega arith in
      sym v.is ∙ ap (λ (l : ℕ). ancestor l (leaf_of h d)) s ∙ w.is

  pub lies_of : (d : ℕ) → d < 2 ^ h → is_over h (leaf_of h d) d ≡ true
  lies_of d b = over_by h (leaf_of h d) 0 d (omega arith) b (ancestor_none (leaf_of h d))

  pub own_of : (c d : ℕ) → c < 2 ^ h → is_over h (leaf_of h c) d ≡ true → d ≡ c
  unfolding leaf_of
  own_of c d b o =
      let v = above h (leaf_of h c) d o in
      let l : v.level ≡ 0 = one_level h (leaf_of h c) v.level 0 d c v.low (omega arith) v.inside b v.is (ancestor_none (leaf_of h c)) in
      let same : leaf_of h d ≡ leaf_of h c = sym (ancestor_none (leaf_of h d)) ∙ ap (λ (k : ℕ). ancestor k (leaf_of h d)) (sym l) ∙ v.is in
      omega arith

  -- ---- sums

  abbrev term : ℕ → (ℕ → ℕ) → ℕ → ℕ
  term x a q = cond (is_over h x q) (a q) 0

  term_not : (x : ℕ) (a : ℕ → ℕ) (q : ℕ) → (is_over h x q ≡ true → ⊥) → term x a q ≡ 0
  term_not x a q n = go (is_over h x q) refl
    where
      go : (t : Bool) → is_over h x q ≡ t → cond t (a q) 0 ≡ 0
      go true e = absurd (n e)
      go false e = refl

  pub under_same : (x : ℕ) (a b : ℕ → ℕ) → ((q : ℕ) → is_over h x q ≡ true → a q ≡ b q) → sum_under h x a ≡ sum_under h x b
  unfolding sum_under
  under_same x a b e = sum_same (processes h) (term x a) (term x b) (λ q l. go q (is_over h x q) refl)
    where
      go : (q : ℕ) (t : Bool) → is_over h x q ≡ t → cond t (a q) 0 ≡ cond t (b q) 0
      go q true d = e q d
      go q false d = refl

  under_leaf : (c : ℕ) (a : ℕ → ℕ) → c < 2 ^ h → sum_under h (leaf_of h c) a ≡ a c
  unfolding sum_under processes
  under_leaf c a b =
      sum_one (2 ^ h) c (term (leaf_of h c) a) b (λ q l n. term_not (leaf_of h c) a q (λ o. n (own_of c q b o))) ∙ ap (λ (t : Bool). cond t (a c) 0) (lies_of c b)

  pub on_left : (x : ℕ) → parent (left x) ≡ x
  unfolding parent left
  on_left x = omega arith

  pub on_right : (x : ℕ) → parent (right x) ≡ x
  unfolding parent right
  on_right x = omega arith

  term_yes : (x : ℕ) (a : ℕ → ℕ) (q : ℕ) → is_over h x q ≡ true → term x a q ≡ a q
  term_yes x a q o = ap (λ (t : Bool). cond t (a q) 0) o

  -- the terms under a node are those under its two children
  under_node : (x : ℕ) (a : ℕ → ℕ) → IsInner h x → sum_under h x a ≡ sum_under h (left x) a + sum_under h (right x) a
  unfolding sum_under
  under_node x a i = sum_split (processes h) (term x a) (term (left x) a) (term (right x) a) (λ q l. go q (is_over h x q) refl)
    where
      towards : (q y : ℕ) → parent y ≡ x → is_over h y q ≡ true → (y ≡ left (parent y)) ⊎ (y ≡ right (parent y)) → a q ≡ term (left x) a q + term (right x) a q
      towards q y e o (inl s) =
          let y' : y ≡ left x = s ∙ ap left e in
          let o' : is_over h (left x) q ≡ true = ap (λ (z : ℕ). is_over h z q) (sym y') ∙ o in
          omega (arith, term_yes (left x) a q o', term_not (right x) a q (λ u. left_not_right x (only_of x (left x) (right x) q i (on_left x) (on_right x) o' u)))
      towards q y e o (inr s) =
          let y' : y ≡ right x = s ∙ ap right e in
          let o' : is_over h (right x) q ≡ true = ap (λ (z : ℕ). is_over h z q) (sym y') ∙ o in
          omega (arith, term_yes (right x) a q o', term_not (left x) a q (λ u. left_not_right x (only_of x (left x) (right x) q i (on_left x) (on_right x) u o')))

      go : (q : ℕ) (t : Bool) → is_over h x q ≡ t → cond t (a q) 0 ≡ term (left x) a q + term (right x) a q
      go q false d =
          let l = term_not (left x) a q (λ o. false_true (sym d ∙ parts_of x (left x) q i (on_left x) o)) in
          let r = term_not (right x) a q (λ o. false_true (sym d ∙ parts_of x (right x) q i (on_right x) o)) in
          omega (arith, l, r)
      go q true d = let v = toward_of x q i d in towards q v.0 v.1.1 v.2 (left_or_right v.0)

  abbrev told : ℕ → (ℕ → ℕ) → ℕ
  told x a = cond (ltb x (2 ^ h)) (sum_under h x a % 2 ^ 32) (sum_under h x a)

  -- reduced or not, it is one summand of a node's sum
  told_plus : (x y : ℕ) (a : ℕ → ℕ) → plus (told x a) (told y a) ≡ plus (sum_under h x a) (sum_under h y a)
  told_plus x y a = go (ltb x (2 ^ h)) (ltb y (2 ^ h))
    where
      go : (s t : Bool) → plus (cond s (sum_under h x a % 2 ^ 32) (sum_under h x a)) (cond t (sum_under h y a % 2 ^ 32) (sum_under h y a)) ≡ plus (sum_under h x a) (sum_under h y a)
      go true true = plus_left _ _ ∙ plus_right _ _
      go true false = plus_left _ _
      go false true = plus_right _ _
      go false false = refl

  told_leaf : (c : ℕ) (a : ℕ → ℕ) → c < 2 ^ h → told (leaf_of h c) a ≡ a c
  told_leaf c a b = ap (λ (t : Bool). cond t (sum_under h (leaf_of h c) a % 2 ^ 32) (sum_under h (leaf_of h c) a)) (le-ltb (leaf_of h c) (2 ^ h) (leaf_high h c)) ∙ under_leaf c a b

  told_node : (x : ℕ) (a : ℕ → ℕ) → IsInner h x → told x a ≡ plus (told (left x) a) (told (right x) a)
  unfolding plus
  told_node x a i =
      ap (λ (t : Bool). cond t (sum_under h x a % 2 ^ 32) (sum_under h x a)) (lt-ltb x (2 ^ h) i.1) ∙ ap (λ (n : ℕ). n % 2 ^ 32) (under_node x a i) ∙ sym (told_plus (left x) (right x) a)

  told_same : (x : ℕ) (a b : ℕ → ℕ) → ((q : ℕ) → is_over h x q ≡ true → a q ≡ b q) → told x a ≡ told x b
  told_same x a b e = ap (λ (n : ℕ). cond (ltb x (2 ^ h)) (n % 2 ^ 32) n) (under_same x a b e)

  pub sum_laws : Laws (sum_tree h)
  unfolding sum_tree processes plus
  sum_laws =
      record {
        inner = λ c. c.0;
        outer = λ {y} {d} o i. omega (arith, i.1, leaf_high h d);
        parts = λ {x} {y} {d} c o. parts_of x y d c.0 c.1 o;
        toward = λ {x} {d} i o. toward_of x d i o;
        only = λ {x} {y} {z} {d} c e o u. only_of x y z d c.0 c.1 e.1 o u;
        lies = λ {y} {d} o. lies_of d (above h y d o).inside;
        own = λ {c} {d} o u. own_of c d (above h (leaf_of h c) c o).inside u;
        at_leaf = λ c a o. told_leaf c a (above h (leaf_of h c) c o).inside;
        at_node = λ x a i. told_node x a i;
        node_of = λ x f g i e. ap₂ plus (e (left x) (i, on_left x)) (e (right x) (i, on_right x));
        joined_of = λ x a b e. told_same x a b e;
      }
