-- A tree as the paper's Tree Algorithm takes it (sections 3 and 4): any shape, any function at the nodes, components anywhere under it.
use Rattle.std.specs.Prelude.{ℕ, ◌≡◌}

-- The data. Places and components have numbers; a component's writes go to its own place, its leaf. A is what a place holds.
pub record Tree (A : Type 0) : Type 1 where
  pub root : ℕ
  pub leaf : ℕ → ℕ
  -- x is an inner node; y is a child of x; the component d hangs at or under the place x
  pub Inner : ℕ → Type 0
  pub Child : ℕ → ℕ → Type 0
  pub Over : ℕ → ℕ → Type 0
  -- what an SC at x stores, by the values that its attempt has read of the children of x
  pub node : ℕ → (ℕ → A) → A
  -- the value that belongs at the place x where the components have these values
  pub joined : ℕ → (ℕ → A) → A

-- What such a tree obeys.
pub record Laws {A : Type 0} (T : Tree A) : Type 0 where
  -- only inner nodes have children, and no leaf is one
  pub inner : {x y : ℕ} → T.Child x y → T.Inner x
  pub outer : {y d : ℕ} → T.Over y d → T.Inner (T.leaf d) → ⊥
  -- a component under a child is under its node; under one child, and under one only
  pub parts : {x y d : ℕ} → T.Child x y → T.Over y d → T.Over x d
  pub toward : {x d : ℕ} → T.Inner x → T.Over x d → (y : ℕ) × T.Child x y × T.Over y d
  pub only : {x y z d : ℕ} → T.Child x y → T.Child x z → T.Over y d → T.Over z d → y ≡ z
  -- at a component's leaf hangs this component, and no other
  pub lies : {y d : ℕ} → T.Over y d → T.Over (T.leaf d) d
  pub own : {c d : ℕ} → T.Over (T.leaf c) c → T.Over (T.leaf c) d → d ≡ c
  -- the value that belongs at a leaf is its component's, at a node its function's; it depends on nothing else
  pub at_leaf : (c : ℕ) (a : ℕ → A) → T.Over (T.leaf c) c → T.joined (T.leaf c) a ≡ a c
  pub at_node : (x : ℕ) (a : ℕ → A) → T.Inner x → T.joined x a ≡ T.node x (λ y. T.joined y a)
  pub node_of : (x : ℕ) (f g : ℕ → A) → T.Inner x → ((y : ℕ) → T.Child x y → f y ≡ g y) → T.node x f ≡ T.node x g
  pub joined_of : (x : ℕ) (a b : ℕ → A) → ((d : ℕ) → T.Over x d → a d ≡ b d) → T.joined x a ≡ T.joined x b
