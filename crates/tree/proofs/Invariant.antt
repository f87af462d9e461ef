-- The invariant of the Tree Algorithm, after the proof of the paper's Theorem 5: what a process may rely on at each place of its climb.
-- All of it is bounds on counts, which only grow.
use Prim.Native.Nat.{ℕ, ◌≤◌}
use mathlib.Core.Path.{◌≡◌}
use mathlib.Core.Bool.{Bool, true, false}
use Rattle.tree.specs.Tree.{Tree}
use Rattle.tree.specs.Machine.{Memory, Stand, Climber, Machine}

module _ {A : Type 0} (T : Tree A) where
  -- The places.
  -- mono: a node has taken in no more than its child towards a component has.
  -- cap: nor more than has been written.
  -- values: each place holds the value that belongs there where every component is as after those of its writes that are in the place.
  pub record Places (m : Memory A) : Type 0 where
    pub mono : (x y d : ℕ) → T.Child x y → T.Over y d → m.count x d ≤ m.count y d
    pub cap : (y d : ℕ) → T.Over y d → m.count y d ≤ m.count (T.leaf d) d
    pub values : (y : ℕ) → m.value y ≡ T.joined y (λ d. m.history d (m.count y d))

  -- One process p at stand s, which has read the children `got` of its node.
  -- stands: it climbs above its component.
  -- below: its own write is in the child of its node towards its component, so that a read of this child will bring it.
  -- most: what it has read is in the children, linked or not.
  -- least: while it is linked, it has read at least what is in the node, so that its store takes nothing back.
  -- mine: once it has read the child towards its component, it holds its own write.
  -- second: where its second attempt has lost its link, some store has taken its write into the node: see Pair.
  -- home: where it does not climb, its write is in the root.
  -- saw: the values it has read are those that belong to what it holds.
  pub record Climbing (m : Memory A) (p : ℕ) (s : Stand) (got : ℕ → Bool) (seen : ℕ → A) (holds : ℕ → ℕ) : Type 0 where
    pub stands : s.climbs ≡ true → T.Inner s.place × T.Over s.place s.component
    pub below : (y : ℕ) → s.climbs ≡ true → T.Child s.place y → T.Over y s.component → s.target ≤ m.count y s.component
    pub most : (y d : ℕ) → s.climbs ≡ true → got y ≡ true → T.Child s.place y → T.Over y d → holds d ≤ m.count y d
    pub least : (y d : ℕ) → s.climbs ≡ true → got y ≡ true → T.Child s.place y → T.Over y d → m.linked s.place p ≡ true → m.count s.place d ≤ holds d
    pub mine : (y : ℕ) → s.climbs ≡ true → got y ≡ true → T.Child s.place y → T.Over y s.component → s.target ≤ holds s.component
    pub second : s.climbs ≡ true → s.second ≡ true → s.begun ≡ true → m.linked s.place p ≡ false → s.target ≤ m.count s.place s.component
    pub home : s.climbs ≡ false → T.Over T.root s.component → s.target ≤ m.count T.root s.component
    pub saw : (y : ℕ) → s.climbs ≡ true → got y ≡ true → T.Child s.place y → seen y ≡ T.joined y (λ d. m.history d (holds d))

  -- Its first attempt is lost: a store has passed since its LL.
  pub data AtRisk (m : Memory A) (p : ℕ) (s : Stand) : Type 0 where
    later : s.second ≡ true → AtRisk m p s
    lost : s.begun ≡ true → m.linked s.place p ≡ false → AtRisk m p s

  -- Two processes at one node. Where p's first attempt is lost, every q that is linked there has linked after the store that p lost to, hence
  -- after p's write was in the child: as soon as q has read that child, q holds p's write, and q's store will take it in.
  pub record Pair (m : Memory A) (p : ℕ) (s : Stand) (q : ℕ) (t : Stand) (got : ℕ → Bool) (holds : ℕ → ℕ) : Type 0 where
    pub carried : (y : ℕ) → s.climbs ≡ true → t.climbs ≡ true → s.place ≡ t.place → AtRisk m p s → m.linked t.place q ≡ true → got y ≡ true
        → T.Child t.place y → T.Over y s.component → s.target ≤ holds s.component

  abbrev pub ClimbingOf : Memory A → ℕ → Climber A → Type 0
  ClimbingOf m p r = Climbing m p r.stand r.got r.seen r.holds

  abbrev pub PairOf : Memory A → ℕ → Climber A → ℕ → Climber A → Type 0
  PairOf m p r q t = Pair m p r.stand q t.stand t.got t.holds

  pub record Invariant (s : Machine A) : Type 0 where
    pub places : Places s.memory
    pub climbing : (p : ℕ) → ClimbingOf s.memory p (s.process p)
    pub pair : (p q : ℕ) → PairOf s.memory p (s.process p) q (s.process q)
