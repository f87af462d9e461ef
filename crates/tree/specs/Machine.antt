-- The machine that climbs such a tree: what it keeps, and what each kind of step may do to it. Steps are a relation: which access comes
-- next, in how many groups an attempt reads the children, and what a process does before its write and after the root are the instance's.
use Rattle.std.specs.Prelude.{ℕ, suc, max, ◌≤◌, ◌≡◌, ◌⊎◌, Bool, true, false}
use Rattle.tree.specs.Tree.{Tree}

-- The places: values and link sets; by place and component how many of the component's writes are in the place; and by component its
-- values so far, the k-th after k writes.
pub record Memory (A : Type 0) : Type 0 where
  pub value : ℕ → A
  pub linked : ℕ → ℕ → Bool
  pub count : ℕ → ℕ → ℕ
  pub history : ℕ → ℕ → A

-- Where a process stands: whether it climbs, from its write until it has done with the root; its component, and which of the component's
-- writes is its own; the node where it tries, whether for the second time, and whether this attempt's LL is taken.
pub record Stand : Type 0 where
  pub climbs : Bool
  pub component : ℕ
  pub target : ℕ
  pub place : ℕ
  pub second : Bool
  pub begun : Bool

-- A process: its stand, and of this attempt which children it has read, their values, and how many of each component's writes these hold.
pub record Climber (A : Type 0) : Type 0 where
  pub stand : Stand
  pub got : ℕ → Bool
  pub seen : ℕ → A
  pub holds : ℕ → ℕ

pub record Machine (A : Type 0) : Type 0 where
  pub memory : Memory A
  pub process : ℕ → Climber A

-- ---- stands

unfoldable pub trying : ℕ → ℕ → ℕ → Bool → Bool → Stand
trying component target place second begun =
    record { climbs = true; component = component; target = target; place = place; second = second; begun = begun }

-- before the LL of the first attempt, or of the second
unfoldable pub before : ℕ → ℕ → ℕ → Bool → Stand
before component target place second = trying component target place second false

-- ---- memories

module _ {A : Type 0} (T : Tree A) where
  -- what a component's writes were stays
  pub record Remembers (m m' : Memory A) : Type 0 where
    pub still : (d k : ℕ) → k ≤ m.count (T.leaf d) d → m'.history d k ≡ m.history d k

  -- the places but x are as they were
  pub record Elsewhere (x : ℕ) (m m' : Memory A) : Type 0 where
    pub value : (y : ℕ) → (y ≡ x → ⊥) → m'.value y ≡ m.value y
    pub count : (y d : ℕ) → (y ≡ x → ⊥) → T.Over y d → m'.count y d ≡ m.count y d

  -- values and counts are as they were
  pub record Stays (m m' : Memory A) : Type 0 where
    pub value : (y : ℕ) → m'.value y ≡ m.value y
    pub count : (y d : ℕ) → T.Over y d → m'.count y d ≡ m.count y d
    pub remembers : Remembers m m'

  -- ---- the steps of process p

  -- one that touches no place: before the write of the process's operation, after its climb, or between operations
  pub record Rests (p : ℕ) (m m' : Memory A) (r r' : Climber A) : Type 0 where
    pub stays : Stays m m'
    pub links : (x q : ℕ) → m'.linked x q ≡ m.linked x q
    pub was : r.stand.climbs ≡ false
    pub is : r'.stand.climbs ≡ false
    pub home : ((r'.stand.component ≡ r.stand.component) × (r'.stand.target ≡ r.stand.target)) ⊎ (r'.stand.target ≡ 0)

  -- the write at component c, one write more; then the process stands at the node above
  pub record Writes (c x : ℕ) (p : ℕ) (m m' : Memory A) (r r' : Climber A) : Type 0 where
    pub elsewhere : Elsewhere (T.leaf c) m m'
    pub remembers : Remembers m m'
    pub links : (y q : ℕ) → m'.linked y q ≡ m.linked y q
    pub count : m'.count (T.leaf c) c ≡ suc (m.count (T.leaf c) c)
    pub value : m'.value (T.leaf c) ≡ m'.history c (m'.count (T.leaf c) c)
    pub leaf : T.Over (T.leaf c) c
    pub above : T.Child x (T.leaf c)
    pub stand : r'.stand ≡ before c (m'.count (T.leaf c) c) x false
    pub got : (y : ℕ) → r'.got y ≡ false

  -- the LL of an attempt at x
  pub record Links (c k x : ℕ) (second : Bool) (p : ℕ) (m m' : Memory A) (r r' : Climber A) : Type 0 where
    pub stays : Stays m m'
    pub linked : m'.linked x p ≡ true
    pub others : (y q : ℕ) → (q ≡ p → ⊥) → m'.linked y q ≡ m.linked y q
    pub was : r.stand ≡ before c k x second
    pub stand : r'.stand ≡ trying c k x second true
    pub got : (y : ℕ) → r'.got y ≡ false

  -- a child that has been read in this access, or one that had been before
  pub data Got (y : ℕ) (m : Memory A) (r r' : Climber A) : Type 0 where
    now : r'.seen y ≡ m.value y → ((d : ℕ) → T.Over y d → r'.holds d ≡ m.count y d) → Got y m r r'
    earlier : r.got y ≡ true → r'.seen y ≡ r.seen y → ((d : ℕ) → T.Over y d → r'.holds d ≡ r.holds d) → Got y m r r'

  -- one access that reads some of the children of x
  pub record Reads (c k x : ℕ) (second : Bool) (p : ℕ) (m m' : Memory A) (r r' : Climber A) : Type 0 where
    pub stays : Stays m m'
    pub links : (y q : ℕ) → m'.linked y q ≡ m.linked y q
    pub was : r.stand ≡ trying c k x second true
    pub stand : r'.stand ≡ trying c k x second true
    pub got : (y : ℕ) → T.Child x y → r'.got y ≡ true → Got y m r r'

  -- done with x: the process stands at the node above, or x was the root and the climb is at its end
  pub data Onward (c k x : ℕ) (r' : Climber A) : Type 0 where
    up : (z : ℕ) → T.Child z x → r'.stand ≡ before c k z false → ((y : ℕ) → r'.got y ≡ false) → Onward c k x r'
    end : x ≡ T.root → r'.stand.climbs ≡ false → r'.stand.component ≡ c → r'.stand.target ≡ k → Onward c k x r'

  -- a successful SC at x, all of whose children have been read
  pub record Stores (c k x : ℕ) (second : Bool) (p : ℕ) (m m' : Memory A) (r r' : Climber A) : Type 0 where
    pub elsewhere : Elsewhere x m m'
    pub remembers : Remembers m m'
    pub was : r.stand ≡ trying c k x second true
    pub linked : m.linked x p ≡ true
    pub read : (y : ℕ) → T.Child x y → r.got y ≡ true
    pub value : m'.value x ≡ T.node x r.seen
    pub count : (d : ℕ) → T.Over x d → m'.count x d ≡ max (m.count x d) (r.holds d)
    pub emptied : (q : ℕ) → m'.linked x q ≡ false
    pub others : (y q : ℕ) → (y ≡ x → ⊥) → m'.linked y q ≡ m.linked y q
    pub onward : Onward c k x r'

  -- an SC that fails: after the first attempt a second, after the second onward
  pub data Failed (c k x : ℕ) (r' : Climber A) : Bool → Type 0 where
    again : r'.stand ≡ before c k x true → ((y : ℕ) → r'.got y ≡ false) → Failed c k x r' false
    enough : Onward c k x r' → Failed c k x r' true

  pub record Fails (c k x : ℕ) (second : Bool) (p : ℕ) (m m' : Memory A) (r r' : Climber A) : Type 0 where
    pub stays : Stays m m'
    pub links : (y q : ℕ) → m'.linked y q ≡ m.linked y q
    pub was : r.stand ≡ trying c k x second true
    pub unlinked : m.linked x p ≡ false
    pub then : Failed c k x r' second

  pub data Move (p : ℕ) (m m' : Memory A) (r r' : Climber A) : Type 0 where
    rests : Rests p m m' r r' → Move p m m' r r'
    writes : (c x : ℕ) → Writes c x p m m' r r' → Move p m m' r r'
    links : (c k x : ℕ) (second : Bool) → Links c k x second p m m' r r' → Move p m m' r r'
    reads : (c k x : ℕ) (second : Bool) → Reads c k x second p m m' r r' → Move p m m' r r'
    stores : (c k x : ℕ) (second : Bool) → Stores c k x second p m m' r r' → Move p m m' r r'
    fails : (c k x : ℕ) (second : Bool) → Fails c k x second p m m' r r' → Move p m m' r r'

  -- a step of process p: its move, and every other process as it was
  pub record Step (p : ℕ) (s s' : Machine A) : Type 0 where
    pub move : Move p s.memory s'.memory (s.process p) (s'.process p)
    pub others : (q : ℕ) → (q ≡ p → ⊥) → s'.process q ≡ s.process q
