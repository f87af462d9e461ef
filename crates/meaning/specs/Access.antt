-- Which accesses there are, and what the history tells of each.
use Rattle.std.specs.Prelude.{ℕ, ◌+◌, Bool, true, false, ◌&&◌, leb, ltb, eqb}
use Rattle.meaning.specs.Tree.{child}

-- The first or the second attempt at a node.
pub data Attempt : Type 0 where
  first second : Attempt

-- What a record of the recording did: a start, which is no access, or one access. A leaf is told by its component: process p owns the leaf
-- of component p. A child read is of one child or of a pair: so many children of x from one on, by their numbers.
pub data Access : Type 0 where
  starts : Access
  reads_root : Access
  reads_leaf : (c : ℕ) → Access
  writes_leaf : (c : ℕ) → Access
  links : Attempt → (x : ℕ) → Access
  reads : (x from count : ℕ) → Access
  stores : Attempt → (x : ℕ) → Access

-- a read's one step
unfoldable pub is_root_read : Access → Bool
is_root_read starts = false
is_root_read reads_root = true
is_root_read (reads_leaf c) = false
is_root_read (writes_leaf c) = false
is_root_read (links a x) = false
is_root_read (reads x from count) = false
is_root_read (stores a x) = false

-- an addition's step 2
unfoldable pub is_leaf_write : Access → Bool
is_leaf_write starts = false
is_leaf_write reads_root = false
is_leaf_write (reads_leaf c) = false
is_leaf_write (writes_leaf c) = true
is_leaf_write (links a x) = false
is_leaf_write (reads x from count) = false
is_leaf_write (stores a x) = false

-- the component whose leaf is written; 0 where none is
unfoldable pub component_of : Access → ℕ
component_of starts = 0
component_of reads_root = 0
component_of (reads_leaf c) = 0
component_of (writes_leaf c) = c
component_of (links a x) = 0
component_of (reads x from count) = 0
component_of (stores a x) = 0

-- an attempt's read of the child y, alone or with others
unfoldable pub is_read_of : ℕ → Access → Bool
is_read_of y starts = false
is_read_of y reads_root = false
is_read_of y (reads_leaf c) = false
is_read_of y (writes_leaf c) = false
is_read_of y (links a x) = false
is_read_of y (reads x from count) = leb (child x from) y && ltb y (child x (from + count))
is_read_of y (stores a x) = false

-- an SC at the node y
unfoldable pub is_store_at : ℕ → Access → Bool
is_store_at y starts = false
is_store_at y reads_root = false
is_store_at y (reads_leaf c) = false
is_store_at y (writes_leaf c) = false
is_store_at y (links a x) = false
is_store_at y (reads x from count) = false
is_store_at y (stores a x) = eqb y x

-- the LL of a second attempt
unfoldable pub is_second_link : Access → Bool
is_second_link starts = false
is_second_link reads_root = false
is_second_link (reads_leaf c) = false
is_second_link (writes_leaf c) = false
is_second_link (links first x) = false
is_second_link (links second x) = true
is_second_link (reads x from count) = false
is_second_link (stores a x) = false
