-- The counts that the code keeps, and what a step makes of them, by its step number and its spot. A leaf's additions are counted by its
-- component, which in these shapes is the number of the process that writes it.
use Rattle.std.specs.Prelude.{ℕ, zero, suc, ◌+◌, ◌-◌, ◌*◌, ◌/◌, ◌^◌, max, ◌≤◌, ◌<◌, ◌≡◌, Bool, cond, List, length, get_or, leb, eqb}
use Rattle.recording.specs.declared.Form.{Form as Told}
use Rattle.meaning.specs.Shape.{Group, the_one, Form, highest_shape}
use Rattle.meaning.specs.Layout.{highest_tree}
use Rattle.meaning.specs.Steps.{upd}
use Rattle.spots.specs.Spot.{Spot}
use Rattle.spots.specs.Got.{groups_at}
use Rattle.arrays.specs.Arrays.{as_fun, as_rows, between}
use Rattle.climb.specs.declared.Spot.{Spot as At}
use Rattle.counts.specs.declared.Counts.{Counts as Held}

-- By level and component: how many of the component's additions are in the node that many levels above its leaf, 0 for the leaf itself. By
-- reader and component: how many were in the child that the reader has read towards that component's leaf.
pub record Counts : Type 0 where
  pub in_node : ℕ → ℕ → ℕ
  pub read : ℕ → ℕ → ℕ

-- the leaves' own counts, and the counts of the six levels above
unfoldable pub levels : List ℕ → List (List ℕ) → ℕ → ℕ → ℕ
levels written counts zero = as_fun written
levels written counts (suc l) = as_rows counts l

unfoldable pub counts_of : Held → Counts
counts_of c = record { in_node = levels c.written c.in_nodes; read = as_rows c.read.now }

-- counts with the same lent rows of what was read, as many as before
pub record SameRead (c c' : Held) : Type 0 where
  pub read : c'.read.ghost_name ≡ c.read.ghost_name
  pub of_read : length c'.read.now ≡ length c.read.now

-- the first of the components whose leaves lie under the node l levels above p's
unfoldable pub first_under : ℕ → ℕ → ℕ
first_under l p = p / 2 ^ l * 2 ^ l

-- a leaf write: one more of p's additions is in its leaf
unfoldable pub wrote : ℕ → Counts → Counts
wrote p c = record { in_node = upd c.in_node 0 (upd (c.in_node 0) p (c.in_node 0 p + 1)); read = c.read }

-- a read of children at level l, over the components lo to hi - 1
unfoldable pub read_over : ℕ → ℕ → ℕ → ℕ → Counts → Counts
read_over p l lo hi c = record { in_node = c.in_node; read = upd c.read p (between lo hi (c.in_node l) (c.read p)) }

-- a successful SC at a node at level l, over the components lo to hi - 1
unfoldable pub stored_over : ℕ → ℕ → ℕ → ℕ → Counts → Counts
stored_over p l lo hi c =
    record {
      in_node = upd c.in_node l (between lo hi (λ q. max (c.in_node l q) (c.read p q)) (c.in_node l));
      read = c.read;
    }

-- process p's read of a group of children at level l: one range serves a child or a pair
abbrev pub group_read : Group → ℕ → ℕ → Counts → Counts
group_read g p l = read_over p l (first_under (suc l) p + g.from * 2 ^ l) (first_under (suc l) p + (g.from + g.count) * 2 ^ l)

-- its successful SC at their parent
abbrev pub node_stored : ℕ → ℕ → Counts → Counts
node_stored p l = stored_over p (suc l) (first_under (suc l) p) (first_under (suc l) p + 2 ^ suc l)

-- after the access at a spot of an attempt that reads those groups: the LL, a group's read, the SC
unfoldable pub attempted : List Group → ℕ → Spot → Bool → Counts → Counts
attempted gs p σ stored c =
    cond (eqb σ.position 0) c
    (cond (leb σ.position (length gs)) (group_read (get_or gs (σ.position - 1) (the_one 0)) p σ.level c)
    (cond stored (node_stored p σ.level c) c))

-- after the step s of an addition of process p, at that spot of its climb
unfoldable pub counts_after : Form → ℕ → ℕ → Spot → Bool → Counts → Counts
counts_after F p s σ stored c = cond (eqb s 2) (wrote p c) (cond (leb 3 s) (attempted (groups_at F p σ) p σ stored c) c)

-- a process with a row of its own, a shape that is taken, a level of the highest tree at most, and room for one more leaf write
pub record CanCount (f : Told) (p : ℕ) (σ : At) (c : Held) : Type 0 where
  pub process : p < 64
  pub row : p < length c.read.now
  pub shape : f.shape ≤ highest_shape
  pub level : σ.level < highest_tree
  pub room : as_fun c.written p < 65535
