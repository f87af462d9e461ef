-- The tree: "Nodes are numbered 1 to 2n − 1. The children of node i, below n, are 2i and 2i + 1. Process p owns leaf n + p."
use Rattle.std.specs.Prelude.{ℕ, zero, suc, ◌+◌, ◌*◌, ◌/◌, ◌^◌}

-- "There are n = 2^h processes."
unfoldable pub processes : ℕ → ℕ
processes h = 2 ^ h

unfoldable pub leaf_of : ℕ → ℕ → ℕ
leaf_of h p = processes h + p

unfoldable pub left : ℕ → ℕ
left x = 2 * x

unfoldable pub right : ℕ → ℕ
right x = 2 * x + 1

-- the children by number: 0 is the left one, 1 the right one
unfoldable pub child : ℕ → ℕ → ℕ
child x c = left x + c

-- the node whose child x is
unfoldable pub parent : ℕ → ℕ
parent x = x / 2

-- the node l levels above x; the root stands h levels above each leaf
unfoldable pub ancestor : ℕ → ℕ → ℕ
ancestor zero x = x
ancestor (suc l) x = parent (ancestor l x)

unfoldable pub root : ℕ
root = 1
