-- The list of accesses that each operation takes.
use Rattle.std.specs.Prelude.{ℕ, zero, suc, List, [], ◌∷◌, ◌++◌, map}
use Rattle.meaning.specs.Tree.{leaf_of, parent}
use Rattle.meaning.specs.Access.{Access, reads_root, links, reads, stores, Attempt, first, second}
use Rattle.meaning.specs.Shape.{Form}

-- "one attempt of four steps: LL; read the left child; read the right child; SC": what is read in between is told by the shape
unfoldable pub attempt : Form → Attempt → ℕ → List Access
attempt F a x = links a x ∷ map (λ g. reads x g.from g.count) (F.shape.groups F.height x) ++ (stores a x ∷ [])

-- two attempts at the parent of x, and so up, k levels in all
unfoldable pub climb : Form → ℕ → ℕ → List Access
climb F zero x = []
climb F (suc k) x = attempt F first (parent x) ++ (attempt F second (parent x) ++ climb F k (parent x))

-- "Its place in the list above: two steps at the leaf, then four for each of two attempts at each level."
unfoldable pub addition_steps : Form → ℕ → List Access
addition_steps F p = F.shape.opening F.height p ++ climb F F.height (leaf_of F.height p)

-- "A read takes one step: it reads node 1."
unfoldable pub read_steps : List Access
read_steps = reads_root ∷ []
