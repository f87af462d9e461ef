-- The counter's tree of height h as a tree of the Tree Algorithm: the components are the processes, each at its leaf; a node's function is
-- the sum of its children modulo 2^32; what belongs at a node is the sum of the components under it.
use Rattle.std.specs.Prelude.{ℕ, zero, suc, ◌+◌, ◌%◌, ◌^◌, ◌≤◌, ◌<◌, ◌≡◌, Bool, true, cond, ◌&&◌, ltb, eqb}
use Rattle.meaning.specs.Tree.{processes, leaf_of, left, right, parent, ancestor, root}
use Rattle.meaning.specs.Shape.{plus}
use Rattle.tree.specs.Tree.{Tree}

-- the level, at most l, at which x stands above the place c; 0 where it does not
unfoldable pub seek : ℕ → ℕ → ℕ → ℕ
seek zero c x = 0
seek (suc l) c x = cond (eqb (ancestor (suc l) c) x) (suc l) (seek l c x)

unfoldable pub level_over : ℕ → ℕ → ℕ → ℕ
level_over h x q = seek h (leaf_of h q) x

-- whether process q's leaf lies at or under the node x
unfoldable pub is_over : ℕ → ℕ → ℕ → Bool
is_over h x q = ltb q (processes h) && eqb (ancestor (level_over h x q) (leaf_of h q)) x

unfoldable pub sum_below : ℕ → (ℕ → ℕ) → ℕ
sum_below zero f = 0
sum_below (suc n) f = sum_below n f + f n

-- the sum of the components under x
unfoldable pub sum_under : ℕ → ℕ → (ℕ → ℕ) → ℕ
sum_under h x a = sum_below (processes h) (λ q. cond (is_over h x q) (a q) 0)

unfoldable pub sum_tree : ℕ → Tree ℕ
sum_tree h =
    record {
      root = root;
      leaf = leaf_of h;
      Inner = λ x. (1 ≤ x) × (x < processes h);
      Child = λ x y. ((1 ≤ x) × (x < processes h)) × (parent y ≡ x);
      Over = λ x q. is_over h x q ≡ true;
      node = λ x f. plus (f (left x)) (f (right x));
      joined = λ x a. cond (ltb x (processes h)) (sum_under h x a % 2 ^ 32) (sum_under h x a);
    }
