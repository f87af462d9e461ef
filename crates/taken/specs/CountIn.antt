-- "For each level and each leaf it must be known how many of the leaf's additions are in the node at that level": the counts, by the
-- history. A leaf's additions enter each node in the order of their leaf writes, so that a count says which they are.
use Rattle.std.specs.Prelude.{ℕ, zero, suc, ◌+◌, max, Bool, cond, ◌&&◌, List, [], ◌∷◌, ◌++◌, map, ltb, eqb}
use Rattle.meaning.specs.Tree.{leaf_of, ancestor}
use Rattle.meaning.specs.Access.{is_leaf_write, component_of, is_store_at}
use Rattle.meaning.specs.Run.{Entry}
use Rattle.meaning.specs.TakenIn.{before_read}

-- how many leaf writes component c has had
unfoldable pub writes_to : ℕ → List Entry → ℕ
writes_to c [] = 0
writes_to c (e ∷ es) = writes_to c es + cond (is_leaf_write e.access && eqb c (component_of e.access)) 1 0

-- the greatest of what the successful SCs at x had read of the child y: below says how many were in y
unfoldable pub count_store : (List Entry → ℕ) → ℕ → ℕ → List Entry → ℕ
count_store below x y [] = 0
count_store below x y (e ∷ es) =
    cond (is_store_at x e.access && e.stored) (max (count_store below x y es) (below (before_read e.process y es)))
    (count_store below x y es)

-- how many additions to component c are in the node l levels above its leaf
unfoldable pub count_in : ℕ → ℕ → ℕ → List Entry → ℕ
count_in h zero c es = writes_to c es
count_in h (suc l) c es = count_store (count_in h l c) (ancestor (suc l) (leaf_of h c)) (ancestor l (leaf_of h c)) es

-- A leaf write with its turn: how many leaf writes its component had before.
pub record Waiter : Type 0 where
  pub operation : ℕ
  pub component : ℕ
  pub turn : ℕ

unfoldable pub waiter_of : Entry → List Entry → Waiter
waiter_of e es =
    record {
      operation = e.operation;
      component = component_of e.access;
      turn = writes_to (component_of e.access) es;
    }

-- the leaf writes with their turns, the earliest first
unfoldable pub waiters : List Entry → List Waiter
waiters [] = []
waiters (e ∷ es) = waiters es ++ cond (is_leaf_write e.access) (waiter_of e es ∷ []) []

-- whether an addition is in node 1, by the counts there
unfoldable pub is_counted : (ℕ → ℕ) → Waiter → Bool
is_counted count w = ltb w.turn (count w.component)

unfoldable pub operations_of : List Waiter → List ℕ
operations_of ws = map (λ w. w.operation) ws
