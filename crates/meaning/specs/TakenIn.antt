-- When an addition is taken in, the list of demand 3, and an operation's rank. All of it is said of the history, the latest entry first.
use Rattle.std.specs.Prelude.{ℕ, zero, suc, Bool, false, not, cond, ◌&&◌, ◌||◌, List, [], ◌∷◌, ◌++◌, map, eqb}
use Rattle.meaning.specs.Tree.{leaf_of, ancestor}
use Rattle.meaning.specs.Access.{is_root_read, is_leaf_write, component_of, is_read_of, is_store_at}
use Rattle.meaning.specs.Shape.{Form}
use Rattle.meaning.specs.Run.{Entry}

-- "It is in its leaf from its write there on, which is step 2."
unfoldable pub in_leaf : ℕ → List Entry → Bool
in_leaf i [] = false
in_leaf i (e ∷ es) = in_leaf i es || (is_leaf_write e.access && eqb i e.operation)

-- what had happened before process p's latest read of the child y
unfoldable pub before_read : ℕ → ℕ → List Entry → List Entry
before_read p y [] = []
before_read p y (e ∷ es) = cond (is_read_of y e.access && eqb p e.process) es (before_read p y es)

-- "It is in an inner node from the first successful SC there whose own read of the child towards that leaf came after the addition was in
-- that child": below says when it was in the child y of x.
unfoldable pub in_store : (List Entry → Bool) → ℕ → ℕ → List Entry → Bool
in_store below x y [] = false
in_store below x y (e ∷ es) =
    in_store below x y es || (is_store_at x e.access && e.stored && below (before_read e.process y es))

-- whether addition i, whose leaf is c, is in the node l levels above c
unfoldable pub is_in_node : ℕ → ℕ → ℕ → List Entry → Bool
is_in_node zero c i es = in_leaf i es
is_in_node (suc l) c i es = in_store (is_in_node l c i) (ancestor (suc l) c) (ancestor l c) es

-- ---- the list

unfoldable pub keep : {A : Type 0} → (A → Bool) → List A → List A
keep p [] = []
keep p (a ∷ l) = cond (p a) (a ∷ keep p l) (keep p l)

-- the leaf writes, the earliest first
unfoldable pub leaf_writes : List Entry → List Entry
leaf_writes [] = []
leaf_writes (e ∷ es) = leaf_writes es ++ cond (is_leaf_write e.access) (e ∷ []) []

-- whether the addition that wrote w is in node 1
unfoldable pub in_root : Form → Entry → List Entry → Bool
in_root F w es = is_in_node F.height (leaf_of F.height (component_of w.access)) w.operation es

-- What an entry adds to the list: a finished read at its one step; "additions that are in node 1, placed at the SC that took them in.
-- Additions with the same SC are ordered by their leaf writes."
unfoldable pub placed : Form → Entry → List Entry → List ℕ
placed F e es =
    cond (is_root_read e.access) (e.operation ∷ [])
    (map (λ w. w.operation) (keep (λ w. in_root F w (e ∷ es) && not (in_root F w es)) (leaf_writes es)))

-- "The list of demand 3": the numbers of the operations listed, in order
unfoldable pub listed : Form → List Entry → List ℕ
listed F [] = []
listed F (e ∷ es) = listed F es ++ placed F e es

-- "An operation's rank is its position, from 1"; 0 if not listed
unfoldable pub further : ℕ → ℕ
further zero = zero
further (suc k) = suc (suc k)

unfoldable pub position_of : ℕ → List ℕ → ℕ
position_of i [] = 0
position_of i (j ∷ js) = cond (eqb i j) 1 (further (position_of i js))

unfoldable pub rank : Form → List Entry → ℕ → ℕ
rank F es i = position_of i (listed F es)
