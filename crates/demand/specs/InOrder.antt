-- What settles the list of demand 3, said of any list l of operations: who stands in it, and who before whom. A record's number is how many
-- records came before it; the history has the latest entry first.
use Rattle.std.specs.Prelude.{ℕ, ◌<◌, ◌≡◌, Bool, true, false, cond, ◌&&◌, ◌||◌, List, [], ◌∷◌, length, eqb}
use Rattle.meaning.specs.Shape.{Form}
use Rattle.meaning.specs.Tree.{leaf_of, root}
use Rattle.meaning.specs.Access.{is_root_read, is_leaf_write, is_store_at}
use Rattle.meaning.specs.Run.{Entry, Row, State}
use Rattle.meaning.specs.TakenIn.{in_leaf, is_in_node, position_of}
use Rattle.meaning.specs.Plain.{times_in}

-- the number of the first record after which it is so
unfoldable pub first_after : (List Entry → Bool) → List Entry → ℕ
first_after so [] = 0
first_after so (e ∷ es) = cond (so es) (first_after so es) (length es)

-- the step of read i; an SC at node 1 that succeeded; the leaf write of addition i
unfoldable pub is_read_by : ℕ → Entry → Bool
is_read_by i e = is_root_read e.access && eqb i e.operation

unfoldable pub is_root_store : Entry → Bool
is_root_store e = is_store_at root e.access && e.stored

unfoldable pub is_write_by : ℕ → Entry → Bool
is_write_by i e = is_leaf_write e.access && eqb i e.operation

-- whether read i has taken "its one step"
unfoldable pub has_read : ℕ → List Entry → Bool
has_read i [] = false
has_read i (e ∷ es) = has_read i es || is_read_by i e

-- whether i, as an addition of its row's process, is in node 1
unfoldable pub is_taken_in : Form → (ℕ → Row) → ℕ → List Entry → Bool
is_taken_in F row i es = is_in_node F.height (leaf_of F.height (row i).process) i es

-- "The list of demand 3 holds finished reads [..] and additions that are in node 1": whether it holds i, at the end
unfoldable pub is_listed : Form → State → ℕ → Bool
is_listed F st i = (eqb (st.row i).kind 2 && (st.row i).finished) || (eqb (st.row i).kind 3 && is_taken_in F st.row i st.history)

-- a read is "placed at [its] one step", an addition "at the SC that took [it] in": the number of that record
unfoldable pub is_placed : Form → (ℕ → Row) → ℕ → List Entry → Bool
is_placed F row i es = cond (eqb (row i).kind 2) (has_read i es) (is_taken_in F row i es)

unfoldable pub place_of : Form → State → ℕ → ℕ
place_of F st i = first_after (is_placed F st.row i) st.history

-- the number of an addition's leaf write
unfoldable pub write_of : State → ℕ → ℕ
write_of st i = first_after (in_leaf i) st.history

-- whether the record of that number is such
unfoldable pub is_at : (Entry → Bool) → ℕ → List Entry → Bool
is_at such n [] = false
is_at such n (e ∷ es) = cond (eqb n (length es)) (such e) (is_at such n es)

-- these are the records by whose numbers the list is ordered
pub record Places (F : Form) (st : State) : Type 0 where
  pub reads : (i : ℕ) → is_listed F st i ≡ true → (st.row i).kind ≡ 2 → is_at (is_read_by i) (place_of F st i) st.history ≡ true
  pub additions : (i : ℕ) → is_listed F st i ≡ true → (st.row i).kind ≡ 3 → is_at is_root_store (place_of F st i) st.history ≡ true
  pub writes : (i : ℕ) → is_listed F st i ≡ true → (st.row i).kind ≡ 3 → is_at (is_write_by i) (write_of st i) st.history ≡ true

pub record ListOf (F : Form) (st : State) (l : List ℕ) : Type 0 where
  -- each operation that is listed stands in l once, and nothing else does
  pub who : (i : ℕ) → times_in i l ≡ cond (is_listed F st i) 1 0
  -- of two, the one placed at the earlier record stands first
  pub earlier : (i j : ℕ) → is_listed F st i ≡ true → is_listed F st j ≡ true → place_of F st i < place_of F st j → position_of i l < position_of j l
  -- "Additions with the same SC are ordered by their leaf writes."
  pub ties : (i j : ℕ) → is_listed F st i ≡ true → is_listed F st j ≡ true → (st.row i).kind ≡ 3 → (st.row j).kind ≡ 3 → place_of F st i ≡ place_of F st j
      → write_of st i < write_of st j → position_of i l < position_of j l
