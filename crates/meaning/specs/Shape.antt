-- What a shape is, as data; and the shapes by their numbers.
use Rattle.std.specs.Prelude.{ℕ, ◌+◌, ◌%◌, ◌^◌, Bool, false, ◌||◌, List, [], ◌∷◌, get_or, eqb}
use Rattle.recording.specs.declared.Form.{Form as Told}
use Rattle.meaning.specs.Access.{Access, reads_leaf, writes_leaf}

-- one access that reads children of a node: so many of them, from that child number on
pub record Group : Type 0 where
  pub from : ℕ
  pub count : ℕ

abbrev pub the_one : ℕ → Group
the_one c = record { from = c; count = 1 }

-- What tells one tree of cells from another. Where two numbers come first, they are the height and the node, or the height and the process.
pub record Shape : Type 0 where
  -- the child reads of an attempt at a node, in their order, each group one access
  pub groups : ℕ → ℕ → List Group
  -- what comes before the climb
  pub opening : ℕ → ℕ → List Access
  -- the node's function, of what was seen of its children by their numbers
  pub joins : ℕ → ℕ → (ℕ → ℕ) → ℕ
  -- the value that everything starts at
  pub begins : ℕ
  -- the kinds of record that there are
  pub kinds : List ℕ

-- a tree of cells: its height and its shape
pub record Form : Type 0 where
  pub height : ℕ
  pub shape : Shape

-- "The sum is taken modulo 2^32": what a leaf gets, and what a node gets of its children
unfoldable pub plus : ℕ → ℕ → ℕ
plus a b = (a + b) % 2 ^ 32

-- Shape 0: "Read the own leaf", "Write v + delta there"; "read the left child; read the right child"; "the two values' sum modulo 2^32"; "All
-- values start at 0"; kind 1 is a step, 2 starts a read, 3 an addition.
unfoldable pub counting : Shape
counting =
    record {
      groups = λ h x. the_one 0 ∷ the_one 1 ∷ [];
      opening = λ h p. reads_leaf p ∷ writes_leaf p ∷ [];
      joins = λ h x seen. plus (seen 0) (seen 1);
      begins = 0;
      kinds = 1 ∷ 2 ∷ 3 ∷ [];
    }

-- the shapes by number, from 0; "Version 1 is shape 0"
unfoldable pub numbered : ℕ → Shape
numbered k = get_or (counting ∷ []) k counting

-- the form that a height and a shape's number tell
abbrev pub formed : Told → Form
formed f = record { height = f.height; shape = numbered f.shape }

-- the highest shape that check, report and the drawer take
abbrev pub highest_shape : ℕ
highest_shape = 0

-- whether a number stands in a list
unfoldable pub is_one_of : ℕ → List ℕ → Bool
is_one_of k [] = false
is_one_of k (j ∷ js) = eqb k j || is_one_of k js
