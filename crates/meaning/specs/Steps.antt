-- Cells and steps: what each access does to the memory and to the process's record.
use Rattle.std.specs.Prelude.{ℕ, ◌+◌, ◌-◌, Bool, false, cond, ◌&&◌, List, length, get_or, leb, ltb, eqb}
use Rattle.cell.specs.Cell.{State, read_of, load_linked, succeeds, store_conditional}
use Rattle.meaning.specs.Tree.{leaf_of, child, root}
use Rattle.meaning.specs.Access.{Access, starts, reads_root, reads_leaf, writes_leaf, links, reads, stores, Attempt, first, second}
use Rattle.meaning.specs.Shape.{Form, plus}
use Rattle.meaning.specs.Operations.{attempt, addition_steps, read_steps}

-- f, but v at i
unfoldable pub upd : {A : Type 0} → (ℕ → A) → ℕ → A → ℕ → A
upd f i v j = cond (eqb j i) v (f j)

-- the values of all nodes, and the link sets of the inner ones
pub record Memory : Type 0 where
  pub value : ℕ → ℕ
  pub linked : ℕ → ℕ → Bool

unfoldable pub cell_at : Memory → ℕ → State
cell_at m x = record { value = m.value x; linked = m.linked x }

unfoldable pub with_cell : Memory → ℕ → State → Memory
with_cell m x q = record { value = upd m.value x q.value; linked = upd m.linked x q.linked }

unfoldable pub with_value : Memory → ℕ → ℕ → Memory
with_value m c v = record { value = upd m.value c v; linked = m.linked }

-- A process's record: its step number, from 1, and 0 while it is idle; its operation, by the number of its row; whether that is an
-- addition, and its delta; the value its leaf or the root had, and its node's children by their numbers, when it read them.
pub record Process : Type 0 where
  pub step : ℕ
  pub operation : ℕ
  pub adds : Bool
  pub delta : ℕ
  pub seen : ℕ
  pub children : ℕ → ℕ

unfoldable pub idle : Process
idle = record { step = 0; operation = 0; adds = false; delta = 0; seen = 0; children = λ c. 0 }

unfoldable pub steps_of : Form → ℕ → Process → List Access
steps_of F p r = cond r.adds (addition_steps F p) read_steps

-- "Which access comes next is decided by the process's step number."
unfoldable pub access_of : Form → ℕ → Process → Access
access_of F p r = get_or (steps_of F p r) (r.step - 1) starts

-- What an access does: the memory and the process's record after it, whether it is an SC that succeeded, and by how much the step number
-- grows.
pub record Effect : Type 0 where
  pub memory : Memory
  pub process : Process
  pub stored : Bool
  pub passes : ℕ

-- an access that is no SC: the next step is the next in the list
unfoldable pub onward : Memory → Process → Effect
onward m r = record { memory = m; process = r; stored = false; passes = 1 }

-- After an SC: "If SC failed and this was the first attempt at this node, one more attempt. Otherwise go up." The second attempt stands
-- next in the list; "a successful first attempt passes over the places of the second".
unfoldable pub passes_by : Form → Attempt → ℕ → Bool → ℕ
passes_by F first x ok = cond ok (1 + length (attempt F second x)) 1
passes_by F second x ok = 1

unfoldable pub saw_it : ℕ → Process → Process
saw_it v r = record { step = r.step; operation = r.operation; adds = r.adds; delta = r.delta; seen = v; children = r.children }

-- so many children from one on, which have these values
unfoldable pub saw_children : ℕ → ℕ → (ℕ → ℕ) → Process → Process
saw_children from count value r =
    record {
      step = r.step;
      operation = r.operation;
      adds = r.adds;
      delta = r.delta;
      seen = r.seen;
      children = λ c. cond (leb from c && ltb c (from + count)) (value c) (r.children c);
    }

unfoldable pub at_step : ℕ → Process → Process
at_step k r = record { step = k; operation = r.operation; adds = r.adds; delta = r.delta; seen = r.seen; children = r.children }

-- what process p, whose record is r, does to the memory by each access
unfoldable pub effect : Form → ℕ → Process → Memory → Access → Effect
effect F p r m starts = onward m r
effect F p r m reads_root = onward m (saw_it (read_of (cell_at m root)) r)
effect F p r m (reads_leaf c) = onward m (saw_it (m.value (leaf_of F.height c)) r)
effect F p r m (writes_leaf c) = onward (with_value m (leaf_of F.height c) (plus r.seen r.delta)) r
effect F p r m (links a x) = onward (with_cell m x (load_linked p (cell_at m x))) r
effect F p r m (reads x from count) = onward m (saw_children from count (λ c. read_of (cell_at m (child x c))) r)
effect F p r m (stores a x) =
    record {
      memory = with_cell m x (store_conditional (F.shape.joins F.height x r.children) p (cell_at m x));
      process = r;
      stored = succeeds p (cell_at m x);
      passes = passes_by F a x (succeeds p (cell_at m x));
    }

-- the step number k, or 0 where the operation's list of steps ends before it: then the process is idle
unfoldable pub within : ℕ → ℕ → ℕ
within k last = cond (ltb last k) 0 k

-- "One step takes the process's record by value and gives back the next": the record after the effect of its access.
unfoldable pub next_record : Form → ℕ → Process → Effect → Process
next_record F p r f = at_step (within (r.step + f.passes) (length (steps_of F p r))) f.process
