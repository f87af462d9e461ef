-- The LL/SC cell, as section 2.1 of the paper has its type: a state is a value and the set of linked processes.
use Rattle.std.specs.Prelude.{ℕ, Bool, cond}
use Rattle.sets.specs.Processes.{nobody, with, is_in}
use Rattle.cell.specs.declared.Cell.{Cell}

-- "Q = {[v, S]}"
pub record State : Type 0 where
  pub value : ℕ
  pub linked : ℕ → Bool

-- "All values start at 0 and all link sets empty."
unfoldable pub initial : State
initial = record { value = 0; linked = nobody }

-- "[read, p] gives ([v, S], v)": a plain read changes nothing
unfoldable pub read_of : State → ℕ
read_of q = q.value

-- "[LL, p] gives ([v, S ∪ {p}], v)"
unfoldable pub load_linked : ℕ → State → State
load_linked p q = record { value = q.value; linked = with p q.linked }

-- "[SC(u), p] gives true if p ∈ S, false if not"
unfoldable pub succeeds : ℕ → State → Bool
succeeds p q = q.linked p

-- "[SC(u), p] gives the state [u, ∅] if p ∈ S, [v, S] if not"
unfoldable pub store_conditional : ℕ → ℕ → State → State
store_conditional u p q = cond (q.linked p) (record { value = u; linked = nobody }) q

-- the state that a Cell of the program keeps
unfoldable pub state_of : Cell → State
state_of c = record { value = c.value; linked = is_in c.links }
