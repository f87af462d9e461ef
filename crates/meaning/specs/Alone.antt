-- A process stepped while all others stop.
use Rattle.std.specs.Prelude.{ℕ, zero, suc, cond}
use Rattle.meaning.specs.Shape.{Form}
use Rattle.meaning.specs.Run.{State, busy, take_step}

-- "a busy process that alone is stepped": k steps of process p, or as many as it has
unfoldable pub alone : Form → ℕ → ℕ → State → State
alone F p zero st = st
alone F p (suc k) st = cond (busy st.process p) (alone F p k (take_step F p st)) st
