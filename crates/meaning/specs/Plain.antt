-- "One plain number from 0, run down that list modulo 2^32": the counter as a plain number, and the list as it is read in demand 3.
use Rattle.std.specs.Prelude.{ℕ, ◌+◌, cond, List, [], ◌∷◌, eqb}
use Rattle.meaning.specs.Shape.{plus}
use Rattle.meaning.specs.Run.{Row}

-- the number after the operation of that row: an addition adds its delta, a read leaves it
unfoldable pub number_after : Row → ℕ → ℕ
number_after w v = cond (eqb w.kind 3) (plus v w.delta) v

-- the number at the end of a list of operations
unfoldable pub run_down : (ℕ → Row) → ℕ → List ℕ → ℕ
run_down row v [] = v
run_down row v (i ∷ l) = run_down row (number_after (row i) v) l

-- the list up to operation i
unfoldable pub up_to : ℕ → List ℕ → List ℕ
up_to i [] = []
up_to i (j ∷ l) = cond (eqb i j) [] (j ∷ up_to i l)

-- how often operation i stands in a list
unfoldable pub times_in : ℕ → List ℕ → ℕ
times_in i [] = 0
times_in i (j ∷ l) = cond (eqb i j) 1 0 + times_in i l
