-- The rows of every accepted recording fit the report's columns.
use Prim.Native.Nat.{ℕ, ◌<◌}
use native.Mathlib.Omega.{arith}
use mathlib.Core.Path.{◌≡◌}
use mathlib.Core.List.{List}
use lib.Pow.{pow_mono}
use Rattle.meaning.specs.Layout.{form_of}
use Rattle.meaning.specs.Run.{Row, State, accepted, outcome}
use Rattle.meaning.specs.Contention.{contention}
use Rattle.rows.proofs.Laws.{RowFits}
use Rattle.history.proofs.Busy.{Small, small_initial, small_step, small_start}
use Rattle.history.proofs.Accepted.{accepted_keeps, accepted_good}
use Rattle.engine.proofs.Runs.{row_fits}

pub accepted_fits : (s : List ℕ) (st : State) → outcome s ≡ accepted st → (i : ℕ) → RowFits (st.row i)
accepted_fits s st e = row_fits (form_of s) st (accepted_good s st e)

-- and so does its contention
pub accepted_small : (s : List ℕ) (st : State) → outcome s ≡ accepted st → (w : Row) → contention w st.history < 256
accepted_small s st e w =
    let r = accepted_keeps Small (λ F lawful. small_initial F) (λ F p x y z. small_step F p x z) (λ F p a d x g b f o z. small_start F p a d x z) s st e in
    omega (arith, r.1 w, pow_mono r.0.high)
