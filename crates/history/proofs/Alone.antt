-- A process stepped alone becomes idle before its operation has taken more steps than its list has.
use Prim.Native.Nat.{ℕ, zero, suc, ◌+◌, ◌^◌, ◌≤◌, ◌<◌}
use native.Mathlib.Omega.{arith}
use mathlib.Core.Path.{◌≡◌, refl}
use mathlib.Core.Bool.{Bool, true, false, not, cond}
use lib.ListN.{length}
use lib.Dec.{ltb, eqb}
use borrow.Author.Tests.{ltb-true, ltb-false, eqb-true}
use Rattle.meaning.specs.Shape.{Form}
use Rattle.meaning.specs.Run.{Row, State, busy, row_after, take_step}
use Rattle.meaning.specs.Alone.{alone}
use Rattle.history.proofs.Good.{Good, Stepping, not_done, access_by, record_after, same_operation, by_stepper, stepped_row, good_step}
use Rattle.history.proofs.StepCount.{list_long, StepCount, count_step}

-- no process beyond the tree is busy
inside : (F : Form) (p : ℕ) (st : State) → Good F st → 1 ≤ (st.process p).step → p < 2 ^ F.height
inside F p st g b = go (ltb p (2 ^ F.height)) refl
  where
    go : (t : Bool) → ltb p (2 ^ F.height) ≡ t → p < 2 ^ F.height
    go true e = ltb-true p (2 ^ F.height) e
    go false e = absurd (omega (arith, g.beyond p (ltb-false p (2 ^ F.height) e)))

-- a step adds one to the steps of the acting operation, whose list stays
one_more : (F : Form) (p : ℕ) (st : State) (s : Stepping F p st) (P : Row → Type 0)
    → P (row_after (access_by F p st) (record_after F p st) (length st.history) (st.row (st.process p).operation)) → P ((take_step F p st).row ((take_step F p st).process p).operation)
one_more F p st s P now =
    by_stepper F p st s (λ q r. q ≡ p → P ((take_step F p st).row r.operation))
    (λ e. stepped_row F p st s (record_after F p st).operation P (λ m. now) (λ n. absurd (n (same_operation F p st s))))
    (λ q n e. absurd (n e)) p refl

-- the steps that the operation's list still has are k at most
abbrev pub Enough : Form → ℕ → ℕ → State → Type 0
Enough F p k st = 1 ≤ (st.process p).step → list_long F (st.row (st.process p).operation) ≤ (st.row (st.process p).operation).steps + k

abbrev pub Ends : Form → ℕ → State → Type 0
Ends F p st = ((st.process p).step ≡ 0) × StepCount F st

no_more : (F : Form) (p : ℕ) (st : State) → Good F st → StepCount F st → Enough F p 0 st → (st.process p).step ≡ 0
no_more F p st g c enough = go (st.process p).step refl
  where
    go : (n : ℕ) → (st.process p).step ≡ n → (st.process p).step ≡ 0
    go zero e = e
    go (suc n) e =
        let b : 1 ≤ (st.process p).step = omega (arith, e) in
        absurd (omega (arith, enough b, c.short (st.process p).operation (g.unfinished p b)))

steps_on : (F : Form) (p k : ℕ) (st : State) → Good F st → StepCount F st → Enough F p (suc k) st
    → (Good F (take_step F p st) → StepCount F (take_step F p st) → Enough F p k (take_step F p st) → Ends F p (alone F p k (take_step F p st)))
    → Ends F p (cond (busy st.process p) (alone F p k (take_step F p st)) st)
unfolding busy row_after
steps_on F p k st g c enough on = go (eqb (st.process p).step 0) refl
  where
    go : (t : Bool) → eqb (st.process p).step 0 ≡ t → Ends F p (cond (not t) (alone F p k (take_step F p st)) st)
    go true e = (eqb-true (st.process p).step 0 e, c)
    go false e =
        let acts = not_done (st.process p).step e in
        let s : Stepping F p st = record { good = g; inside = inside F p st g acts; acts = acts } in
        on (good_step F p st s) (count_step F p st s c) (λ b. one_more F p st s (λ w. list_long F w ≤ w.steps + k) (omega (arith, enough acts)))

-- then the process ends idle, and no row has more
pub alone_ends : (F : Form) (p k : ℕ) (st : State) → Good F st → StepCount F st → Enough F p k st → Ends F p (alone F p k st)
unfolding alone
alone_ends F p zero st g c enough = (no_more F p st g c enough, c)
alone_ends F p (suc k) st g c enough = steps_on F p k st g c enough (alone_ends F p k (take_step F p st))
