-- How a step and a start change the count of busy processes.
use Prim.Native.Nat.{ℕ, suc, ◌^◌, ◌≤◌, ◌<◌}
use native.Mathlib.Nat.{max-le}
use native.Mathlib.Omega.{arith}
use mathlib.Core.Path.{◌≡◌, refl, sym, ap, ◌∙◌}
use mathlib.Core.Bool.{Bool, true, false, not, cond}
use mathlib.Core.List.{List, ◌∷◌}
use lib.ListN.{length}
use lib.Dec.{eqb}
use borrow.Author.Tests.{eqb-true, eqb-false, eq-eqb, ne_eqb, not-true}
use Rattle.sets.proofs.Laws.{count_same, count_differ, count_le}
use Rattle.meaning.proofs.Updates.{upd_same, upd_other}
use Rattle.meaning.specs.Shape.{Form}
use Rattle.meaning.specs.Tree.{processes}
use Rattle.meaning.specs.Steps.{upd, Process}
use Rattle.meaning.specs.Run.{Entry, Row, State, initial, busy, busy_count, started, start, take_step}
use Rattle.meaning.specs.Contention.{during, contention}
use Rattle.history.proofs.Good.{Stepping, not_done, record_after, entry_by, begins_by}

-- who is busy after a process's record became r
pub busy_at : (f : ℕ → Process) (p : ℕ) (r : Process) → busy (upd f p r) p ≡ not (eqb r.step 0)
unfolding busy
busy_at f p r = ap (λ (x : Process). not (eqb x.step 0)) (upd_same f p r)

pub busy_else : (f : ℕ → Process) (p : ℕ) (r : Process) (q : ℕ) → (q ≡ p → ⊥) → busy (upd f p r) q ≡ busy f q
unfolding busy
busy_else f p r q n = ap (λ (x : Process). not (eqb x.step 0)) (upd_other f p r q n)

pub is_busy : (f : ℕ → Process) (p : ℕ) → busy f p ≡ true → 1 ≤ (f p).step
unfolding busy
is_busy f p b = let n = eqb-false (f p).step 0 (not-true (eqb (f p).step 0) b) in omega arith

pub is_idle : (f : ℕ → Process) (p : ℕ) → busy f p ≡ false → (f p).step ≡ 0
unfolding busy
is_idle f p b = eqb-true (f p).step 0 (go (eqb (f p).step 0) b)
  where
    go : (t : Bool) → not t ≡ false → t ≡ true
    go true e = refl
    go false e = sym e

pub count_few : (F : Form) (f : ℕ → Process) → busy_count F f ≤ 2 ^ F.height
unfolding busy_count processes
count_few F f = count_le (2 ^ F.height) (busy f)

-- the record of p becomes r
module _ (F : Form) (p : ℕ) (f : ℕ → Process) (r : Process) (inside : p < 2 ^ F.height) where
  pub count_stays : 1 ≤ (f p).step → 1 ≤ r.step → busy_count F (upd f p r) ≡ busy_count F f
  unfolding busy_count processes busy
  count_stays b a = count_same (2 ^ F.height) (busy (upd f p r)) (busy f) (λ q l. go q (eqb q p) refl)
    where
      go : (q : ℕ) (t : Bool) → eqb q p ≡ t → busy (upd f p r) q ≡ busy f q
      go q true e = rw (eqb-true q p e) (busy_at f p r ∙ ap not (ne_eqb r.step 0 (omega arith) ∙ sym (ne_eqb (f p).step 0 (omega arith))))
      go q false e = busy_else f p r q (eqb-false q p e)

  pub count_falls : 1 ≤ (f p).step → r.step ≡ 0 → busy_count F f ≡ suc (busy_count F (upd f p r))
  unfolding busy_count processes busy
  count_falls b a =
      count_differ (2 ^ F.height) p (busy (upd f p r)) (busy f) inside (busy_at f p r ∙ ap not (eq-eqb r.step 0 a)) (ap not (ne_eqb (f p).step 0 (omega arith))) (λ q n. sym (busy_else f p r q n))

  pub count_rises : (f p).step ≡ 0 → 1 ≤ r.step → busy_count F (upd f p r) ≡ suc (busy_count F f)
  unfolding busy_count processes busy
  count_rises b a =
      count_differ (2 ^ F.height) p (busy f) (busy (upd f p r)) inside (ap not (eq-eqb (f p).step 0 b)) (busy_at f p r ∙ ap not (ne_eqb r.step 0 (omega arith))) (busy_else f p r)

-- A step never raises the count of busy processes: whoever takes it was busy, and at its last is so no more.
pub step_raises_no_count : (F : Form) (p : ℕ) (st : State) → Stepping F p st → busy_count F (take_step F p st).process ≤ busy_count F st.process
unfolding take_step
step_raises_no_count F p st s = go (eqb (record_after F p st).step 0) refl
  where
    go : (t : Bool) → eqb (record_after F p st).step 0 ≡ t → busy_count F (upd st.process p (record_after F p st)) ≤ busy_count F st.process
    go true e = omega (arith, count_falls F p st.process (record_after F p st) s.inside s.acts (eqb-true (record_after F p st).step 0 e))
    go false e = omega (arith, count_stays F p st.process (record_after F p st) s.inside s.acts (not_done (record_after F p st).step e))

pub start_raises_count : (F : Form) (p : ℕ) (adds : Bool) (delta : ℕ) (st : State) → p < 2 ^ F.height → (st.process p).step ≡ 0
    → busy_count F (start F p adds delta st).process ≡ suc (busy_count F st.process)
unfolding start started
start_raises_count F p adds delta st inside free = count_rises F p st.process (started st.operations adds delta) inside free (omega arith)

-- ---- no contention is more than there are processes

abbrev pub Small : Form → State → Type 0
Small F st = (w : Row) → contention w st.history ≤ 2 ^ F.height

small_more : (F : Form) (w : Row) (e : Entry) (es : List Entry) → contention w es ≤ 2 ^ F.height → e.busy ≤ 2 ^ F.height → contention w (e ∷ es) ≤ 2 ^ F.height
unfolding contention
small_more F w e es l b = max-le l (go (during w (length es)))
  where
    go : (t : Bool) → cond t e.busy 0 ≤ 2 ^ F.height
    go true = b
    go false = omega arith

pub small_initial : (F : Form) → Small F (initial F)
unfolding initial contention
small_initial F w = omega arith

pub small_step : (F : Form) (p : ℕ) (st : State) → Small F st → Small F (take_step F p st)
unfolding take_step
small_step F p st k w = small_more F w (entry_by F p st) st.history (k w) (count_few F _)

pub small_start : (F : Form) (p : ℕ) (adds : Bool) (delta : ℕ) (st : State) → Small F st → Small F (start F p adds delta st)
unfolding start
small_start F p adds delta st k w = small_more F w (begins_by F p adds delta st) st.history (k w) (count_few F _)
