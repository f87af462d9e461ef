-- The busy processes are as many as the operations under way, at every record: so an operation's contention is told by the rows alone.
use Prim.Native.Nat.{ℕ, zero, suc, ◌+◌, max, ◌^◌, ◌≤◌, ◌<◌}
use native.Mathlib.Nat.{add-zero}
use native.Mathlib.Omega.{arith}
use mathlib.Core.Path.{◌≡◌, refl, sym, ap, ap₂, ◌∙◌}
use mathlib.Core.Bool.{Bool, true, false, not, cond}
use mathlib.Core.List.{List, [], ◌∷◌}
use lib.ListN.{length}
use lib.Dec.{eqb}
use borrow.Author.Tests.{eqb-true, eqb-false}
use Rattle.sets.specs.Processes.{count_below}
use Rattle.sets.proofs.Laws.{count_same, count_differ, count_beyond}
use Rattle.meaning.specs.Shape.{Form}
use Rattle.meaning.specs.Tree.{processes}
use Rattle.meaning.specs.Steps.{idle}
use Rattle.meaning.specs.Run.{Entry, Row, State, initial, busy, busy_count, new_row, start, row_after, take_step}
use Rattle.meaning.specs.Contention.{during, contention}
use Rattle.history.proofs.Good.{Stepping, not_done, record_after, stepped_row, row_cases}
use Rattle.history.proofs.Held.{Held}
use Rattle.history.proofs.Contention.{before_start, during_later, during_now}
use Rattle.history.proofs.Busy.{count_stays, count_falls, start_raises_count}

-- how many of the first m operations are under way right after the record that had k before it
abbrev pub under_way_at : (ℕ → Row) → ℕ → ℕ → ℕ
under_way_at row m k = count_below m (λ i. during (row i) k)

-- each entry's count is that of the operations under way then
pub data EntriesTell (row : ℕ → Row) (m : ℕ) : List Entry → Type 0 where
  none : EntriesTell row m []
  more : {e : Entry} {es : List Entry} → e.busy ≡ under_way_at row m (length es) → EntriesTell row m es → EntriesTell row m (e ∷ es)

pub record UnderWay (F : Form) (st : State) : Type 0 where
  pub busy_now : busy_count F st.process ≡ count_below st.operations (λ i. not (st.row i).finished)
  pub entries : EntriesTell st.row st.operations st.history

pub under_way_initial : (F : Form) → UnderWay F (initial F)
unfolding initial idle busy_count processes busy count_below
under_way_initial F = record { busy_now = count_beyond 0 (2 ^ F.height) (busy (λ p. idle)) (omega arith) (λ q l. refl); entries = none }

-- rows that agree on the records so far
told_same : (row row' : ℕ → Row) (m m' : ℕ) {es : List Entry} → ((k : ℕ) → k < length es → under_way_at row m k ≡ under_way_at row' m' k) → EntriesTell row m es → EntriesTell row' m' es
told_same row row' m m' f none = none
told_same row row' m m' f (more {es = es} e t) = more (e ∙ f (length es) (omega arith)) (told_same row row' m m' (λ k l. f k (omega arith)) t)

-- the latest entry
told_now : (row : ℕ → Row) (m c : ℕ) (es : List Entry) → c ≡ count_below m (λ i. not (row i).finished) → ((i : ℕ) → i < m → ((row i).started ≤ length es) × ((row i).ended ≤ length es)) → c ≡ under_way_at row m (length es)
told_now row m c es e f = e ∙ count_same m (λ i. not (row i).finished) (λ i. during (row i) (length es)) (λ i b. sym (during_now (row i) (length es) (f i b).0 (f i b).1))

-- ---- a step

module _ (F : Form) (p : ℕ) (st : State) (s : Stepping F p st) (H : Held F st) (U : UnderWay F st) where
  -- it ends its operation, or leaves each as it was
  busy_step : busy_count F (take_step F p st).process ≡ count_below st.operations (λ i. not ((take_step F p st).row i).finished)
  unfolding take_step row_after
  busy_step = go (eqb (record_after F p st).step 0) refl
    where
      elsewhere : (i : ℕ) → (i ≡ (st.process p).operation → ⊥) → not (st.row i).finished ≡ not ((take_step F p st).row i).finished
      elsewhere i n = stepped_row F p st s i (λ w. not (st.row i).finished ≡ not w.finished) (λ e. absurd (n e)) (λ m. refl)

      own : (t : Bool) → eqb (record_after F p st).step 0 ≡ t → (i : ℕ) → i ≡ (st.process p).operation → not ((take_step F p st).row i).finished ≡ not t
      own t e i o = stepped_row F p st s i (λ w. not w.finished ≡ not t) (λ z. ap not e) (λ n. absurd (n o))

      before : not (st.row (st.process p).operation).finished ≡ true
      before = ap not (s.good.unfinished p s.acts)

      go : (t : Bool) → eqb (record_after F p st).step 0 ≡ t → busy_count F (take_step F p st).process ≡ count_below st.operations (λ i. not ((take_step F p st).row i).finished)
      go true e =
          omega (
            arith,
            U.busy_now,
            count_falls F p st.process (record_after F p st) s.inside s.acts (eqb-true (record_after F p st).step 0 e),
            count_differ st.operations (st.process p).operation (λ i. not ((take_step F p st).row i).finished) (λ i. not (st.row i).finished) (s.good.owns p s.acts) (own true e _ refl) before elsewhere,
          )
      go false e =
          count_stays F p st.process (record_after F p st) s.inside s.acts (not_done (record_after F p st).step e) ∙ U.busy_now
          ∙ count_same st.operations (λ i. not (st.row i).finished) (λ i. not ((take_step F p st).row i).finished) (λ i b. each i (eqb i (st.process p).operation) refl)
        where
          each : (i : ℕ) (t : Bool) → eqb i (st.process p).operation ≡ t → not (st.row i).finished ≡ not ((take_step F p st).row i).finished
          each i true o = let o = eqb-true i (st.process p).operation o in ap (λ (j : ℕ). not (st.row j).finished) o ∙ before ∙ sym (own false e i o)
          each i false n = elsewhere i (eqb-false i (st.process p).operation n)

  -- at the records before it all is as it was
  during_step : (k : ℕ) → k < length st.history → (i : ℕ) → during (st.row i) k ≡ during ((take_step F p st).row i) k
  unfolding row_after
  during_step k l i =
      stepped_row F p st s i (λ w. during (st.row i) k ≡ during w k)
      (λ e. during_later (st.row i) _ (ap (λ (j : ℕ). (st.row j).started) e) (ap (λ (j : ℕ). (st.row j).finished) e ∙ s.good.unfinished p s.acts) k (λ f. l))
      (λ n. refl)

  pub under_way_step : UnderWay F (take_step F p st)
  unfolding take_step row_after
  under_way_step =
      record {
        busy_now = busy_step;
        entries = more (told_now (take_step F p st).row st.operations _ st.history busy_step
            (λ i b. stepped_row F p st s i (λ w. (w.started ≤ length st.history) × (w.ended ≤ length st.history))
            (λ e. (omega (arith, H.begun (st.process p).operation (s.good.owns p s.acts)), omega arith)) (λ n. (omega (arith, H.begun i b), H.ended i))))
            (told_same st.row (take_step F p st).row st.operations st.operations (λ k l. count_same st.operations _ _ (λ i b. during_step k l i)) U.entries);
      }

-- ---- a start

module _ (F : Form) (p : ℕ) (adds : Bool) (delta : ℕ) (st : State) (inside : p < 2 ^ F.height) (free : (st.process p).step ≡ 0) (H : Held F st) (U : UnderWay F st) where
  old : (i : ℕ) → i < st.operations → st.row i ≡ (start F p adds delta st).row i
  old i b = row_cases F p adds delta st i (λ w. st.row i ≡ w) (λ e. absurd (omega arith)) (λ n. refl)

  new : new_row p adds delta (length st.history) ≡ (start F p adds delta st).row st.operations
  new = row_cases F p adds delta st st.operations (λ w. new_row p adds delta (length st.history) ≡ w) (λ e. refl) (λ n. absurd (n refl))

  -- a count over the rows is that over the old ones, and one more where the new one counts
  count_start : (t : Row → Bool) → count_below (suc st.operations) (λ i. t ((start F p adds delta st).row i)) ≡ count_below st.operations (λ i. t (st.row i)) + cond (t (new_row p adds delta (length st.history))) 1 0
  unfolding count_below
  count_start t =
      ap₂ (λ (n : ℕ) (w : Row). n + cond (t w) 1 0) (count_same st.operations (λ i. t ((start F p adds delta st).row i)) (λ i. t (st.row i)) (λ i b. ap t (sym (old i b)))) (sym new)

  busy_start : busy_count F (start F p adds delta st).process ≡ count_below (suc st.operations) (λ i. not ((start F p adds delta st).row i).finished)
  unfolding new_row
  busy_start = omega (arith, start_raises_count F p adds delta st inside free, U.busy_now, count_start (λ w. not w.finished))

  -- the new operation is at no record before its start
  during_start : (k : ℕ) → k < length st.history → under_way_at (start F p adds delta st).row (suc st.operations) k ≡ under_way_at st.row st.operations k
  unfolding new_row
  during_start k l =
      let none_yet : during (new_row p adds delta (length st.history)) k ≡ false = before_start (new_row p adds delta (length st.history)) k l in
      count_start (λ w. during w k) ∙ rw none_yet (add-zero _)

  pub under_way_start : UnderWay F (start F p adds delta st)
  unfolding start new_row
  under_way_start =
      record {
        busy_now = busy_start;
        entries = more (told_now (start F p adds delta st).row (suc st.operations) _ st.history busy_start
            (λ i b. row_cases F p adds delta st i (λ w. (w.started ≤ length st.history) × (w.ended ≤ length st.history))
            (λ e. (omega arith, omega arith)) (λ n. (omega (arith, H.begun i (omega arith)), H.ended i))))
            (told_same st.row (start F p adds delta st).row st.operations (suc st.operations) (λ k l. sym (during_start k l)) U.entries);
      }

-- ---- the contention by the rows

-- the greatest c k of those k below the first number that t holds of, 0 where it holds of none
unfoldable pub greatest_over : ℕ → (ℕ → Bool) → (ℕ → ℕ) → ℕ
greatest_over zero t c = 0
greatest_over (suc k) t c = max (greatest_over k t c) (cond (t k) (c k) 0)

told_over : (row : ℕ → Row) (m : ℕ) (w : Row) {es : List Entry} → EntriesTell row m es → contention w es ≡ greatest_over (length es) (during w) (under_way_at row m)
unfolding contention greatest_over
told_over row m w none = refl
told_over row m w (more {es = es} e t) = ap₂ (λ (a b : ℕ). max a (cond (during w (length es)) b 0)) (told_over row m w t) e

pub contention_over : (F : Form) (st : State) → UnderWay F st → (w : Row) → contention w st.history ≡ greatest_over (length st.history) (during w) (λ k. count_below st.operations (λ j. during (st.row j) k))
contention_over F st U w = told_over st.row st.operations w U.entries
