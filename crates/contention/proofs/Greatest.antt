-- What the code keeps and shows is the contention: for each busy process that of its operation so far, and that of a finished operation in
-- its row.
use Prim.Native.Nat.{ℕ, max, ◌^◌, ◌≤◌, ◌<◌}
use native.Mathlib.Nat.{max-eq_left, zero-max, lt_of_not-le}
use native.Mathlib.Omega.{arith}
use mathlib.Core.Path.{◌≡◌, refl, sym, ap, ◌∙◌}
use mathlib.Core.Bool.{Bool, true, false, cond, true≢false}
use mathlib.Core.List.{List, ◌∷◌}
use lib.ListN.{length}
use lib.Pow.{pow_mono}
use borrow.Author.Tests.{ne_eqb}
use Rattle.meaning.proofs.Updates.{upd_same, upd_other}
use Rattle.meaning.specs.Shape.{Form}
use Rattle.meaning.specs.Steps.{upd, idle}
use Rattle.meaning.specs.Run.{Entry, Row, State, initial, busy_count, started, new_row, start, row_after, most_operations, take_step}
use Rattle.meaning.specs.Contention.{contention}
use Rattle.history.proofs.Good.{Good, Stepping, access_by, record_after, entry_by, begins_by, same_operation, other, by_stepper, stepped_row, row_cases, process_cases}
use Rattle.ledger.proofs.Numbers.{shown_after}
use Rattle.history.proofs.Held.{Held}
use Rattle.contention.specs.Greatest.{raised}
use Rattle.contention.proofs.Raised.{raised_own, raised_other}
use Rattle.history.proofs.Contention.{contention_later, contention_before, contention_more, contention_ended}
use Rattle.history.proofs.Busy.{step_raises_no_count, Small, small_initial, small_step, small_start}

-- ---- what is shown and kept

pub record Greatest (F : Form) (st : State) (shown greatest : ℕ → ℕ) : Type 0 where
  -- what stands in the rows: the contention of a finished operation, 0 before
  pub finished : (i : ℕ) → i < st.operations → (st.row i).finished ≡ true → shown i ≡ contention (st.row i) st.history
  pub unfinished : (i : ℕ) → i < st.operations → (st.row i).finished ≡ false → shown i ≡ 0
  -- what is kept for a busy process, and that those busy now are no more
  pub kept : (p : ℕ) → 1 ≤ (st.process p).step → greatest p ≡ contention (st.row (st.process p).operation) st.history
  pub now : (p : ℕ) → 1 ≤ (st.process p).step → busy_count F st.process ≤ contention (st.row (st.process p).operation) st.history
  pub small : Small F st

pub greatest_initial : (F : Form) (shown greatest : ℕ → ℕ) → Greatest F (initial F) shown greatest
unfolding initial idle
greatest_initial F shown greatest =
    record {
      finished = λ i b. absurd (omega arith);
      unfinished = λ i b. absurd (omega arith);
      kept = λ p b. absurd (omega arith);
      now = λ p b. absurd (omega arith);
      small = small_initial F;
    }

-- ---- a step

-- the row of the operation whose step it is, after it
abbrev row_now : Form → ℕ → State → Row
row_now F p st = row_after (access_by F p st) (record_after F p st) (length st.history) (st.row (st.process p).operation)

module _ (F : Form) (p : ℕ) (st : State) (s : Stepping F p st) (H : Held F st) where
  -- as long as it is under way the row has the contention that it had; at the last step that of the records before it
  on_the_way : (es : List Entry) → 1 ≤ (record_after F p st).step → contention (st.row (st.process p).operation) es ≡ contention (row_now F p st) es
  unfolding row_after
  on_the_way es b =
      contention_later (st.row (st.process p).operation) (row_now F p st) es refl (s.good.unfinished p s.acts) (λ f. absurd (true≢false (sym f ∙ ne_eqb (record_after F p st).step 0 (omega arith))))

  at_the_end : (row_now F p st).finished ≡ true → contention (st.row (st.process p).operation) st.history ≡ contention (row_now F p st) (entry_by F p st ∷ st.history)
  unfolding row_after
  at_the_end f =
      contention_later (st.row (st.process p).operation) (row_now F p st) st.history refl (s.good.unfinished p s.acts) (λ f. omega arith)
      ∙ sym (contention_ended (row_now F p st) (entry_by F p st) st.history f (omega arith))

  module _ (shown greatest : ℕ → ℕ) (G : Greatest F st shown greatest) where
    -- the step adds nothing to the contention of an operation under way
    no_more : (q : ℕ) → 1 ≤ (st.process q).step → contention (st.row (st.process q).operation) st.history ≡ contention (st.row (st.process q).operation) (entry_by F p st ∷ st.history)
    unfolding take_step
    no_more q b =
        sym
        (contention_more (st.row (st.process q).operation) (entry_by F p st) st.history (s.good.unfinished q b) (omega (arith, H.begun (st.process q).operation (s.good.owns q b)))
        ∙ max-eq_left (omega (arith, step_raises_no_count F p st s, G.now q b)))

    -- a process that is busy after the step was so before, and its operation's contention is what it was
    stays : (q : ℕ) → 1 ≤ ((take_step F p st).process q).step
        → (1 ≤ (st.process q).step) × (contention (st.row (st.process q).operation) st.history ≡ contention ((take_step F p st).row ((take_step F p st).process q).operation) (take_step F p st).history)
    unfolding take_step
    stays =
        by_stepper F p st s (λ q r. 1 ≤ r.step → (1 ≤ (st.process q).step) × (contention (st.row (st.process q).operation) st.history ≡ contention ((take_step F p st).row r.operation) (entry_by F p st ∷ st.history)))
        (λ b. (
          s.acts,
          no_more p s.acts ∙ stepped_row F p st s (record_after F p st).operation (λ w. contention (st.row (st.process p).operation) (entry_by F p st ∷ st.history) ≡ contention w (entry_by F p st ∷ st.history))
              (λ e. on_the_way (entry_by F p st ∷ st.history) b) (λ n. absurd (n (same_operation F p st s))),
        ))
        (λ q n b. (
          b,
          no_more q b ∙ stepped_row F p st s (st.process q).operation (λ w. contention (st.row (st.process q).operation) (entry_by F p st ∷ st.history) ≡ contention w (entry_by F p st ∷ st.history))
              (λ e. absurd (other F p st s q n b e)) (λ m. refl),
        ))

    -- what is shown of the operation itself
    its_shown : (i : ℕ) → i ≡ (st.process p).operation → upd shown (st.process p).operation (shown_after (record_after F p st) (greatest p)) i ≡ shown_after (record_after F p st) (greatest p)
    its_shown i e = rw e (upd_same shown (st.process p).operation (shown_after (record_after F p st) (greatest p)))

    pub greatest_step : Greatest F (take_step F p st) (upd shown (st.process p).operation (shown_after (record_after F p st) (greatest p))) greatest
    unfolding take_step row_after
    greatest_step =
        record {
          finished = λ i b. stepped_row F p st s i (λ w. w.finished ≡ true → upd shown (st.process p).operation (shown_after (record_after F p st) (greatest p)) i ≡ contention w (entry_by F p st ∷ st.history))
              (λ e f. its_shown i e ∙ ap (λ (t : Bool). cond t (greatest p) 0) f ∙ G.kept p s.acts ∙ at_the_end f)
              (λ n f. upd_other shown (st.process p).operation _ i n ∙ G.finished i b f ∙ sym (contention_ended (st.row i) (entry_by F p st) st.history f (H.ended i)));
          unfinished = λ i b. stepped_row F p st s i (λ w. w.finished ≡ false → upd shown (st.process p).operation (shown_after (record_after F p st) (greatest p)) i ≡ 0)
              (λ e f. its_shown i e ∙ ap (λ (t : Bool). cond t (greatest p) 0) f)
              (λ n f. upd_other shown (st.process p).operation _ i n ∙ G.unfinished i b f);
          kept = λ q b. G.kept q (stays q b).0 ∙ (stays q b).1;
          now = λ q b. omega (arith, step_raises_no_count F p st s, G.now q (stays q b).0, (stays q b).1);
          small = small_step F p st G.small;
        }

-- ---- a start

module _ (F : Form) (p : ℕ) (adds : Bool) (delta : ℕ) (st : State) (g : Good F st) (inside : p < 2 ^ F.height) (free : (st.process p).step ≡ 0) (room : st.operations < most_operations) (H : Held F st)
    (shown greatest : ℕ → ℕ) (G : Greatest F st shown greatest) where
  -- the new operation's contention is the count after its start
  begins : contention (new_row p adds delta (length st.history)) (begins_by F p adds delta st ∷ st.history) ≡ (begins_by F p adds delta st).busy
  unfolding new_row
  begins =
      let w : Row = new_row p adds delta (length st.history) in
      contention_more w (begins_by F p adds delta st) st.history refl (omega arith)
      ∙ ap (λ (n : ℕ). max n (begins_by F p adds delta st).busy) (contention_before w st.history (omega arith)) ∙ zero-max _

  -- that of the others under way is raised to it
  goes_on : (q : ℕ) → 1 ≤ (st.process q).step
      → contention (st.row (st.process q).operation) (begins_by F p adds delta st ∷ st.history) ≡ max (contention (st.row (st.process q).operation) st.history) (begins_by F p adds delta st).busy
  goes_on q b =
      contention_more (st.row (st.process q).operation) (begins_by F p adds delta st) st.history (g.unfinished q b) (omega (arith, H.begun (st.process q).operation (g.owns q b)))

  -- what must hold of process q, whose operation's row is w
  abbrev KeptNow : ℕ → Row → Type 0
  KeptNow q w =
      (raised p (begins_by F p adds delta st).busy greatest q ≡ contention w (begins_by F p adds delta st ∷ st.history))
      × ((begins_by F p adds delta st).busy ≤ contention w (begins_by F p adds delta st ∷ st.history))

  kept_now : (q : ℕ) → 1 ≤ ((start F p adds delta st).process q).step → KeptNow q ((start F p adds delta st).row ((start F p adds delta st).process q).operation)
  unfolding started
  kept_now q =
      process_cases F p adds delta st q (λ r. 1 ≤ r.step → KeptNow q ((start F p adds delta st).row r.operation))
      (λ e b. row_cases F p adds delta st st.operations (KeptNow q) (λ o. (raised_own p _ greatest q e ∙ sym begins, omega (arith, begins))) (λ n. absurd (n refl)))
      (λ n b. row_cases F p adds delta st (st.process q).operation (KeptNow q) (λ e. absurd (omega (arith, g.owns q b)))
      (λ m. (raised_other p _ greatest q n (below q b) ∙ ap (λ (x : ℕ). max x (begins_by F p adds delta st).busy) (G.kept q b) ∙ sym (goes_on q b), omega (arith, goes_on q b))))
    where
      below : (q : ℕ) → 1 ≤ (st.process q).step → q < 64
      below q b = let l : q < 2 ^ F.height = lt_of_not-le (λ l. omega (arith, g.beyond q l)) in omega (arith, pow_mono g.high)

  pub greatest_start : Greatest F (start F p adds delta st) (upd shown st.operations 0) (raised p (busy_count F (start F p adds delta st).process) greatest)
  unfolding start new_row
  greatest_start =
      record {
        finished = λ i b. row_cases F p adds delta st i (λ w. w.finished ≡ true → upd shown st.operations 0 i ≡ contention w (begins_by F p adds delta st ∷ st.history))
            (λ e f. absurd (true≢false (sym f)))
            (λ n f. upd_other shown st.operations 0 i n ∙ G.finished i (omega arith) f ∙ sym (contention_ended (st.row i) (begins_by F p adds delta st) st.history f (H.ended i)));
        unfinished = λ i b. row_cases F p adds delta st i (λ w. w.finished ≡ false → upd shown st.operations 0 i ≡ 0)
            (λ e f. rw e (upd_same shown st.operations 0))
            (λ n f. upd_other shown st.operations 0 i n ∙ G.unfinished i (omega arith) f);
        kept = λ q b. (kept_now q b).0;
        now = λ q b. (kept_now q b).1;
        small = small_start F p adds delta st G.small;
      }

-- ---- what the rows show

pub shown_small : (F : Form) (st : State) (shown greatest : ℕ → ℕ) → Good F st → Greatest F st shown greatest → (i : ℕ) → i < st.operations → shown i < 256
shown_small F st shown greatest g G i b = go (st.row i).finished refl
  where
    go : (t : Bool) → (st.row i).finished ≡ t → shown i < 256
    go true f = omega (arith, G.finished i b f, G.small (st.row i), pow_mono g.high)
    go false f = omega (arith, G.unfinished i b f)

-- the end: an unfinished row gets what is kept for its process, and then each row shows its contention
pub greatest_closed : (F : Form) (st : State) → Held F st → (shown greatest : ℕ → ℕ) → Greatest F st shown greatest → (i : ℕ) → i < st.operations
    → cond (st.row i).finished (shown i) (greatest (st.row i).process) ≡ contention (st.row i) st.history
greatest_closed F st H shown greatest G i b = go (st.row i).finished refl
  where
    go : (t : Bool) → (st.row i).finished ≡ t → cond t (shown i) (greatest (st.row i).process) ≡ contention (st.row i) st.history
    go true f = G.finished i b f
    go false f =
        G.kept (st.row i).process (H.held i b f).0 ∙ ap (λ (j : ℕ). contention (st.row j) st.history) (H.held i b f).1
