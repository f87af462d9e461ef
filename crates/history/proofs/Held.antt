-- Whose operation is under way, and when it was: an unfinished row's process is busy with it; no start and
-- no last step is later than the history.
use Prim.Native.Nat.{ℕ, suc, ◌^◌, ◌≤◌, ◌<◌}
use native.Mathlib.Omega.{arith}
use mathlib.Core.Path.{◌≡◌, refl, sym, ap, ◌∙◌, subst}
use mathlib.Core.Bool.{Bool, false}
use lib.ListN.{length}
use Rattle.meaning.specs.Shape.{Form}
use Rattle.meaning.specs.Steps.{Process, idle as idleProcess}
use Rattle.meaning.specs.Run.{State, blank, initial, started, new_row, start, row_after, most_operations, take_step}
use Rattle.history.proofs.Good.{Good, Stepping, not_done, record_after, same_operation, by_stepper, stepped_row, row_cases, process_cases}

-- a process's record that is busy with operation i
abbrev pub BusyWith : ℕ → Process → Type 0
BusyWith i x = (1 ≤ x.step) × (x.operation ≡ i)

pub record Held (F : Form) (st : State) : Type 0 where
  pub held : (i : ℕ) → i < st.operations → (st.row i).finished ≡ false → BusyWith i (st.process (st.row i).process)
  pub begun : (i : ℕ) → i < st.operations → (st.row i).started < length st.history
  pub ended : (i : ℕ) → (st.row i).ended ≤ length st.history

pub held_initial : (F : Form) → Held F (initial F)
unfolding initial idleProcess blank
held_initial F =
    record {
      held = λ i b f. absurd (omega arith);
      begun = λ i b. absurd (omega arith);
      ended = λ i. omega arith;
    }

-- ---- a step

module _ (F : Form) (p : ℕ) (st : State) (s : Stepping F p st) where
  -- a row's process stays
  same_process : (i : ℕ) → ((take_step F p st).row i).process ≡ (st.row i).process
  unfolding row_after
  same_process i = stepped_row F p st s i (λ w. w.process ≡ (st.row i).process) (λ e. ap (λ (j : ℕ). (st.row j).process) (sym e)) (λ n. refl)

  -- the record of a row's process after the step
  pub of_row : (i : ℕ) (P : Process → Type 0) → ((st.row i).process ≡ p → P (record_after F p st)) → (((st.row i).process ≡ p → ⊥) → P (st.process (st.row i).process))
      → P ((take_step F p st).process ((take_step F p st).row i).process)
  of_row i P now before =
      by_stepper F p st s (λ q x. q ≡ (st.row i).process → P x) (λ e. now (sym e)) (λ q n e. subst (λ (j : ℕ). P (st.process j)) (sym e) (before (λ z. n (e ∙ z))))
      ((take_step F p st).row i).process (same_process i)

  module _ (k : Held F st) where
    -- its own row
    named : (i : ℕ) → i ≡ (st.process p).operation → (st.row i).process ≡ p
    named i e = ap (λ (j : ℕ). (st.row j).process) e ∙ s.good.owner p s.acts

    pub held_step : Held F (take_step F p st)
    unfolding row_after take_step
    held_step =
        record {
          held = λ i b. stepped_row F p st s i (λ w. w.finished ≡ false → BusyWith i ((take_step F p st).process ((take_step F p st).row i).process))
              (λ e f. of_row i (BusyWith i) (λ o. (not_done (record_after F p st).step f, same_operation F p st s ∙ sym e)) (λ o. absurd (o (named i e))))
              (λ n f. of_row i (BusyWith i) (λ o. absurd (n (sym (k.held i b f).1 ∙ ap (λ (q : ℕ). (st.process q).operation) o))) (λ o. k.held i b f));
          begun = λ i b. stepped_row F p st s i (λ w. w.started < suc (length st.history)) (λ e. omega (arith, k.begun (st.process p).operation (s.good.owns p s.acts))) (λ n. omega (arith, k.begun i b));
          ended = λ i. stepped_row F p st s i (λ w. w.ended ≤ suc (length st.history)) (λ e. omega arith) (λ n. omega (arith, k.ended i));
        }

-- ---- a start

module _ (F : Form) (p : ℕ) (adds : Bool) (delta : ℕ) (st : State) (g : Good F st) (inside : p < 2 ^ F.height) (free : (st.process p).step ≡ 0) (room : st.operations < most_operations) (k : Held F st) where
  pub held_start : Held F (start F p adds delta st)
  unfolding start started new_row
  held_start =
      record {
        held = λ i b. row_cases F p adds delta st i (λ w. w.finished ≡ false → BusyWith i ((start F p adds delta st).process w.process))
            (λ e f. process_cases F p adds delta st p (BusyWith i) (λ o. (omega arith, sym e)) (λ n. absurd (n refl)))
            (λ n f. process_cases F p adds delta st (st.row i).process (BusyWith i) (λ o. absurd (omega (arith, (k.held i (omega arith) f).0, ap (λ (q : ℕ). (st.process q).step) o, free))) (λ o. k.held i (omega arith) f));
        begun = λ i b. row_cases F p adds delta st i (λ w. w.started < suc (length st.history)) (λ e. omega arith) (λ n. omega (arith, k.begun i (omega arith)));
        ended = λ i. row_cases F p adds delta st i (λ w. w.ended ≤ suc (length st.history)) (λ e. omega arith) (λ n. omega (arith, k.ended i));
      }
