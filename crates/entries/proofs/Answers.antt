-- From how a run ends to what check and report answer and leave in the buffer.
use Prim.Native.Nat.{ℕ, ◌+◌, ◌*◌, ◌^◌, ◌≤◌, ◌<◌}
use native.Mathlib.Omega.{arith}
use mathlib.Core.Path.{◌≡◌, refl, sym, ap, ◌∙◌}
use mathlib.Core.Bool.{Bool, true, false}
use mathlib.Core.List.{List, ◌++◌}
use lib.ListN.{length, drop}
use lib.Dec.{leb}
use borrow.Author.Tests.{le-leb, lt-leb}
use Rattle.meaning.specs.Layout.{form_of, first_record}
use Rattle.meaning.specs.Shape.{Form}
use Rattle.meaning.specs.Run.{most_operations, Outcome, accepted, outcome}
use Rattle.meaning.specs.Drawer.{report_with}
use Rattle.meaning.specs.Report.{row_length, report_bytes, needed, passes, answer_with, buffer_with, report_answer, report_buffer, check_with}
use Rattle.rows.specs.Rows.{laid_report}
use Rattle.rows.proofs.Laws.{report_bytes_lem}
use Rattle.engine.specs.Ends.{Ends, refuses, accepts}
use Rattle.recording.specs.Record.{Answer}
use Rattle.std.specs.Prelude.{Result, Ok, Err}
use Rattle.refusals.specs.declared.Refused.{Refused}
use Rattle.engine.specs.declared.Accepted.{Accepted}
use Rattle.engine.proofs.AcceptedRows.{accepted_fits, accepted_small}
use Rattle.entries.specs.Promises.{answer_of, Reports}

-- ---- check

pub check_ends : (asked : Bool) (F : Form) (size : ℕ) (rows : ℕ → ℕ) (r : Result Accepted Refused) {o : Outcome} → Ends asked F size rows r o → answer_of r ≡ check_with o
unfolding check_with answer_of
check_ends asked F size rows r (refuses f) = λ i. record { number = f.its i; place = f.there i }
check_ends asked F size rows r (accepts c d e l f) = refl

module _ {asked : Bool} {F : Form} {size : ℕ} {rows : ℕ → ℕ} where
  -- the place of a refusal fits the answer's
  pub within_of_ends : {r : Refused} {o : Outcome} → Ends asked F size rows (Err r) o → r.place < 2 ^ 32
  within_of_ends (refuses f) = omega (arith, f.within)

  -- the operations that an end tells
  pub few_of_ends : {r : Accepted} {o : Outcome} → Ends asked F size rows (Ok r) o → r.operations ≤ most_operations
  few_of_ends (accepts c d e l f) = omega arith

  pub bytes_of_ends : {r : Accepted} {o : Outcome} → Ends asked F size rows (Ok r) o → 3 * r.operations + first_record ≤ size
  bytes_of_ends (accepts c d e l f) = omega arith

-- ---- report

-- the promise, where the outcome is known
pub reports : (s before after : List ℕ) (a : Answer) (o : Outcome) → outcome s ≡ o → a ≡ answer_with o (length before) → after ≡ buffer_with (form_of s) o before → Reports s before after a
unfolding report_answer report_buffer
reports s before after r o e a b = record { answer = a ∙ ap (λ (x : Outcome). answer_with x (length before)) (sym e); buffer = b ∙ ap (λ (x : Outcome). buffer_with (form_of s) x before) (sym e) }

module _ (s buf : List ℕ) (F : Form) (size : ℕ) (rows : ℕ → ℕ) (same : F ≡ form_of s) where
  pub report_refused : (r : Refused) {o : Outcome} → outcome s ≡ o → Ends true F size rows (Err r) o → Reports s buf buf (answer_of {T = Unit {0}} (Err r))
  unfolding answer_with buffer_with answer_of
  report_refused r {o} e (refuses w) = reports s buf buf _ o e (λ i. record { number = w.its i; place = w.there i }) refl

  module _ (r : Accepted) where
    pub report_short : {o : Outcome} → outcome s ≡ o → Ends true F size rows (Ok r) o → length buf < 9 + row_length * r.operations → Reports s buf buf (record { number = 11; place = 9 + row_length * r.operations })
    unfolding answer_with buffer_with needed
    report_short e (accepts {st} c d f q g) l =
        let long : leb (9 + row_length * st.operations) (length buf) ≡ false = lt-leb (9 + row_length * st.operations) (length buf) (omega arith) in
        reports s buf buf _ (accepted st) e (rw long (ap (λ (m : ℕ). record { number = 11; place = 9 + row_length * m }) c)) (rw long)

    -- what laying the report leaves, once the run is accepted
    pub laid_bytes : {o : Outcome} → outcome s ≡ o → Ends true F size rows (Ok r) o
        → laid_report r.operations r.counter rows buf ≡ report_with (form_of s) o ++ drop (9 + row_length * r.operations) buf
    unfolding report_with needed
    laid_bytes e (accepts {st} c d f q g) =
        (λ i. laid_report (c i) (d i) rows buf) ∙ report_bytes_lem F st rows (λ i k x y. g refl i k x y) (λ i x. accepted_fits s st e i) (λ i x. accepted_small s st e (st.row i)) buf
        ∙ (λ i. report_bytes (same i) st ++ drop (9 + row_length * sym c i) buf)

    pub report_laid : (after : List ℕ) {o : Outcome} → outcome s ≡ o → Ends true F size rows (Ok r) o → 9 + row_length * r.operations ≤ length buf → after ≡ laid_report r.operations r.counter rows buf
        → Reports s buf after passes
    unfolding answer_with buffer_with needed report_with
    report_laid after e (accepts {st} c d f q g) l laid =
        let long : leb (9 + row_length * st.operations) (length buf) ≡ true = le-leb (9 + row_length * st.operations) (length buf) (omega arith) in
        reports s buf after _ (accepted st) e (rw long)
        (rw long (laid ∙ laid_bytes e (accepts c d f q g) ∙ ap (λ (m : ℕ). report_bytes (form_of s) st ++ drop (9 + row_length * m) buf) c))
