-- The text that is told by the report's bytes is the one that the definition prints.
use Prim.Native.Nat.{ℕ, zero, suc, ◌+◌, ◌*◌, ◌/◌, ◌^◌, ◌≤◌, ◌<◌}
use native.Mathlib.Nat.{zero-add, add-zero}
use native.Mathlib.Omega.{arith}
use mathlib.Core.Path.{◌≡◌, refl, sym, ap, ap₂, ◌∙◌}
use mathlib.Core.List.{List, [], ◌∷◌, ◌++◌, append_assoc}
use lib.ListN.{length, take, drop, length-append}
use lib.Seq.{get_or-append-add}
use borrow.Author.Tests.{le-leb}
use Rattle.recording.specs.Numbers.{four_bytes, number_at}
use Rattle.recording.specs.Record.{Answer}
use Rattle.recording.proofs.Laws.{number_there, number_of_bytes_there}
use Rattle.rows.proofs.Laws.{length-rows_bytes}
use Rattle.meaning.specs.Shape.{Form}
use Rattle.meaning.specs.Layout.{form_of}
use Rattle.meaning.specs.Tree.{root}
use Rattle.meaning.specs.Run.{Row, State, Outcome, refused, accepted, outcome}
use Rattle.meaning.specs.Contention.{contention}
use Rattle.meaning.specs.TakenIn.{rank}
use Rattle.meaning.specs.Report.{one, row_bytes, rows_bytes, report_bytes, needed, passes, answer_with, buffer_with, report_answer, report_buffer}
use Rattle.meaning.specs.Printed.{row_line, row_lines, printed_of, printed}
use Rattle.entries.specs.Promises.{Reports}
use Rattle.entries.proofs.Laws.{refusal_positive}
use Rattle.lines.specs.Text.{kind_text, row_text, row_texts, first_text, report_text, refusal_text}
use Rattle.laying.specs.Lays.{Lays}
use Rattle.laying.proofs.Laid.{lays_all}
use Rattle.printing.specs.Prints.{Prints}
use Rattle.printing.proofs.Fits.{Fits, accepted_fits}

-- ---- a row

module _ (w : Row) (c r : ℕ) (steps : w.steps < 2 ^ 32) (answer : w.answer < 2 ^ 32) (rank : r < 2 ^ 32) (seconds : w.seconds < 2 ^ 32) (rest : List ℕ) where
  abbrev bytes : List ℕ
  bytes = w.process ∷ w.kind ∷ one w.finished ∷ c ∷ []

  abbrev row : List ℕ
  row = row_bytes w c r ++ rest

  row_steps : number_at row 4 ≡ w.steps
  unfolding row_bytes four_bytes
  row_steps = number_of_bytes_there bytes w.steps (four_bytes w.answer ++ four_bytes r ++ four_bytes w.seconds ++ rest) steps

  row_answer : number_at row 8 ≡ w.answer
  unfolding row_bytes four_bytes
  row_answer = number_of_bytes_there (bytes ++ four_bytes w.steps) w.answer (four_bytes r ++ four_bytes w.seconds ++ rest) answer

  row_rank : number_at row 12 ≡ r
  unfolding row_bytes four_bytes
  row_rank = number_of_bytes_there (bytes ++ four_bytes w.steps ++ four_bytes w.answer) r (four_bytes w.seconds ++ rest) rank

  row_seconds : number_at row 16 ≡ w.seconds
  unfolding row_bytes four_bytes
  row_seconds = number_of_bytes_there (bytes ++ four_bytes w.steps ++ four_bytes w.answer ++ four_bytes r) w.seconds rest seconds

  -- the row's line, wherever its bytes stand
  row_shown : (front : List ℕ) → row_text (front ++ row) (length front) ≡ row_line w c r
  unfolding row_text row_line kind_text row_bytes
  row_shown front =
      let byte = get_or-append-add front row in
      let number = number_there front row in
      let first = simp add-zero at (byte 0 0) in
      rw (first, byte 1 0, byte 2 0, byte 3 0, number 4, number 8, number 12, number 16, row_steps, row_answer, row_rank, row_seconds)

-- ---- the rows, and the report

module _ (F : Form) (st : State) (fits : Fits F st) where
  rows_shown : (front : List ℕ) → length front ≡ 9 → (k : ℕ) (rest : List ℕ) → row_texts (front ++ (rows_bytes F st k ++ rest)) k ≡ row_lines F st k
  unfolding row_texts row_lines rows_bytes
  rows_shown front nine zero rest = refl
  rows_shown front nine (suc k) rest =
      let w : Row = st.row k in
      let c : ℕ = contention w st.history in
      let r : ℕ = rank F st.history k in
      let before : List ℕ = front ++ rows_bytes F st k in
      let long : length before ≡ 9 + 20 * k = length-append front (rows_bytes F st k) ∙ omega (arith, length-rows_bytes F st k) in
      let all : front ++ (rows_bytes F st k ++ row_bytes w c r ++ rest) ≡ before ++ (row_bytes w c r ++ rest) =
      ap (λ (l : List ℕ). front ++ l) (append_assoc (rows_bytes F st k) (row_bytes w c r) rest) ∙ sym (append_assoc front (rows_bytes F st k) (row_bytes w c r ++ rest)) in
      ap₂ (λ (a b : List ℕ). a ++ b)
      (ap (λ (l : List ℕ). row_texts l k) (ap (λ (l : List ℕ). front ++ l) (append_assoc (rows_bytes F st k) (row_bytes w c r) rest)) ∙ rows_shown front nine k (row_bytes w c r ++ rest))
      (ap₂ (λ (l : List ℕ) (n : ℕ). row_text l n) all (sym long)
      ∙ row_shown w c r (fits.steps k) (fits.answer k) (fits.rank k) (fits.seconds k) rest before)

  abbrev report : List ℕ → List ℕ
  report rest = report_bytes F st ++ rest

  operations_shown : (rest : List ℕ) → number_at (report rest) 1 / 20 ≡ st.operations
  unfolding report_bytes four_bytes
  operations_shown rest =
      omega
      (arith, fits.operations, number_of_bytes_there (1 ∷ []) (4 + 20 * st.operations) (four_bytes (st.memory.value root) ++ rows_bytes F st st.operations ++ rest) (omega (arith, fits.operations)))

  counter_shown : (rest : List ℕ) → number_at (report rest) 5 ≡ st.memory.value root
  unfolding report_bytes four_bytes
  counter_shown rest =
      number_of_bytes_there (1 ∷ four_bytes (4 + 20 * st.operations)) (st.memory.value root) (rows_bytes F st st.operations ++ rest) fits.counter

  report_shown : (rest : List ℕ) → first_text st.operations (st.memory.value root) ++ row_texts (report rest) st.operations ≡ printed_of F (accepted st)
  unfolding printed_of first_text report_bytes four_bytes
  report_shown rest =
      ap (λ (l : List ℕ). first_text st.operations (st.memory.value root) ++ l)
      (rows_shown (1 ∷ four_bytes (4 + 20 * st.operations) ++ four_bytes (st.memory.value root)) refl st.operations rest)

-- ---- by what report promises

module _ (s t buf after : List ℕ) (r : Answer) (cut : t ≡ take 65537 s) (long : length buf ≡ 20489) (x : Reports t buf after r) where
  text_of : printed_of (form_of t) (outcome t) ≡ printed s
  unfolding printed
  text_of = ap (λ (l : List ℕ). printed_of (form_of l) (outcome l)) cut

  pub refusal_printed : (r.number ≡ 0 → ⊥) → refusal_text r.number r.place ≡ printed s
  unfolding printed_of refusal_text report_answer answer_with passes needed
  refusal_printed some = go (outcome t) refl x.answer ∙ text_of
    where
      go : (o : Outcome) → outcome t ≡ o → r ≡ answer_with o (length buf) → refusal_text r.number r.place ≡ printed_of (form_of t) o
      go (refused a) e d = ap (λ (z : Answer). refusal_text z.number z.place) d
      go (accepted st) e d =
          let its : r ≡ passes = d ∙ rw (le-leb (needed st) (length buf) (omega (arith, long, (accepted_fits t st e).operations))) in
          absurd (some (ap (λ (z : Answer). z.number) its))

  -- how many rows there are, and the text
  pub report_printed : r.number ≡ 0 → (number_at after 1 / 20 ≤ 1024) × (report_text after ≡ printed s)
  unfolding report_answer answer_with report_buffer buffer_with needed report_text
  report_printed none = go (outcome t) refl x.answer x.buffer
    where
      go : (o : Outcome) → outcome t ≡ o → r ≡ answer_with o (length buf) → after ≡ buffer_with (form_of t) o buf
          → (number_at after 1 / 20 ≤ 1024) × (report_text after ≡ printed s)
      go (refused a) e d b = absurd (omega (arith, refusal_positive t a e, ap (λ (z : Answer). z.number) d))
      go (accepted st) e d b =
          let fits = accepted_fits t st e in
          let room = le-leb (needed st) (length buf) (omega (arith, long, fits.operations)) in
          let rest : List ℕ = drop (needed st) buf in
          let its : after ≡ report_bytes (form_of t) st ++ rest = b ∙ rw room in
          let m : number_at after 1 / 20 ≡ st.operations = ap (λ (l : List ℕ). number_at l 1 / 20) its ∙ operations_shown (form_of t) st fits rest in
          let w : number_at after 5 ≡ st.memory.value root = ap (λ (l : List ℕ). number_at l 5) its ∙ counter_shown (form_of t) st fits rest in (
            omega (arith, m, fits.operations),
            ap₂ (λ (a b : List ℕ). a ++ b) (ap₂ first_text m w) (ap₂ row_texts its m) ∙ report_shown (form_of t) st fits rest
                ∙ ap (λ (o : Outcome). printed_of (form_of t) o) (sym e) ∙ text_of,
          )

-- ---- the whole buffer

pub prints : (s before after : List ℕ) (r : ℕ) {bytes : List ℕ} → bytes ≡ printed s → length before ≡ 84009 → r ≤ 84009 → Lays before 0 bytes after r → Prints s before after r
prints s before after r e long small x =
    record {
      answer = x.place ∙ zero-add _ ∙ ap length e;
      within = omega (arith, x.same);
      buffer = lays_all x ∙ ap (λ (l : List ℕ). l ++ drop r before) e;
    }
