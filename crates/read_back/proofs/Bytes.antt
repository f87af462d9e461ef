-- What is read back out of the report's bytes, whatever follows them, is what was written there.
use Prim.Native.Nat.{ℕ, zero, suc, ◌+◌, ◌*◌, ◌^◌, ◌≤◌, ◌<◌}
use native.Mathlib.Omega.{arith}
use mathlib.Core.Path.{◌≡◌, refl, sym, ap, ap₂, ◌∙◌}
use mathlib.Core.Bool.{Bool, true, false}
use mathlib.Core.List.{List, [], ◌∷◌, ◌++◌, append-nil, append_assoc}
use lib.ListN.{length, get_or}
use lib.Seq.{get_or-append-add}
use lib.Dec.{ltb}
use borrow.Author.Tests.{ltb-true, ltb-false}
use Rattle.recording.specs.Numbers.{four_bytes, number_at}
use Rattle.recording.proofs.Laws.{number_there, number_of_bytes_there}
use Rattle.rows.proofs.Laws.{length-rows_bytes}
use Rattle.meaning.specs.Shape.{Form}
use Rattle.meaning.specs.Tree.{root}
use Rattle.meaning.specs.Run.{Row, State, most_operations}
use Rattle.meaning.specs.Contention.{contention}
use Rattle.meaning.specs.TakenIn.{rank}
use Rattle.meaning.specs.Report.{one, row_bytes, rows_bytes, report_bytes}
use Rattle.read_back.specs.ReadBack.{row_at, operations_in, counter_in, process_in, kind_in, finished_in, contention_in, steps_in, answer_in, rank_in, seconds_in}

module _ (F : Form) (st : State) where
  abbrev bytes_at : ℕ → List ℕ
  bytes_at i = row_bytes (st.row i) (contention (st.row i) st.history) (rank F st.history i)

  -- the rows before row i, row i, and those after it
  rows_split : (i k : ℕ) → i < k → (after : List ℕ) × (rows_bytes F st k ≡ rows_bytes F st i ++ (bytes_at i ++ after))
  unfolding rows_bytes
  rows_split i zero b = absurd (omega arith)
  rows_split i (suc k) b = go (ltb i k) refl (rows_split i k)
    where
      go : (t : Bool) → ltb i k ≡ t → (i < k → (after : List ℕ) × (rows_bytes F st k ≡ rows_bytes F st i ++ (bytes_at i ++ after)))
          → (after : List ℕ) × (rows_bytes F st k ++ bytes_at k ≡ rows_bytes F st i ++ (bytes_at i ++ after))
      go true e ih =
          let r = ih (ltb-true i k e) in (
            r.0 ++ bytes_at k,
            ap (λ (l : List ℕ). l ++ bytes_at k) r.1 ∙ append_assoc (rows_bytes F st i) (bytes_at i ++ r.0) (bytes_at k)
                ∙ ap (λ (l : List ℕ). rows_bytes F st i ++ l) (append_assoc (bytes_at i) r.0 (bytes_at k)),
          )
      go false e ih =
          let same : k ≡ i = omega (arith, ltb-false i k e) in
          ([], ap (λ (j : ℕ). rows_bytes F st j ++ bytes_at j) same ∙ ap (λ (l : List ℕ). rows_bytes F st i ++ l) (sym (append-nil (bytes_at i))))

  module _ (rest : List ℕ) where
    abbrev bytes : List ℕ
    bytes = report_bytes F st ++ rest

    pub version_in : get_or bytes 0 0 ≡ 1
    unfolding report_bytes
    version_in = refl

    pub length_in : st.operations ≤ most_operations → number_at bytes 1 ≡ 4 + 20 * st.operations
    unfolding report_bytes four_bytes
    length_in few = number_of_bytes_there (1 ∷ []) (4 + 20 * st.operations) (four_bytes (st.memory.value root) ++ rows_bytes F st st.operations ++ rest) (omega arith)

    pub operations_in_lem : st.operations ≤ most_operations → operations_in bytes ≡ st.operations
    unfolding operations_in
    operations_in_lem few = omega (arith, length_in few)

    pub counter_in_lem : st.memory.value root < 2 ^ 32 → counter_in bytes ≡ st.memory.value root
    unfolding counter_in report_bytes four_bytes
    counter_in_lem small = number_of_bytes_there (1 ∷ four_bytes (4 + 20 * st.operations)) (st.memory.value root) (rows_bytes F st st.operations ++ rest) small

    -- the bytes before row i, row i, and those after it
    row_split : (i : ℕ) → i < st.operations → (front after : List ℕ) × (length front ≡ row_at i) × (bytes ≡ front ++ (bytes_at i ++ after))
    unfolding row_at report_bytes four_bytes
    row_split i b =
        let r = rows_split i st.operations b in (
          before (rows_bytes F st i),
          r.0 ++ rest,
          omega (arith, length-rows_bytes F st i),
          ap before
              (ap (λ (l : List ℕ). l ++ rest) r.1 ∙ append_assoc (rows_bytes F st i) (bytes_at i ++ r.0) rest
              ∙ ap (λ (l : List ℕ). rows_bytes F st i ++ l) (append_assoc (bytes_at i) r.0 rest)),
        )
      where
        before : List ℕ → List ℕ
        before l = 1 ∷ four_bytes (4 + 20 * st.operations) ++ (four_bytes (st.memory.value root) ++ l)

    -- a byte and a number of row i
    byte_at : (i k : ℕ) → i < st.operations → (after : List ℕ) × (get_or bytes (row_at i + k) 0 ≡ get_or (bytes_at i ++ after) k 0)
    byte_at i k b =
        let r = row_split i b in
        (r.1, ap₂ (λ (l : List ℕ) (n : ℕ). get_or l (n + k) 0) r.3 (sym r.2) ∙ get_or-append-add r.0 (bytes_at i ++ r.1) k 0)

    number_in : (i k : ℕ) → i < st.operations → (after : List ℕ) × (number_at bytes (row_at i + k) ≡ number_at (bytes_at i ++ after) k)
    number_in i k b =
        let r = row_split i b in
        (r.1, ap₂ (λ (l : List ℕ) (n : ℕ). number_at l (n + k)) r.3 (sym r.2) ∙ number_there r.0 (bytes_at i ++ r.1) k)

    pub process_in_lem : (i : ℕ) → i < st.operations → process_in bytes i ≡ (st.row i).process
    unfolding process_in row_bytes
    process_in_lem i b = ap (λ (n : ℕ). get_or bytes n 0) (omega arith) ∙ (byte_at i 0 b).1

    pub kind_in_lem : (i : ℕ) → i < st.operations → kind_in bytes i ≡ (st.row i).kind
    unfolding kind_in row_bytes
    kind_in_lem i b = (byte_at i 1 b).1

    pub finished_in_lem : (i : ℕ) → i < st.operations → finished_in bytes i ≡ one (st.row i).finished
    unfolding finished_in row_bytes
    finished_in_lem i b = (byte_at i 2 b).1

    pub contention_in_lem : (i : ℕ) → i < st.operations → contention_in bytes i ≡ contention (st.row i) st.history
    unfolding contention_in row_bytes
    contention_in_lem i b = (byte_at i 3 b).1

    pub steps_in_lem : (i : ℕ) → i < st.operations → (st.row i).steps < 2 ^ 32 → steps_in bytes i ≡ (st.row i).steps
    unfolding steps_in row_bytes four_bytes
    steps_in_lem i b small =
        let r = number_in i 4 b in
        let w : Row = st.row i in
        r.1
        ∙ number_of_bytes_there (w.process ∷ w.kind ∷ one w.finished ∷ contention w st.history ∷ []) w.steps (four_bytes w.answer ++ four_bytes (rank F st.history i) ++ four_bytes w.seconds ++ r.0) small

    pub answer_in_lem : (i : ℕ) → i < st.operations → (st.row i).answer < 2 ^ 32 → answer_in bytes i ≡ (st.row i).answer
    unfolding answer_in row_bytes four_bytes
    answer_in_lem i b small =
        let r = number_in i 8 b in
        let w : Row = st.row i in
        r.1
        ∙ number_of_bytes_there (w.process ∷ w.kind ∷ one w.finished ∷ contention w st.history ∷ four_bytes w.steps) w.answer (four_bytes (rank F st.history i) ++ four_bytes w.seconds ++ r.0) small

    pub rank_in_lem : (i : ℕ) → i < st.operations → rank F st.history i < 2 ^ 32 → rank_in bytes i ≡ rank F st.history i
    unfolding rank_in row_bytes four_bytes
    rank_in_lem i b small =
        let r = number_in i 12 b in
        let w : Row = st.row i in
        r.1
        ∙ number_of_bytes_there (w.process ∷ w.kind ∷ one w.finished ∷ contention w st.history ∷ four_bytes w.steps ++ four_bytes w.answer) (rank F st.history i) (four_bytes w.seconds ++ r.0) small

    pub seconds_in_lem : (i : ℕ) → i < st.operations → (st.row i).seconds < 2 ^ 32 → seconds_in bytes i ≡ (st.row i).seconds
    unfolding seconds_in row_bytes four_bytes
    seconds_in_lem i b small =
        let r = number_in i 16 b in
        let w : Row = st.row i in
        r.1
        ∙ number_of_bytes_there (w.process ∷ w.kind ∷ one w.finished ∷ contention w st.history ∷ four_bytes w.steps ++ four_bytes w.answer ++ four_bytes (rank F st.history i)) w.seconds r.0 small
