-- A row set is settled by its numbers and the others; what rows closed show; the bytes of the numbers in order are the bytes of the report.
use Prim.Native.Nat.{ℕ, zero, suc, ◌+◌, ◌*◌, ◌/◌, ◌%◌, ◌^◌, ◌≤◌, ◌<◌}
use mathlib.Core.Path.{◌≡◌, refl, sym, ap, ◌∙◌, fun_ext}
use mathlib.Core.Bool.{Bool, true, false, cond, ◌&&◌}
use mathlib.Core.List.{List, [], ◌∷◌, ◌++◌, append_assoc, append-nil}
use native.Mathlib.Omega.{arith}
use native.Mathlib.Nat.{add-zero, add-suc}
use lib.ListN.{length, get_or, drop, length-append}
use lib.Dec.{ltb, eqb}
use borrow.Author.Tests.{eq-eqb, ne_eqb, eqb-true, eqb-false, ltb-true, ltb-false}
use Rattle.recording.specs.Numbers.{four_bytes, number_at}
use Rattle.recording.proofs.Laws.{length-four_bytes, bytes_of_number}
use Rattle.meaning.specs.Tree.{root}
use Rattle.meaning.specs.Shape.{Form}
use Rattle.meaning.specs.Run.{Row, State}
use Rattle.meaning.specs.Contention.{contention}
use Rattle.meaning.specs.TakenIn.{rank}
use Rattle.meaning.specs.Report.{one, row_bytes, rows_bytes, row_length, report_bytes, needed}
use Rattle.arrays.specs.Numbers.{numbers_in_row, row_from}
use Rattle.rows.specs.Rows.{head, row_numbers, with_row, unfinished_by, process_by, closed_number, closed, RoomToClose, numbers_bytes, laid_report}

-- ---- one row set

module _ (f : ℕ → ℕ) (i : ℕ) (ns : List ℕ) where
  pub with_row_at : (k : ℕ) → k < numbers_in_row → with_row f i ns (row_from i + k) ≡ get_or ns k 0
  unfolding with_row
  with_row_at k h =
      let row : (row_from i + k) / numbers_in_row ≡ i = omega arith in
      let column : (row_from i + k) % numbers_in_row ≡ k = omega arith in
      rw (row, column, eq-eqb i i refl)

  pub with_row_other : (j : ℕ) → (j / numbers_in_row ≡ i → ⊥) → with_row f i ns j ≡ f j
  unfolding with_row
  with_row_other j n = rw (ne_eqb (j / numbers_in_row) i n)

  -- a function that has the numbers there and agrees elsewhere
  pub with_row_is : (g : ℕ → ℕ) → ((k : ℕ) → k < numbers_in_row → g (row_from i + k) ≡ get_or ns k 0) → ((j : ℕ) → (j / numbers_in_row ≡ i → ⊥) → g j ≡ f j)
      → g ≡ with_row f i ns
  unfolding with_row
  with_row_is g there else = fun_ext (λ j. go j (eqb (j / numbers_in_row) i) refl)
    where
      go : (j : ℕ) (t : Bool) → eqb (j / numbers_in_row) i ≡ t → g j ≡ cond t (get_or ns (j % numbers_in_row) 0) (f j)
      go j true e =
          let place : j ≡ row_from i + j % numbers_in_row = omega (arith, eqb-true (j / numbers_in_row) i e) in
          ap g place ∙ there (j % numbers_in_row) (omega arith)
      go j false e = else j (eqb-false (j / numbers_in_row) i e)

pub with_row-with_row : (f : ℕ → ℕ) (i : ℕ) (a b : List ℕ) → with_row (with_row f i a) i b ≡ with_row f i b
with_row-with_row f i a b =
    with_row_is f i b (with_row (with_row f i a) i b) (with_row_at (with_row f i a) i b)
    (λ j n. with_row_other (with_row f i a) i b j n ∙ with_row_other f i a j n)

-- ---- the bytes of numbers

pub length-numbers_bytes : (f : ℕ → ℕ) (k : ℕ) → length (numbers_bytes f k) ≡ 4 * k
unfolding numbers_bytes
length-numbers_bytes f zero = refl
length-numbers_bytes f (suc k) = simp (length-append, length-numbers_bytes f k, length-four_bytes) (omega arith)

pub numbers_bytes-same : (f g : ℕ → ℕ) (k : ℕ) → ((j : ℕ) → j < k → f j ≡ g j) → numbers_bytes f k ≡ numbers_bytes g k
unfolding numbers_bytes
numbers_bytes-same f g zero e = refl
numbers_bytes-same f g (suc k) e = rw (numbers_bytes-same f g k (λ j h. e j (omega arith)), e k (omega arith))

pub numbers_bytes_add : (f : ℕ → ℕ) (a b : ℕ) → numbers_bytes f (a + b) ≡ numbers_bytes f a ++ numbers_bytes (λ j. f (a + j)) b
unfolding numbers_bytes
numbers_bytes_add f a zero = rw (add-zero, append-nil)
numbers_bytes_add f a (suc b) = rw (add-suc, numbers_bytes_add f a b, append_assoc)

-- ---- the bytes of a row

pub record RowFits (w : Row) : Type 0 where
  pub process : w.process < 256
  pub kind : w.kind < 256

one_small : (b : Bool) → one b < 256
unfolding one
one_small true = omega arith
one_small false = omega arith

head_bytes : (a b c d : ℕ) → a < 256 → b < 256 → c < 256 → d < 256 → four_bytes (head a b c d) ≡ a ∷ b ∷ c ∷ d ∷ []
unfolding head number_at
head_bytes a b c d ha hb hc hd = bytes_of_number s small 0 (omega arith)
  where
    s : List ℕ
    s = a ∷ b ∷ c ∷ d ∷ []

    small : (i : ℕ) → get_or s i 0 < 256
    small zero = ha
    small (suc zero) = hb
    small (suc (suc zero)) = hc
    small (suc (suc (suc zero))) = hd
    small (suc (suc (suc (suc i)))) = omega arith

module _ (w : Row) (contention rank : ℕ) (fits : RowFits w) (small : contention < 256) where
  pub row_bytes_lem : four_bytes (head w.process w.kind (one w.finished) contention)
      ++ (four_bytes w.steps ++ (four_bytes w.answer ++ (four_bytes rank ++ four_bytes w.seconds))) ≡ row_bytes w contention rank
  unfolding row_bytes
  row_bytes_lem = rw (head_bytes _ _ _ _ fits.process fits.kind (one_small w.finished) small)

  pub row_numbers_bytes : numbers_bytes (λ k. get_or (row_numbers w contention rank) k 0) numbers_in_row ≡ row_bytes w contention rank
  unfolding numbers_bytes row_numbers
  row_numbers_bytes = simp append_assoc row_bytes_lem

-- ---- rows closed

module _ (greatest : ℕ → ℕ) (m : ℕ) (f : ℕ → ℕ) where
  -- by whether j is the first number of one of the first m rows, with `closed` already computed
  closed_cases : (P : ℕ → Type 0) (j : ℕ) → (j < row_from m → j % numbers_in_row ≡ 0 → P (closed_number greatest (f j)))
      → ((j < row_from m → j % numbers_in_row ≡ 0 → ⊥) → P (f j)) → P (closed greatest m f j)
  unfolding closed
  closed_cases P j first other = go (ltb j (row_from m)) (eqb (j % numbers_in_row) 0) refl refl
    where
      go : (a b : Bool) → ltb j (row_from m) ≡ a → eqb (j % numbers_in_row) 0 ≡ b → P (cond (a && b) (closed_number greatest (f j)) (f j))
      go true true l e = first (ltb-true j (row_from m) l) (eqb-true (j % numbers_in_row) 0 e)
      go true false l e = other (λ _ i. eqb-false (j % numbers_in_row) 0 e i)
      go false b l e = other (λ i _. omega (arith, ltb-false j (row_from m) l))

  pub closed_first : (i : ℕ) → i < m → closed greatest m f (row_from i) ≡ closed_number greatest (f (row_from i))
  closed_first i h = closed_cases (λ (x : ℕ). x ≡ closed_number greatest (f (row_from i))) (row_from i) (λ _ _. refl) (λ n. absurd (n (omega arith) (omega arith)))

  pub closed_other : (j : ℕ) → (j < row_from m → j % numbers_in_row ≡ 0 → ⊥) → closed greatest m f j ≡ f j
  closed_other j n = closed_cases (λ (x : ℕ). x ≡ f j) j (λ l e. absurd (n l e)) (λ _. refl)

  -- a function that has the first numbers of these rows closed and agrees elsewhere
  pub closed_is : (g : ℕ → ℕ) → ((i : ℕ) → i < m → g (row_from i) ≡ closed_number greatest (f (row_from i)))
      → ((j : ℕ) → (j < row_from m → j % numbers_in_row ≡ 0 → ⊥) → g j ≡ f j) → g ≡ closed greatest m f
  closed_is g there else = fun_ext (λ j. closed_cases (λ (x : ℕ). g j ≡ x) j (first j) (else j))
    where
      first : (j : ℕ) → j < row_from m → j % numbers_in_row ≡ 0 → g j ≡ closed_number greatest (f j)
      first j l e =
          let place : j ≡ row_from (j / numbers_in_row) = omega arith in
          ap g place ∙ there (j / numbers_in_row) (omega arith) ∙ ap (λ (k : ℕ). closed_number greatest (f k)) (sym place)

module _ (greatest f : ℕ → ℕ) where
  pub closed_none : f ≡ closed greatest 0 f
  closed_none = closed_is greatest 0 f f (λ i h. absurd (omega arith)) (λ j n. refl)

  -- one row more
  pub closed_next : (i : ℕ) (g : ℕ → ℕ) → g (row_from i) ≡ closed_number greatest (f (row_from i))
      → ((j : ℕ) → (j ≡ row_from i → ⊥) → g j ≡ closed greatest i f j) → g ≡ closed greatest (i + 1) f
  closed_next i g there else =
      closed_is greatest (i + 1) f g (λ k h. go k h (eqb k i) refl)
      (λ j n. else j (λ e. n (omega arith) (omega arith)) ∙ closed_other greatest i f j (λ l e. n (omega arith) e))
    where
      go : (k : ℕ) → k < i + 1 → (t : Bool) → eqb k i ≡ t → g (row_from k) ≡ closed_number greatest (f (row_from k))
      go k h true e = rw (eqb-true k i e) there
      go k h false e =
          let other : k ≡ i → ⊥ = eqb-false k i e in
          else (row_from k) (λ same. other (omega arith)) ∙ closed_first greatest i f k (omega (arith, other))

-- a finished row's first number stays, and an unfinished one's gets the contention kept for its process
closed_head : (greatest : ℕ → ℕ) (process kind contention : ℕ) (finished : Bool) → kind < 256 → contention < 256
    → (finished ≡ false → contention ≡ 0)
    → closed_number greatest (head process kind (one finished) contention) ≡ head process kind (one finished) (cond finished contention (greatest process))
unfolding closed_number unfinished_by process_by head one
closed_head greatest p k c true hk hc none =
    let byte : (p * 2 ^ 24 + k * 2 ^ 16 + 1 * 2 ^ 8 + c) / 2 ^ 8 % 2 ^ 8 ≡ 1 = omega arith in
    rw byte (omega arith)
closed_head greatest p k c false hk hc none =
    let empty : c ≡ 0 = none refl in
    let byte : (p * 2 ^ 24 + k * 2 ^ 16 + 0 * 2 ^ 8 + 0) / 2 ^ 8 % 2 ^ 8 ≡ 0 = omega arith in
    let process : (p * 2 ^ 24 + k * 2 ^ 16 + 0 * 2 ^ 8 + 0) / 2 ^ 24 ≡ p = omega arith in
    rw (empty, byte, process) (omega arith)

module _ (greatest : ℕ → ℕ) (m : ℕ) (f : ℕ → ℕ) (row : ℕ → Row) (shown ranks : ℕ → ℕ)
    (numbers : (i k : ℕ) → i < m → k < numbers_in_row → f (row_from i + k) ≡ get_or (row_numbers (row i) (shown i) (ranks i)) k 0)
    (fits : (i : ℕ) → i < m → RowFits (row i))
    (small : (i : ℕ) → i < m → shown i < 256)
    (none : (i : ℕ) → i < m → (row i).finished ≡ false → shown i ≡ 0) where
  -- what the rows show after the end: the contention put in at the last step, or the one kept
  pub closed_rows : (i k : ℕ) → i < m → k < numbers_in_row
      → closed greatest m f (row_from i + k) ≡ get_or (row_numbers (row i) (cond (row i).finished (shown i) (greatest (row i).process)) (ranks i)) k 0
  unfolding row_numbers
  closed_rows i zero h l =
      rw add-zero
      (closed_first greatest m f i h ∙ ap (closed_number greatest) (rw add-zero at (numbers i 0 h l))
      ∙ closed_head greatest _ _ _ _ (fits i h).kind (small i h) (none i h))
  closed_rows i (suc k) h l = closed_other greatest m f (row_from i + suc k) (λ _ e. omega arith) ∙ numbers i (suc k) h l

-- fewer rows can be closed where more can
pub fewer_to_close : (f : ℕ → ℕ) (k m size : ℕ) → k ≤ m → RoomToClose f m size → RoomToClose f k size
fewer_to_close f k m size b room = record { process = λ i h. room.process i (omega arith); head = λ i h. room.head i (omega arith) }

-- ---- the report

length-row_bytes : (w : Row) (contention rank : ℕ) → length (row_bytes w contention rank) ≡ row_length
unfolding row_bytes
length-row_bytes w contention rank = simp (length-append, length-four_bytes)

pub length-rows_bytes : (F : Form) (st : State) (k : ℕ) → length (rows_bytes F st k) ≡ row_length * k
unfolding rows_bytes
length-rows_bytes F st zero = refl
length-rows_bytes F st (suc k) = simp (length-append, length-rows_bytes F st k, length-row_bytes) (omega arith)

pub length-report_bytes : (F : Form) (st : State) → length (report_bytes F st) ≡ needed st
unfolding report_bytes needed
length-report_bytes F st = simp (length-append, length-four_bytes, length-rows_bytes) (omega arith)

module _ (F : Form) (st : State) (f : ℕ → ℕ)
    (numbers : (i k : ℕ) → i < st.operations → k < numbers_in_row
    → f (row_from i + k) ≡ get_or (row_numbers (st.row i) (contention (st.row i) st.history) (rank F st.history i)) k 0)
    (fits : (i : ℕ) → i < st.operations → RowFits (st.row i))
    (small : (i : ℕ) → i < st.operations → contention (st.row i) st.history < 256) where
  rows_bytes_lem : (m : ℕ) → m ≤ st.operations → numbers_bytes f (row_from m) ≡ rows_bytes F st m
  unfolding numbers_bytes rows_bytes
  rows_bytes_lem zero below = refl
  rows_bytes_lem (suc m) below =
      let more : row_from (suc m) ≡ row_from m + numbers_in_row = omega arith in
      let w : Row = st.row m in
      let c : ℕ = contention w st.history in
      let r : ℕ = rank F st.history m in
      let last = numbers_bytes-same _ (λ k. get_or (row_numbers w c r) k 0) numbers_in_row (λ k h. numbers m k (omega arith) h) ∙ row_numbers_bytes w c r (fits m (omega arith)) (small m (omega arith)) in
      rw (more, numbers_bytes_add, rows_bytes_lem m (omega arith), last)

  pub report_bytes_lem : (buf : List ℕ)
      → laid_report st.operations (st.memory.value root) f buf ≡ report_bytes F st ++ drop (needed st) buf
  unfolding laid_report report_bytes needed
  report_bytes_lem buf = rw (rows_bytes_lem st.operations (omega arith))
