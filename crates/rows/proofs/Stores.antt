-- A row stored, stepped and closed, as the function of all numbers; and numbers laid one after another in a buffer.
use Prim.Native.Nat.{ℕ, ◌+◌, ◌-◌, ◌*◌, ◌/◌, ◌%◌, ◌^◌, ◌≤◌, ◌<◌}
use mathlib.Core.Bool.{Bool, true, false}
use mathlib.Core.Path.{◌≡◌, refl, sym, ap, ◌∙◌}
use mathlib.Core.List.{List, [], ◌∷◌, ◌++◌, append_assoc, append-nil}
use native.Mathlib.Omega.{arith}
use native.Mathlib.Nat.{add-zero}
use lib.ListN.{length, get_or, take, drop, set, length-append, take-append-drop}
use lib.Seq.{set_split, length-take-le, take_at, drop_at, drop-drop}
use mir.Val.{bool_byte}
use borrow.Author.Tests.{eq-eqb, ne_eqb}
use borrow.Rule.Slice.PartMut.{put_mid}
use Rattle.arrays.specs.Arrays.{as_fun}
use Rattle.arrays.specs.declared.Row.{Row}
use Rattle.arrays.specs.Numbers.{numbers_in_row, row_from, steps_in, rank_in, seconds_in, numbers_in, no_row, numbers_of}
use Rattle.arrays.proofs.Rows.{number_at, number_set, number_else, number_beside, headed_row, beside_head}
use Rattle.recording.specs.Numbers.{four_bytes}
use Rattle.recording.proofs.Laws.{length-four_bytes}
use Rattle.meaning.specs.Report.{one, row_length}
use Rattle.rows.specs.Rows.{with_row, stepped_numbers, unfinished_by, process_by, closed_number, closed, numbers_bytes, laid_at, laid_report}
use Rattle.rows.proofs.Laws.{with_row_is, closed_other, closed_next, length-numbers_bytes, numbers_bytes-same, numbers_bytes_add}

-- ---- the rows

pub row_stored : (rows : List Row) (i : ℕ) (r : Row) → i < length rows → numbers_of (set rows i r) ≡ with_row (numbers_of rows) i (numbers_in r)
row_stored rows i r room =
    with_row_is (numbers_of rows) i (numbers_in r) (numbers_of (set rows i r)) (λ k h. number_set rows i r k room h) (number_else rows i r)

-- what a row's numbers are
module _ (rows : List Row) (i : ℕ) where
  pub its_head : numbers_of rows (row_from i) ≡ (get_or rows i no_row).head
  unfolding numbers_in
  its_head = ap (numbers_of rows) (sym (add-zero (row_from i))) ∙ number_at rows i 0 (omega arith)

  pub its_steps : numbers_of rows (row_from i + steps_in) ≡ (get_or rows i no_row).steps
  unfolding numbers_in
  its_steps = number_at rows i steps_in (omega arith)

  its_rank : numbers_of rows (row_from i + rank_in) ≡ (get_or rows i no_row).rank
  unfolding numbers_in
  its_rank = number_at rows i rank_in (omega arith)

  pub its_seconds : numbers_of rows (row_from i + seconds_in) ≡ (get_or rows i no_row).seconds
  unfolding numbers_in
  its_seconds = number_at rows i seconds_in (omega arith)

  -- one more step, by its first number
  pub row_stepped : (finished : Bool) (contention answer : ℕ) (second : Bool) (head more : ℕ) → i < length rows
      → head ≡ (get_or rows i no_row).head + one finished * (2 ^ 8 + contention) → more ≡ one second
      → numbers_of (set rows i (record { head = head; steps = (get_or rows i no_row).steps + 1; answer = answer; rank = (get_or rows i no_row).rank; seconds = (get_or rows i no_row).seconds + more }))
      ≡ with_row (numbers_of rows) i (stepped_numbers (numbers_of rows) i finished contention answer second)
  unfolding stepped_numbers numbers_in
  row_stepped finished contention answer second head more room e d =
      row_stored rows i (record { head = head; steps = (get_or rows i no_row).steps + 1; answer = answer; rank = (get_or rows i no_row).rank; seconds = (get_or rows i no_row).seconds + more }) room
      ∙ rw (its_head, its_steps, its_rank, its_seconds, e, d)

pub counted : (b : Bool) → bool_byte b ≡ one b
unfolding one
counted true = refl
counted false = refl

pub one_small : (b : Bool) → one b ≤ 1
unfolding one
one_small true = omega arith
one_small false = omega arith

-- the turn of row i, when those before it are closed
module _ (greatest : ℕ → ℕ) (rows items : List Row) (i : ℕ) (before : numbers_of items ≡ closed greatest i (numbers_of rows)) where
  pub first_number : (get_or items i no_row).head ≡ numbers_of rows (row_from i)
  first_number = sym (its_head items i) ∙ ap (λ (g : ℕ → ℕ). g (row_from i)) before ∙ closed_other greatest i (numbers_of rows) (row_from i) (λ h e. omega arith)

  pub finished_stays : ((get_or items i no_row).head / 2 ^ 8 % 2 ^ 8 ≡ 0 → ⊥) → numbers_of items ≡ closed greatest (i + 1) (numbers_of rows)
  unfolding closed_number unfinished_by
  finished_stays n =
      let kept : unfinished_by (numbers_of rows (row_from i)) ≡ false = rw first_number at (ne_eqb ((get_or items i no_row).head / 2 ^ 8 % 2 ^ 8) 0 n) in
      closed_next greatest (numbers_of rows) i (numbers_of items) (rw (kept, add-zero) (its_head items i ∙ first_number)) (λ j other. ap (λ (g : ℕ → ℕ). g j) before)

  pub unfinished_stored : (p : ℕ) → i < length items → (get_or items i no_row).head / 2 ^ 8 % 2 ^ 8 ≡ 0 → p ≡ process_by (get_or items i no_row).head
      → numbers_of (set items i (headed_row (get_or items i no_row) ((get_or items i no_row).head + greatest p))) ≡ closed greatest (i + 1) (numbers_of rows)
  unfolding closed_number unfinished_by headed_row numbers_in
  unfinished_stored p room e its =
      let r : Row = get_or items i no_row in
      let n : ℕ = r.head + greatest p in
      let kept : unfinished_by (numbers_of rows (row_from i)) ≡ true = rw first_number at (eq-eqb (r.head / 2 ^ 8 % 2 ^ 8) 0 e) in
      let there : numbers_of (set items i (headed_row r n)) (row_from i) ≡ n = ap (numbers_of (set items i (headed_row r n))) (sym (add-zero (row_from i))) ∙ number_set items i (headed_row r n) 0 room (omega arith) in
      closed_next greatest (numbers_of rows) i (numbers_of (set items i (headed_row r n))) (there ∙ rw (kept, its, first_number))
      (λ j other. number_beside items i 0 (headed_row r n) room (beside_head r n) j (λ e. other (e ∙ add-zero (row_from i))) ∙ ap (λ (g : ℕ → ℕ). g j) before)

-- ---- the bytes

-- bytes laid right after a front that is laid already
module _ (front buf : List ℕ) (at : ℕ) (e : length front ≡ at) where
  rest_stays : (n : ℕ) → drop (at + n) (front ++ drop at buf) ≡ drop (at + n) buf
  rest_stays n = sym (drop-drop n at (front ++ drop at buf)) ∙ rw (drop_at front (drop at buf) at e) (drop-drop n at buf)

  laid_more : (n : ℕ) (bytes : List ℕ) → laid_at (front ++ drop at buf) at n bytes ≡ front ++ bytes ++ drop (at + n) buf
  unfolding laid_at
  laid_more n bytes = rw (take_at front (drop at buf) at e, rest_stays n)

-- the bytes of a number in the place of four
pub number_laid : (l : List ℕ) (at x : ℕ) (bs : List ℕ) → bs ≡ four_bytes x → put_mid at (at + 4 - at) l bs ≡ laid_at l at 4 (four_bytes x)
unfolding laid_at
number_laid l at x bs e =
    let four : at + 4 - at ≡ 4 = omega arith in
    rw (four, e, drop-drop 4 at l, append_assoc)

-- two pieces laid one after the other are laid at once
laid_then : (l : List ℕ) (at n k : ℕ) (bs cs : List ℕ) → at ≤ length l → length bs ≡ n → laid_at (laid_at l at n bs) (at + n) k cs ≡ laid_at l at (n + k) (bs ++ cs)
unfolding laid_at
laid_then l at n k bs cs room e =
    let front : length (take at l ++ bs) ≡ at + n = simp (length-append, length-take-le at l room) (omega (arith, e)) in
    let end : at + n + k ≡ at + (n + k) = omega arith in
    laid_more (take at l ++ bs) l (at + n) front k cs ∙ simp (end, append_assoc)

pub row_laid : (l : List ℕ) (at a b c d e : ℕ) → at ≤ length l
    → laid_at (laid_at (laid_at (laid_at (laid_at l at 4 (four_bytes a)) (at + 4) 4 (four_bytes b)) (at + 8) 4 (four_bytes c)) (at + 12) 4 (four_bytes d)) (at + 16) 4 (four_bytes e)
    ≡ laid_at l at 20 (four_bytes a ++ four_bytes b ++ four_bytes c ++ four_bytes d ++ four_bytes e)
row_laid l at a b c d e room =
    rw (laid_then l at 4 4 (four_bytes a) (four_bytes b) room (length-four_bytes a))
    (rw (laid_then l at 8 4 (four_bytes a ++ four_bytes b) (four_bytes c) room (simp (length-append, length-four_bytes)))
    (rw (laid_then l at 12 4 (four_bytes a ++ four_bytes b ++ four_bytes c) (four_bytes d) room (simp (length-append, length-four_bytes)))
    (laid_then l at 16 4 (four_bytes a ++ four_bytes b ++ four_bytes c ++ four_bytes d) (four_bytes e) room (simp (length-append, length-four_bytes)))))

module _ (l : List ℕ) where
  -- the first i rows, from place 9 on
  abbrev pub laid_rows : (ℕ → ℕ) → ℕ → List ℕ
  laid_rows f i = laid_at l 9 (row_length * i) (numbers_bytes f (row_from i))

  pub none_laid : (f : ℕ → ℕ) → l ≡ laid_rows f 0
  unfolding laid_at numbers_bytes
  none_laid f = rw append-nil (sym (take-append-drop 9 l))

  length_front : (f : ℕ → ℕ) (i : ℕ) → 9 ≤ length l → length (take 9 l ++ numbers_bytes f (row_from i)) ≡ 9 + row_length * i
  length_front f i room = simp (length-append, length-numbers_bytes, length-take-le 9 l room) (omega arith)

  pub one_more_laid : (rows : List Row) (i : ℕ) → 9 ≤ length l
      → laid_at (laid_rows (numbers_of rows) i) (9 + row_length * i) row_length (numbers_bytes (as_fun (numbers_in (get_or rows i no_row))) numbers_in_row) ≡ laid_rows (numbers_of rows) (i + 1)
  unfolding laid_at as_fun
  one_more_laid rows i room =
      let f : ℕ → ℕ = numbers_of rows in
      let next : 9 + row_length * i + row_length ≡ 9 + row_length * (i + 1) = omega arith in
      let more : row_from (i + 1) ≡ row_from i + numbers_in_row = omega arith in
      let its = numbers_bytes-same (λ k. get_or (numbers_in (get_or rows i no_row)) k 0) (λ k. f (row_from i + k)) numbers_in_row (λ k h. sym (number_at rows i k h)) in
      laid_more (take 9 l ++ numbers_bytes f (row_from i)) l (9 + row_length * i) (length_front f i room) row_length (numbers_bytes (λ k. get_or (numbers_in (get_or rows i no_row)) k 0) numbers_in_row)
      ∙ rw (its, next, more, numbers_bytes_add f (row_from i) numbers_in_row) (simp append_assoc)

-- the header byte, two numbers, and the rows
pub report_laid : (buf : List ℕ) (m counter : ℕ) (f : ℕ → ℕ) → 0 < length buf
    → laid_rows (laid_at (laid_at (set buf 0 1) 1 4 (four_bytes (4 + row_length * m))) 5 4 (four_bytes counter)) f m ≡ laid_report m counter f buf
unfolding four_bytes laid_report
report_laid buf m counter f room =
    let size : List ℕ = four_bytes (4 + row_length * m) in
    rw (
      set_split buf 0 1 room,
      laid_more (1 ∷ []) buf 1 refl 4 size,
      laid_more (1 ∷ size) buf 5 refl 4 (four_bytes counter),
      laid_more (1 ∷ size ++ four_bytes counter) buf 9 refl (row_length * m) (numbers_bytes f (row_from m)),
    )
