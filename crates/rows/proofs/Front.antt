-- The first m rows of an array that has more: what is told of them alone holds of the array.
use Prim.Native.Nat.{ℕ, ◌+◌, ◌-◌, ◌/◌, ◌%◌, ◌≤◌, ◌<◌}
use mathlib.Core.Bool.{Bool, true, false}
use mathlib.Core.Path.{◌≡◌, refl, ap, ◌∙◌}
use mathlib.Core.List.{List, ◌++◌}
use native.Mathlib.Omega.{arith}
use lib.ListN.{length, get_or, take, drop, get_or-append}
use lib.Seq.{length-take-le}
use lib.Dec.{ltb}
use borrow.Author.Tests.{ltb-true, ltb-false}
use Rattle.std.proofs.lemmas.List.{get_or-append_right, get_or-take, get_or-drop}
use Rattle.arrays.specs.declared.Row.{Row}
use Rattle.arrays.specs.Numbers.{numbers_in_row, row_from, numbers_in, no_row, numbers_of}
use Rattle.rows.specs.Rows.{closed_number, closed, RoomToClose, numbers_bytes, laid_report}
use Rattle.rows.proofs.Laws.{closed_first, closed_other, closed_is, numbers_bytes-same}

module _ (rows : List Row) (m : ℕ) where
  pub front_of : (j : ℕ) → j / numbers_in_row < m → numbers_of (take m rows) j ≡ numbers_of rows j
  unfolding numbers_of
  front_of j h = ap (λ (r : Row). get_or (numbers_in r) (j % numbers_in_row) 0) (get_or-take m rows (j / numbers_in_row) no_row h)

  front_bytes : numbers_bytes (numbers_of (take m rows)) (row_from m) ≡ numbers_bytes (numbers_of rows) (row_from m)
  front_bytes = numbers_bytes-same (numbers_of (take m rows)) (numbers_of rows) (row_from m) (λ j h. front_of j (omega arith))

  -- there is room to close them where there is for as many rows or more
  pub front_room : (k size : ℕ) → m ≤ k → m ≤ length rows → RoomToClose (numbers_of rows) k size → RoomToClose (numbers_of (take m rows)) (length (take m rows)) size
  front_room k size few room can =
      rw (length-take-le m rows room)
      (record {
        process = λ i h. rw (front_of (row_from i) (omega arith)) (can.process i (omega arith));
        head = λ i h. rw (front_of (row_from i) (omega arith)) (can.head i (omega arith));
      })

  -- their report is that of m rows
  pub front_report : (n counter : ℕ) (buf : List ℕ) → m ≤ length rows → m ≡ n
      → laid_report (length (take m rows)) counter (numbers_of (take m rows)) buf ≡ laid_report n counter (numbers_of rows) buf
  unfolding laid_report
  front_report n counter buf room all = rw (← all, length-take-le m rows room, front_bytes)

  module _ (items : List Row) (e : length items ≡ m) (room : m ≤ length rows) where
    within : (j : ℕ) → j / numbers_in_row < m → numbers_of (items ++ drop m rows) j ≡ numbers_of items j
    unfolding numbers_of
    within j h = ap (λ (r : Row). get_or (numbers_in r) (j % numbers_in_row) 0) (get_or-append items (drop m rows) no_row (j / numbers_in_row) (omega (arith, e)))

    beyond : (j : ℕ) → m ≤ j / numbers_in_row → numbers_of (items ++ drop m rows) j ≡ numbers_of rows j
    unfolding numbers_of
    beyond j h =
        let i : ℕ = j / numbers_in_row in
        let there : m + (i - m) ≡ i = omega arith in
        ap (λ (r : Row). get_or (numbers_in r) (j % numbers_in_row) 0) (get_or-append_right items (drop m rows) m i no_row e h ∙ get_or-drop m rows (i - m) no_row ∙ ap (λ (k : ℕ). get_or rows k no_row) there)

    front_and_rest : (greatest : ℕ → ℕ) → numbers_of items ≡ closed greatest m (numbers_of (take m rows)) → numbers_of (items ++ drop m rows) ≡ closed greatest m (numbers_of rows)
    front_and_rest greatest before = closed_is greatest m (numbers_of rows) (numbers_of (items ++ drop m rows)) there (λ j n. else j n (ltb (j / numbers_in_row) m) refl)
      where
        there : (i : ℕ) → i < m → numbers_of (items ++ drop m rows) (row_from i) ≡ closed_number greatest (numbers_of rows (row_from i))
        there i h =
            within (row_from i) (omega arith) ∙ ap (λ (g : ℕ → ℕ). g (row_from i)) before ∙ closed_first greatest m (numbers_of (take m rows)) i h
            ∙ ap (closed_number greatest) (front_of (row_from i) (omega arith))

        else : (j : ℕ) → (j < row_from m → j % numbers_in_row ≡ 0 → ⊥) → (t : Bool) → ltb (j / numbers_in_row) m ≡ t → numbers_of (items ++ drop m rows) j ≡ numbers_of rows j
        else j n true e =
            let h = ltb-true (j / numbers_in_row) m e in
            within j h ∙ ap (λ (g : ℕ → ℕ). g j) before ∙ closed_other greatest m (numbers_of (take m rows)) j n ∙ front_of j h
        else j n false e = beyond j (ltb-false (j / numbers_in_row) m e)

  -- closed there, they are closed
  pub front_closed : (items : List Row) (greatest : ℕ → ℕ) (n : ℕ) → length items ≡ length (take m rows) → m ≤ length rows → m ≡ n
      → numbers_of items ≡ closed greatest (length (take m rows)) (numbers_of (take m rows)) → numbers_of (items ++ drop m rows) ≡ closed greatest n (numbers_of rows)
  front_closed items greatest n sized room all told =
      let whole = length-take-le m rows room in
      rw (← all) (front_and_rest items (sized ∙ whole) room greatest (rw whole at told))
