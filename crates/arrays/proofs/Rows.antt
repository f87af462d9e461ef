-- An array of rows as the function of their numbers: what stands where, and what a store of a row and of a rank makes of it.
use Prim.Native.Nat.{ℕ, zero, suc, ◌+◌, ◌/◌, ◌%◌, ◌<◌}
use mathlib.Core.Path.{◌≡◌, refl, sym, ap, ◌∙◌}
use mathlib.Core.Bool.{Bool, true, false}
use mathlib.Core.List.{List}
use native.Mathlib.Omega.{arith}
use lib.ListN.{length, get_or, set}
use lib.Seq.{get_or-set_same, get_or-set_other, ext_get_or}
use lib.Dec.{eqb}
use borrow.Author.Tests.{eqb-true, eqb-false}
use Rattle.meaning.specs.Steps.{upd}
use Rattle.meaning.proofs.Updates.{upd_is}
use Rattle.arrays.specs.Numbers.{numbers_in_row, row_from, rank_in, numbers_in, no_row, numbers_of}
use Rattle.arrays.specs.declared.Row.{Row}

-- the numbers of row i
pub number_at : (rows : List Row) (i k : ℕ) → k < numbers_in_row → numbers_of rows (row_from i + k) ≡ get_or (numbers_in (get_or rows i no_row)) k 0
unfolding numbers_of
number_at rows i k h =
    let row : (row_from i + k) / numbers_in_row ≡ i = omega arith in
    let column : (row_from i + k) % numbers_in_row ≡ k = omega arith in
    rw (row, column)

module _ (rows : List Row) (i : ℕ) (r : Row) where
  -- the numbers of a row that is stored
  pub number_set : (k : ℕ) → i < length rows → k < numbers_in_row → numbers_of (set rows i r) (row_from i + k) ≡ get_or (numbers_in r) k 0
  number_set k room h = number_at (set rows i r) i k h ∙ ap (λ (x : Row). get_or (numbers_in x) k 0) (get_or-set_same rows i r no_row room)

  -- those of the others
  pub number_else : (j : ℕ) → (j / numbers_in_row ≡ i → ⊥) → numbers_of (set rows i r) j ≡ numbers_of rows j
  unfolding numbers_of
  number_else j n = ap (λ (x : Row). get_or (numbers_in x) (j % numbers_in_row) 0) (get_or-set_other rows i (j / numbers_in_row) r no_row n)

-- storing a row that differs from the old one in one number changes that number alone
module _ (rows : List Row) (i c : ℕ) (r : Row) (room : i < length rows)
    (same : (k : ℕ) → (k ≡ c → ⊥) → get_or (numbers_in r) k 0 ≡ get_or (numbers_in (get_or rows i no_row)) k 0) where
  pub number_beside : (j : ℕ) → (j ≡ row_from i + c → ⊥) → numbers_of (set rows i r) j ≡ numbers_of rows j
  number_beside j n = go (eqb (j / numbers_in_row) i) refl
    where
      go : (t : Bool) → eqb (j / numbers_in_row) i ≡ t → numbers_of (set rows i r) j ≡ numbers_of rows j
      go true e =
          let row = eqb-true (j / numbers_in_row) i e in
          let place : j ≡ row_from i + j % numbers_in_row = omega (arith, row) in
          ap (numbers_of (set rows i r)) place ∙ number_set rows i r (j % numbers_in_row) room (omega arith)
          ∙ same (j % numbers_in_row) (λ e. n (omega (arith, row, e))) ∙ sym (ap (numbers_of rows) place ∙ number_at rows i (j % numbers_in_row) (omega arith))
      go false e = number_else rows i r j (eqb-false (j / numbers_in_row) i e)

  pub number_changed : c < numbers_in_row → numbers_of (set rows i r) ≡ upd (numbers_of rows) (row_from i + c) (get_or (numbers_in r) c 0)
  number_changed h = upd_is (numbers_of rows) (row_from i + c) (get_or (numbers_in r) c 0) (numbers_of (set rows i r)) (number_set rows i r c room h) number_beside

-- a row with another rank
unfoldable pub ranked_row : Row → ℕ → Row
ranked_row r v = record { head = r.head; steps = r.steps; answer = r.answer; rank = v; seconds = r.seconds }

beside_rank : (r : Row) (v k : ℕ) → (k ≡ rank_in → ⊥) → get_or (numbers_in (ranked_row r v)) k 0 ≡ get_or (numbers_in r) k 0
unfolding numbers_in ranked_row
beside_rank r v zero n = refl
beside_rank r v (suc zero) n = refl
beside_rank r v (suc (suc zero)) n = refl
beside_rank r v (suc (suc (suc zero))) n = absurd (n refl)
beside_rank r v (suc (suc (suc (suc zero)))) n = refl
beside_rank r v (suc (suc (suc (suc (suc k))))) n = refl

pub rank_set : (rows : List Row) (i v : ℕ) → i < length rows → numbers_of (set rows i (ranked_row (get_or rows i no_row) v)) ≡ upd (numbers_of rows) (row_from i + rank_in) v
unfolding ranked_row numbers_in
rank_set rows i v room = number_changed rows i rank_in (ranked_row (get_or rows i no_row) v) room (beside_rank (get_or rows i no_row) v) (omega arith)

-- a row with another first number
unfoldable pub headed_row : Row → ℕ → Row
headed_row r v = record { head = v; steps = r.steps; answer = r.answer; rank = r.rank; seconds = r.seconds }

pub beside_head : (r : Row) (v k : ℕ) → (k ≡ 0 → ⊥) → get_or (numbers_in (headed_row r v)) k 0 ≡ get_or (numbers_in r) k 0
unfolding numbers_in headed_row
beside_head r v zero n = absurd (n refl)
beside_head r v (suc k) n = refl

-- two arrays of rows of one length and one function are one list
pub same_rows : (xs ys : List Row) → length xs ≡ length ys → numbers_of xs ≡ numbers_of ys → xs ≡ ys
unfolding numbers_in
same_rows xs ys l e = ext_get_or no_row xs ys l (λ i h. row i)
  where
    number : (i k : ℕ) → k < numbers_in_row → get_or (numbers_in (get_or xs i no_row)) k 0 ≡ get_or (numbers_in (get_or ys i no_row)) k 0
    number i k h = sym (number_at xs i k h) ∙ ap (λ (f : ℕ → ℕ). f (row_from i + k)) e ∙ number_at ys i k h

    row : (i : ℕ) → get_or xs i no_row ≡ get_or ys i no_row
    row i =
        λ t. record { head = number i 0 (omega arith) t; steps = number i 1 (omega arith) t; answer = number i 2 (omega arith) t; rank = number i 3 (omega arith) t; seconds = number i 4 (omega arith) t }
