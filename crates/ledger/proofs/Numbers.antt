-- The rows' numbers after a listing, a step and a start.
use Prim.Native.Nat.{ℕ, zero, suc, ◌+◌, ◌*◌, ◌^◌, ◌<◌}
use native.Mathlib.Nat.{add-zero}
use native.Mathlib.Omega.{arith}
use mathlib.Core.Path.{◌≡◌, refl, sym, ap, ap₂, ◌∙◌}
use mathlib.Core.Logic.{⊎_elim}
use mathlib.Core.Bool.{Bool, true, false, cond}
use mathlib.Core.List.{List, [], ◌∷◌, ◌++◌, Memᴰ}
use lib.ListN.{length, get_or}
use lib.Dec.{eqb}
use borrow.Author.Tests.{eqb-true, eqb-false}
use Rattle.meaning.proofs.Updates.{upd_same, upd_other}
use Rattle.meaning.specs.Shape.{Form}
use Rattle.meaning.specs.Access.{Access, is_root_read, is_second_link}
use Rattle.meaning.specs.Steps.{upd, Process}
use Rattle.meaning.specs.Run.{Entry, Row, row_after}
use Rattle.meaning.specs.Report.{one}
use Rattle.meaning.specs.TakenIn.{placed, listed, position_of, rank}
use Rattle.listing.specs.Queue.{ranked}
use Rattle.taken.proofs.Lists.{Distinct, listed_some, found, position_first, position_second, position_neither}
use Rattle.history.proofs.Listing.{listed_more}
use Rattle.listing.proofs.Laws.{ranked_beside, ranked_absent, ranked_at}
use Rattle.rows.specs.Rows.{head, row_numbers, with_row, fresh_numbers, stepped_numbers}
use Rattle.rows.proofs.Laws.{with_row_at, with_row_other}

-- the first m rows' numbers, with the contentions shown and the ranks by a history
abbrev pub Numbers : Form → ℕ → (ℕ → Row) → (ℕ → ℕ) → List Entry → (ℕ → ℕ) → Type 0
Numbers F m row shown es f = (i j : ℕ) → i < m → j < 5 → f (5 * i + j) ≡ get_or (row_numbers (row i) (shown i) (rank F es i)) j 0

-- only the fourth number is the rank
beside : (w : Row) (c a b j : ℕ) → (j ≡ 3 → ⊥) → get_or (row_numbers w c a) j 0 ≡ get_or (row_numbers w c b) j 0
unfolding row_numbers
beside w c a b zero n = refl
beside w c a b (suc zero) n = refl
beside w c a b (suc (suc zero)) n = refl
beside w c a b (suc (suc (suc zero))) n = absurd (n refl)
beside w c a b (suc (suc (suc (suc j)))) n = refl

the_rank : (w : Row) (c a : ℕ) → get_or (row_numbers w c a) 3 0 ≡ a
unfolding row_numbers
the_rank w c a = refl

-- the ranks after a listing of ps, by what they were
module _ (F : Form) (e : Entry) (es : List Entry) (ps : List ℕ) (is : placed F e es ≡ ps) (apart : Distinct ps)
    (fresh : (i : ℕ) → Memᴰ i ps → Memᴰ i (listed F es) → ⊥) where
  ranks : (f : ℕ → ℕ) (i : ℕ) → f (5 * i + 3) ≡ rank F es i → ranked ps (length (listed F es)) f (5 * i + 3) ≡ rank F (e ∷ es) i
  unfolding rank
  ranks f i before = ⊎_elim unplaced new (found i ps) ∙ ap (position_of i) (sym (listed_more F e es ps is))
    where
      unplaced : position_of i ps ≡ 0 → ranked ps (length (listed F es)) f (5 * i + 3) ≡ position_of i (listed F es ++ ps)
      unplaced z =
          ranked_absent ps _ f i z ∙ before
          ∙ ⊎_elim (λ y. y ∙ sym (position_neither i (listed F es) ps (λ m. listed_some m y) (λ m. listed_some m z))) (λ m. sym (position_first i (listed F es) ps m))
          (found i (listed F es))

      new : Memᴰ i ps → ranked ps (length (listed F es)) f (5 * i + 3) ≡ position_of i (listed F es ++ ps)
      new m = ranked_at apart _ f i (listed_some m) ∙ sym (position_second i (listed F es) ps (fresh i m) m)

pub numbers_listed : (F : Form) (m : ℕ) (row : ℕ → Row) (shown : ℕ → ℕ) (e : Entry) (es : List Entry) (ps : List ℕ) → placed F e es ≡ ps → Distinct ps
    → ((i : ℕ) → Memᴰ i ps → Memᴰ i (listed F es) → ⊥)
    → (f : ℕ → ℕ) → Numbers F m row shown es f → Numbers F m row shown (e ∷ es) (ranked ps (length (listed F es)) f)
numbers_listed F m row shown e es ps is apart fresh f n i j b c = go (eqb j 3) refl
  where
    go : (t : Bool) → eqb j 3 ≡ t → ranked ps (length (listed F es)) f (5 * i + j) ≡ get_or (row_numbers (row i) (shown i) (rank F (e ∷ es) i)) j 0
    go true d =
        let three = eqb-true j 3 d in
        rw three (ranks F e es ps is apart fresh f i (n i 3 b (omega arith) ∙ the_rank (row i) (shown i) (rank F es i)) ∙ sym (the_rank (row i) (shown i) (rank F (e ∷ es) i)))
    go false d =
        let other = eqb-false j 3 d in
        ranked_beside ps _ f (5 * i + j) (λ x. other (omega arith)) ∙ n i j b c ∙ beside (row i) (shown i) (rank F es i) (rank F (e ∷ es) i) j other

five_same : {a b c d e a' b' c' d' e' : ℕ} → a ≡ a' → b ≡ b' → c ≡ c' → d ≡ d' → e ≡ e' → a ∷ b ∷ c ∷ d ∷ e ∷ [] ≡ a' ∷ b' ∷ c' ∷ d' ∷ e' ∷ []
five_same p q r s t = cc

-- ---- a step of operation o

-- the contention shown after it: none before its last
abbrev pub shown_after : Process → ℕ → ℕ
shown_after r contention = cond (eqb r.step 0) contention 0

module _ (F : Form) (m : ℕ) (row : ℕ → Row) (shown : ℕ → ℕ) (es : List Entry) (f : ℕ → ℕ) (n : Numbers F m row shown es f) (o : ℕ) (b : o < m) (unfinished : (row o).finished ≡ false)
    (none : shown o ≡ 0) (a : Access) (r : Process) (now contention answer : ℕ) (second : Bool) (says : answer ≡ cond (is_root_read a) r.seen 0) (counts : second ≡ is_second_link a) where
  stepped_is : stepped_numbers f o (eqb r.step 0) contention answer second ≡ row_numbers (row_after a r now (row o)) (shown_after r contention) (rank F es o)
  unfolding stepped_numbers row_numbers row_after head one
  stepped_is =
      let first : f (5 * o) ≡ (row o).process * 2 ^ 24 + (row o).kind * 2 ^ 16 = first_number in
      let steps : f (5 * o + 1) ≡ (row o).steps = n o 1 b (omega arith) in
      let seconds : f (5 * o + 4) ≡ (row o).seconds = n o 4 b (omega arith) in
      five_same (ends (eqb r.step 0)) (omega arith) says (n o 3 b (omega arith)) (ap₂ ◌+◌ seconds (ap (λ (t : Bool). cond t 1 0) counts))
    where
      first_number : f (5 * o) ≡ (row o).process * 2 ^ 24 + (row o).kind * 2 ^ 16
      first_number =
          ap f (sym (add-zero (5 * o))) ∙ n o 0 b (omega arith)
          ∙ ap₂ (λ (t : Bool) (c : ℕ). (row o).process * 2 ^ 24 + (row o).kind * 2 ^ 16 + cond t 1 0 * 2 ^ 8 + c) unfinished none ∙ omega arith

      ends : (t : Bool) → f (5 * o) + cond t 1 0 * (2 ^ 8 + contention) ≡ (row o).process * 2 ^ 24 + (row o).kind * 2 ^ 16 + cond t 1 0 * 2 ^ 8 + cond t contention 0
      ends true = omega (arith, first_number)
      ends false = omega (arith, first_number)

  pub numbers_stepped : Numbers F m (upd row o (row_after a r now (row o))) (upd shown o (shown_after r contention)) es (with_row f o (stepped_numbers f o (eqb r.step 0) contention answer second))
  numbers_stepped i j c d = go (eqb i o) refl
    where
      ns : List ℕ
      ns = stepped_numbers f o (eqb r.step 0) contention answer second

      go : (t : Bool) → eqb i o ≡ t → with_row f o ns (5 * i + j) ≡ get_or (row_numbers (upd row o (row_after a r now (row o)) i) (upd shown o (shown_after r contention) i) (rank F es i)) j 0
      go true x =
          rw (eqb-true i o x, upd_same row o (row_after a r now (row o)), upd_same shown o (shown_after r contention)) (with_row_at f o ns j d ∙ ap (λ (l : List ℕ). get_or l j 0) stepped_is)
      go false x =
          let other = eqb-false i o x in
          rw (upd_other row o (row_after a r now (row o)) i other, upd_other shown o (shown_after r contention) i other) (with_row_other f o ns (5 * i + j) (λ y. other (omega arith)) ∙ n i j c d)

-- ---- a start, of operation m

fresh_is : (w : Row) (k : ℕ) → w.finished ≡ false → w.steps ≡ 0 → w.answer ≡ 0 → w.seconds ≡ 0 → k ≡ 0
    → fresh_numbers w.process w.kind ≡ row_numbers w 0 k
unfolding fresh_numbers row_numbers one
fresh_is w k a b c d e =
    five_same (ap (λ (t : Bool). head w.process w.kind (cond t 1 0) 0) (sym a)) (sym b) (sym c) (sym e) (sym d)

pub numbers_started : (F : Form) (m : ℕ) (row : ℕ → Row) (shown : ℕ → ℕ) (es : List Entry) (f : ℕ → ℕ) → Numbers F m row shown es f → (w : Row) → w.finished ≡ false → w.steps ≡ 0 → w.answer ≡ 0 → w.seconds ≡ 0
    → rank F es m ≡ 0 → Numbers F (suc m) (upd row m w) (upd shown m 0) es (with_row f m (fresh_numbers w.process w.kind))
numbers_started F m row shown es f n w a b c d e i j x y = go (eqb i m) refl
  where
    ns : List ℕ
    ns = fresh_numbers w.process w.kind

    go : (t : Bool) → eqb i m ≡ t → with_row f m ns (5 * i + j) ≡ get_or (row_numbers (upd row m w i) (upd shown m 0 i) (rank F es i)) j 0
    go true z = rw (eqb-true i m z, upd_same row m w, upd_same shown m 0) (with_row_at f m ns j y ∙ ap (λ (l : List ℕ). get_or l j 0) (fresh_is w (rank F es m) a b c d e))
    go false z =
        let other = eqb-false i m z in
        rw (upd_other row m w i other, upd_other shown m 0 i other) (with_row_other f m ns (5 * i + j) (λ q. other (omega arith)) ∙ n i j (omega arith) y)
