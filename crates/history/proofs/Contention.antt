-- Laws of the contention: which rows have the same one, and what one more entry of the history makes of it.
use Prim.Native.Nat.{ℕ, max, ◌≤◌, ◌<◌}
use native.Mathlib.Nat.{max-zero}
use native.Mathlib.Omega.{arith}
use mathlib.Core.Path.{◌≡◌, refl, sym, ap₂, ◌∙◌}
use mathlib.Core.Bool.{Bool, true, false, not, cond, ◌&&◌, ◌||◌, and-false, true≢false}
use mathlib.Core.List.{List, [], ◌∷◌}
use lib.ListN.{length}
use lib.Dec.{leb, ltb}
use borrow.Author.Tests.{lt-leb, le-leb, lt-ltb, le-ltb}
use Rattle.meaning.specs.Run.{Entry, Row}
use Rattle.meaning.specs.Contention.{during, contention}

-- ---- the record that had k before it

module _ (w : Row) (k : ℕ) where
  pub before_start : k < w.started → during w k ≡ false
  unfolding during
  before_start h = rw (lt-leb w.started k h)

  pub from_last_step : w.finished ≡ true → w.ended ≤ k → during w k ≡ false
  unfolding during
  from_last_step f h = rw (f, le-ltb k w.ended h) (and-false (leb w.started k))

  pub under_way_lem : w.started ≤ k → (w.finished ≡ true → k < w.ended) → during w k ≡ true
  unfolding during
  under_way_lem h f = rw (le-leb w.started k h) (go w.finished refl)
    where
      go : (t : Bool) → w.finished ≡ t → (not t || ltb k w.ended) ≡ true
      go true e = lt-ltb k w.ended (f e)
      go false e = refl

  -- the latest record
  pub during_now : w.started ≤ k → w.ended ≤ k → during w k ≡ not w.finished
  during_now h l = go w.finished refl
    where
      go : (t : Bool) → w.finished ≡ t → during w k ≡ not t
      go true e = from_last_step e l
      go false e = under_way_lem h (λ f. absurd (true≢false (sym f ∙ e)))

-- ---- rows with the same contention

-- an operation under way, and the same one later: its last step, if there was one, came no earlier
module _ (v w : Row) (s : v.started ≡ w.started) (f : v.finished ≡ false) where
  pub during_later : (k : ℕ) → (w.finished ≡ true → k < w.ended) → during v k ≡ during w k
  unfolding during
  during_later k l = rw (s, f) (go w.finished refl)
    where
      go : (t : Bool) → w.finished ≡ t → (leb w.started k && true) ≡ (leb w.started k && (not t || ltb k w.ended))
      go true e = rw (lt-ltb k w.ended (l e))
      go false e = refl

-- it is told by the records that are during the operation
pub contention_same : (v w : Row) (es : List Entry) → ((k : ℕ) → k < length es → during v k ≡ during w k) → contention v es ≡ contention w es
unfolding contention
contention_same v w [] f = refl
contention_same v w (e ∷ es) f =
    ap₂ (λ (n : ℕ) (t : Bool). max n (cond t e.busy 0)) (contention_same v w es (λ k h. f k (omega arith))) (f (length es) (omega arith))

pub contention_later : (v w : Row) (es : List Entry) → v.started ≡ w.started → v.finished ≡ false → (w.finished ≡ true → length es ≤ w.ended) → contention v es ≡ contention w es
contention_later v w es s f l = contention_same v w es (λ k h. during_later v w s f k (λ e. omega (arith, l e)))

-- ---- along the history

pub contention_before : (w : Row) (es : List Entry) → length es ≤ w.started → contention w es ≡ 0
unfolding contention
contention_before w [] h = refl
contention_before w (e ∷ es) h = rw (before_start w (length es) (omega arith)) (max-zero _ ∙ contention_before w es (omega arith))

module _ (w : Row) (e : Entry) (es : List Entry) where
  pub contention_more : w.finished ≡ false → w.started ≤ length es → contention w (e ∷ es) ≡ max (contention w es) e.busy
  unfolding contention
  contention_more f s = rw (under_way_lem w (length es) s (λ t. absurd (true≢false (sym t ∙ f))))

  pub contention_ended : w.finished ≡ true → w.ended ≤ length es → contention w (e ∷ es) ≡ contention w es
  unfolding contention
  contention_ended f l = rw (from_last_step w (length es) f l) (max-zero _)
