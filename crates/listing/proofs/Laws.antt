-- Laws of the queue and of its listing: what a store leaves of the queue, what `keep` leaves of a list, which numbers the ranks change, and
-- that a listing leaves a queue that can be listed again and allows one outcome.
use Prim.Native.Nat.{ℕ, zero, suc, ◌+◌, ◌%◌, ◌≤◌, ◌<◌}
use mathlib.Core.Path.{◌≡◌, refl, sym, ap, ◌∙◌, subst}
use mathlib.Core.Bool.{Bool, true, false, not, cond}
use mathlib.Core.List.{List, [], ◌∷◌, ◌++◌, Memᴰ}
use native.Mathlib.Nat.{add-zero}
use native.Mathlib.Numerals.{add-one}
use native.Mathlib.Omega.{arith}
use lib.ListN.{length, get_or, set, length-append}
use lib.Seq.{get_or-set_same, get_or-set_other, ext_get_or}
use lib.Dec.{eqb}
use borrow.Author.Count.{below_more}
use borrow.Author.Tests.{eqb-true}
use Rattle.meaning.specs.Steps.{upd}
use Rattle.meaning.specs.TakenIn.{further, position_of}
use Rattle.arrays.specs.Numbers.{numbers_in_row, row_from, rank_in}
use Rattle.meaning.proofs.Updates.{upd_same, upd_other, upd_is}
use Rattle.taken.specs.CountIn.{Waiter, is_counted}
use Rattle.taken.proofs.Lists.{All, none, more, all_append, all_front, all_back, all_head, all_keep, length-keep, further_some, listed_some, Distinct, nothing, another}
use Rattle.listing.specs.Queue.{waiter_of, no_waiter, waiters_of, queue_of, ranked, Lists}
use Rattle.listing.specs.declared.Listed.{Listed}
use Rattle.listing.specs.declared.Waiter.{Waiter as Stored}

-- ---- the queue

-- storing a waiter is `upd`
pub waiters_set : (ws : List Stored) (i : ℕ) (w : Stored) → i < length ws → waiters_of (set ws i w) ≡ upd (waiters_of ws) i (waiter_of w)
unfolding waiters_of
waiters_set ws i w h =
    upd_is (waiters_of ws) i (waiter_of w) (waiters_of (set ws i w)) (ap waiter_of (get_or-set_same ws i w no_waiter h))
    (λ j n. ap waiter_of (get_or-set_other ws i j w no_waiter n))

stored_of : Waiter → Stored
stored_of w = record { operation = w.operation; component = w.component; turn = w.turn }

-- two arrays of one length and one function are one list
pub same_waiters : (xs ys : List Stored) → length xs ≡ length ys → waiters_of xs ≡ waiters_of ys → xs ≡ ys
unfolding waiters_of waiter_of stored_of
same_waiters xs ys l e = ext_get_or no_waiter xs ys l (λ i h. ap (λ (f : ℕ → Waiter). stored_of (f i)) e)

pub length-queue_of : (q : ℕ → Waiter) (k : ℕ) → length (queue_of q k) ≡ k
unfolding queue_of
length-queue_of q zero = refl
length-queue_of q (suc k) = simp (length-append, length-queue_of q k) (add-one k)

-- what is stored at the queue's length or beyond is not in it
pub queue_of_store : (q : ℕ → Waiter) (m : ℕ) (w : Waiter) (k : ℕ) → k ≤ m → queue_of (upd q m w) k ≡ queue_of q k
unfolding queue_of
queue_of_store q m w zero h = refl
queue_of_store q m w (suc k) h = rw (queue_of_store q m w k (omega arith), upd_other q m w k (λ e. omega arith))

-- stored at its length, it is the last
pub queue_of_more : (q : ℕ → Waiter) (k : ℕ) (w : Waiter) → queue_of (upd q k w) (suc k) ≡ queue_of q k ++ (w ∷ [])
unfolding queue_of
queue_of_more q k w = rw (queue_of_store q k w k (omega arith), upd_same q k w)

-- a property of every waiter, by the list and by the entries
module _ (P : Waiter → Type 0) (q : ℕ → Waiter) where
  pub all_queue_of : (k : ℕ) → ((j : ℕ) → j < k → P (q j)) → All P (queue_of q k)
  unfolding queue_of
  all_queue_of zero h = none
  all_queue_of (suc k) h = all_append (all_queue_of k (λ j l. h j (omega arith))) (more (h k (omega arith)) none)

  pub queue_of_all : (k : ℕ) → All P (queue_of q k) → (j : ℕ) → j < k → P (q j)
  unfolding queue_of
  queue_of_all zero a j h = absurd (omega arith)
  queue_of_all (suc k) a j h =
      let last : List Waiter = q k ∷ [] in
      below_more (λ (m : ℕ). P (q m)) k (queue_of_all k (all_front (queue_of q k) last a)) (all_head (all_back (queue_of q k) last a))
      j (omega arith)

-- the same of the operations' bound, as `CanList` says it
pub all_operations : (n : ℕ) (ws : List Stored) (k : ℕ) → ((j : ℕ) → j < k → (get_or ws j no_waiter).operation < n) → All (λ w. w.operation < n) (queue_of (waiters_of ws) k)
unfolding waiters_of waiter_of
all_operations n ws k h = all_queue_of (λ w. w.operation < n) (waiters_of ws) k h

pub operations_all : (n : ℕ) (ws : List Stored) (k : ℕ) → All (λ w. w.operation < n) (queue_of (waiters_of ws) k) → (j : ℕ) → j < k → (get_or ws j no_waiter).operation < n
unfolding waiters_of waiter_of
operations_all n ws k a = queue_of_all (λ w. w.operation < n) (waiters_of ws) k a

-- ---- the ranks

pub ranked_append : (is js : List ℕ) (k : ℕ) (f : ℕ → ℕ) → ranked (is ++ js) k f ≡ ranked js (k + length is) (ranked is k f)
unfolding ranked
ranked_append [] js k f = rw (add-zero k)
ranked_append (i ∷ is) js k f =
    let e : suc k + length is ≡ k + suc (length is) = omega arith in
    ranked_append is js (suc k) (upd f (row_from i + rank_in) (suc k)) ∙ rw e

-- a number that is no listed operation's rank stays
pub ranked_other : (is : List ℕ) (k : ℕ) (f : ℕ → ℕ) (j : ℕ) → ((i : ℕ) → Memᴰ i is → j ≡ row_from i + rank_in → ⊥) → ranked is k f j ≡ f j
unfolding ranked
ranked_other [] k f j n = refl
ranked_other (i ∷ is) k f j n =
    ranked_other is (suc k) (upd f (row_from i + rank_in) (suc k)) j (λ x m. n x (Memᴰ.tail m))
    ∙ upd_other f (row_from i + rank_in) (suc k) j (n i (Memᴰ.head refl))

-- the row's other numbers stay
pub ranked_beside : (is : List ℕ) (k : ℕ) (f : ℕ → ℕ) (j : ℕ) → (j % numbers_in_row ≡ rank_in → ⊥) → ranked is k f j ≡ f j
ranked_beside is k f j n = ranked_other is k f j (λ i m e. n (omega arith))

-- an operation that is not listed keeps its rank
pub ranked_absent : (is : List ℕ) (k : ℕ) (f : ℕ → ℕ) (i : ℕ) → position_of i is ≡ 0 → ranked is k f (row_from i + rank_in) ≡ f (row_from i + rank_in)
ranked_absent is k f i z =
    ranked_other is k f (row_from i + rank_in) (λ x m e. let same : x ≡ i = omega arith in listed_some m (ap (λ y. position_of y is) same ∙ z))

-- a listed operation's rank is its position, after the k listed before
pub ranked_at : {is : List ℕ} → Distinct is → (k : ℕ) (f : ℕ → ℕ) (i : ℕ) → (position_of i is ≡ 0 → ⊥)
    → ranked is k f (row_from i + rank_in) ≡ k + position_of i is
unfolding ranked position_of further
ranked_at nothing k f i s = absurd (s refl)
ranked_at (another {i = x} {is = xs} n d) k f i s = go (eqb i x) refl s (ranked_at d (suc k) (upd f (row_from x + rank_in) (suc k)) i)
  where
    g : ℕ → ℕ
    g = upd f (row_from x + rank_in) (suc k)

    at : ℕ
    at = position_of i xs

    go : (t : Bool) → eqb i x ≡ t → (cond t 1 (further at) ≡ 0 → ⊥)
        → ((at ≡ 0 → ⊥) → ranked xs (suc k) g (row_from i + rank_in) ≡ suc k + at) → ranked xs (suc k) g (row_from i + rank_in) ≡ k + cond t 1 (further at)
    go true e s rest =
        let same = eqb-true i x e in
        ranked_absent xs (suc k) g i (ap (λ y. position_of y xs) same ∙ n) ∙ ap (λ y. g (row_from y + rank_in)) same ∙ upd_same f (row_from x + rank_in) (suc k)
        ∙ sym (add-one k)
    go false e s rest =
        let some : at ≡ 0 → ⊥ = λ z. s (rw z) in
        rest some ∙ omega (arith, further_some at some)

-- ---- the listing

module _ {ws : List Waiter} {count : ℕ → ℕ} {k : ℕ} {f f' : ℕ → ℕ} {q' : ℕ → Waiter} {r : Listed} (l : Lists ws count k f f' q' r) where
  -- none is lost: those listed and those that wait on
  pub lists_all : r.rank + r.waiting ≡ k + length ws
  lists_all =
      omega (arith, l.rank, length-keep (is_counted count) ws, length-queue_of q' r.waiting, ap length l.waiting)

  -- what waits on has the property that all had
  pub lists_keep : {P : Waiter → Type 0} → All P ws → All P (queue_of q' r.waiting)
  lists_keep {P} a = subst (All P) (sym l.waiting) (all_keep (λ w. not (is_counted count w)) a)

-- One outcome: the same waiting list, the same numbers of waiting and listed, the same rows. What the array has beyond the waiting
-- list is free: so the lists are equal, and not the arrays.
pub lists_one : {ws : List Waiter} {count : ℕ → ℕ} {k : ℕ} {f f₁ f₂ : ℕ → ℕ} {q₁ q₂ : ℕ → Waiter} {r s : Listed}
    → Lists ws count k f f₁ q₁ r → Lists ws count k f f₂ q₂ s
    → (queue_of q₁ r.waiting ≡ queue_of q₂ s.waiting) × (r ≡ s) × (f₁ ≡ f₂)
lists_one {q₁ = q₁} {q₂ = q₂} {r = r} {s = s} a b =
    let list = a.waiting ∙ sym b.waiting in
    let waiting = sym (length-queue_of q₁ r.waiting) ∙ ap length list ∙ length-queue_of q₂ s.waiting in
    let rank = a.rank ∙ sym b.rank in
    (list, λ i. record { waiting = waiting i; rank = rank i }, a.rows ∙ sym b.rows)
