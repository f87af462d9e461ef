-- The walk over the queue: its first j entries are listed, with the result `Lists` so far, and the others are as they were.
use Prim.Native.Nat.{ℕ, ◌+◌, ◌^◌, ◌≤◌, ◌<◌}
use mathlib.Core.Path.{◌≡◌, refl, sym, ap, ◌∙◌}
use mathlib.Core.Bool.{Bool, true, false, not, cond}
use mathlib.Core.List.{List, [], ◌∷◌, ◌++◌, map-append, append-nil}
use native.Mathlib.Numerals.{add-one}
use native.Mathlib.Nat.{add-zero}
use native.Mathlib.Omega.{arith}
use lib.ListN.{length, get_or, set, length-append, length-map, length-set}
use lib.Seq.{get_or-set_other}
use Rattle.meaning.specs.Steps.{upd}
use Rattle.meaning.specs.Run.{most_operations}
use Rattle.meaning.specs.TakenIn.{keep}
use Rattle.arrays.specs.Numbers.{row_from, rank_in, no_row, numbers_of}
use Rattle.arrays.specs.declared.Row.{Row}
use Rattle.arrays.proofs.Rows.{ranked_row, rank_set}
use Rattle.taken.specs.CountIn.{Waiter, is_counted, operations_of}
use Rattle.listing.specs.Queue.{waiter_of, no_waiter, waiters_of, queue_of, ranked, Lists, CanList}
use Rattle.listing.specs.declared.Waiter.{Waiter as Stored}
use Rattle.taken.proofs.Lists.{keep_append}
use Rattle.listing.proofs.Laws.{waiters_set, length-queue_of, queue_of_more, ranked_append, lists_all}

-- ---- one waiter more

module _ {ws : List Waiter} {count : ℕ → ℕ} {k : ℕ} {f f' : ℕ → ℕ} {q : ℕ → Waiter} {kept rank : ℕ}
    (l : Lists ws count k f f' q (record { waiting = kept; rank = rank })) (w : Waiter) where
  kept_one : (p : Waiter → Bool) {b : Bool} → p w ≡ b → keep p (ws ++ (w ∷ [])) ≡ keep p ws ++ cond b (w ∷ []) []
  unfolding keep
  kept_one p e = rw (keep_append, e)

  longer : length (ws ++ (w ∷ [])) ≡ length ws + 1
  longer = length-append ws (w ∷ [])

  pub counted : is_counted count w ≡ true
      → Lists (ws ++ (w ∷ [])) count k f (upd f' (row_from w.operation + rank_in) (rank + 1)) q (record { waiting = kept; rank = rank + 1 })
  unfolding operations_of ranked
  counted e =
      let these = kept_one (is_counted count) e in
      let others = kept_one (λ w. not (is_counted count w)) (ap not e) in
      record {
        waiting = l.waiting ∙ sym (others ∙ append-nil _);
        rank = rw (these, length-append) (omega (arith, l.rank));
        rows = rw (these, map-append, ranked_append, length-map, ← l.rows, ← l.rank, add-one);
        fewer = rw longer (omega (arith, l.fewer));
      }

  pub waits : is_counted count w ≡ false
      → Lists (ws ++ (w ∷ [])) count k f f' (upd q kept w) (record { waiting = kept + 1; rank = rank })
  waits e =
      let these = kept_one (is_counted count) e ∙ append-nil _ in
      let others = kept_one (λ w. not (is_counted count w)) (ap not e) in
      record {
        waiting = rw (add-one, queue_of_more, others, l.waiting);
        rank = rw these l.rank;
        rows = rw these l.rows;
        fewer = rw longer (omega (arith, l.fewer));
      }

-- ---- the walk

-- q, f and k are the queue, the rows and the ranks given at the entry
pub record Walk (q₀ : List Stored) (f₀ : List Row) (count : ℕ → ℕ) (waiting k : ℕ) (queue : List Stored) (rows : List Row) (rank kept j : ℕ) : Type 0 where
  pub can : CanList q₀ f₀ waiting k
  pub within : j ≤ waiting
  pub lengths : (length queue ≡ length q₀) × (length rows ≡ length f₀)
  pub queued : (m : ℕ) → j ≤ m → get_or queue m no_waiter ≡ get_or q₀ m no_waiter
  pub done : Lists (queue_of (waiters_of q₀) j) count k (numbers_of f₀) (numbers_of rows) (waiters_of queue) (record { waiting = kept; rank = rank })

pub starts : {count : ℕ → ℕ} {waiting k : ℕ} {queue : List Stored} {rows : List Row}
    → CanList queue rows waiting k → Walk queue rows count waiting k queue rows k 0 0
unfolding queue_of keep operations_of ranked
starts can =
    record {
      can = can;
      within = omega arith;
      lengths = (refl, refl);
      queued = λ m h. refl;
      done = record { waiting = refl; rank = sym (add-zero _); rows = refl; fewer = omega arith };
    }

-- what the code needs to know in a turn
pub record Room (queue : List Stored) (rows : List Row) (rank kept j : ℕ) : Type 0 where
  pub index : j < length queue
  pub few : length queue ≤ most_operations
  pub fewer : kept ≤ j
  pub ranks : rank + 1 < 2 ^ 32
  pub operation : (get_or queue j no_waiter).operation < length queue
  pub rows_fit : length queue ≤ length rows

module _ {q₀ : List Stored} {f₀ : List Row} {count : ℕ → ℕ} {waiting k : ℕ} {queue : List Stored} {rows : List Row} {rank kept j : ℕ}
    (w : Walk q₀ f₀ count waiting k queue rows rank kept j) where
  -- at the end all are listed
  pub all_listed : waiting ≤ j → Lists (queue_of (waiters_of q₀) waiting) count k (numbers_of f₀) (numbers_of rows) (waiters_of queue) (record { waiting = kept; rank = rank })
  all_listed h = let e : waiting ≡ j = omega (arith, w.within) in rw e w.done

  module _ (h : j < waiting) where
    pub room : Room queue rows rank kept j
    room =
        let n = length-queue_of (waiters_of q₀) j in
        record {
          index = omega (arith, w.can.most, w.lengths.0);
          few = omega (arith, w.can.sizes.few, w.lengths.0);
          rows_fit = omega (arith, w.can.sizes.rows_fit, w.lengths.0, w.lengths.1);
          fewer = omega (arith, w.done.fewer);
          ranks = omega (arith, w.can.ranks, lists_all w.done);
          operation = omega (arith, ap (λ (x : Stored). x.operation) (w.queued j (omega arith)), w.can.operations j h, w.lengths.0);
        }

    abbrev one : Waiter
    one = waiter_of (get_or queue j no_waiter)

    next : queue_of (waiters_of q₀) (j + 1) ≡ queue_of (waiters_of q₀) j ++ (one ∷ [])
    unfolding queue_of waiters_of
    next = rw (add-one, w.queued j (omega arith))

    pub lists_it : is_counted count one ≡ true
        → Walk q₀ f₀ count waiting k queue (set rows (get_or queue j no_waiter).operation (ranked_row (get_or rows (get_or queue j no_waiter).operation no_row) (rank + 1))) (rank + 1) kept (j + 1)
    unfolding waiter_of
    lists_it less =
        let at : (get_or queue j no_waiter).operation < length rows = omega (arith, room.operation, room.rows_fit) in
        record {
          can = w.can;
          within = omega arith;
          lengths = (w.lengths.0, rw length-set w.lengths.1);
          queued = λ m l. w.queued m (omega arith);
          done = rw (next, rank_set rows _ (rank + 1) at) (counted w.done _ less);
        }

    pub keeps_it : {after : ℕ} → after ≡ kept + 1 → is_counted count one ≡ false
        → Walk q₀ f₀ count waiting k (set queue kept (get_or queue j no_waiter)) rows rank after (j + 1)
    keeps_it e not-less =
        let r = room in
        let at = waiters_set queue kept (get_or queue j no_waiter) (omega (arith, r.index, r.fewer)) in
        rw e
        (record {
          can = w.can;
          within = omega arith;
          lengths = (rw length-set w.lengths.0, w.lengths.1);
          queued = λ m l. get_or-set_other queue kept m (get_or queue j no_waiter) no_waiter (λ e. omega arith) ∙ w.queued m (omega arith);
          done = rw (next, at) (waits w.done _ not-less);
        })
