-- The additions that wait to be listed, in the order of their leaf writes, and what a root store makes of them.
use Rattle.std.specs.Prelude.{ℕ, zero, suc, ◌+◌, ◌^◌, ◌≤◌, ◌<◌, ◌≡◌, not, List, [], ◌∷◌, ◌++◌, length, get_or}
use Rattle.meaning.specs.Steps.{upd}
use Rattle.meaning.specs.Run.{most_operations}
use Rattle.meaning.specs.TakenIn.{keep}
use Rattle.taken.specs.CountIn.{Waiter, is_counted, operations_of}
use Rattle.arrays.specs.Numbers.{row_from, rank_in}
use Rattle.arrays.specs.declared.Row.{Row}
use Rattle.listing.specs.declared.Listed.{Listed}
use Rattle.listing.specs.declared.Waiter.{Waiter as Stored}

unfoldable pub waiter_of : Stored → Waiter
waiter_of w = record { operation = w.operation; component = w.component; turn = w.turn }

unfoldable pub no_waiter : Stored
no_waiter = record { operation = 0; component = 0; turn = 0 }

-- an array of waiters, by the index
unfoldable pub waiters_of : List Stored → ℕ → Waiter
waiters_of ws j = waiter_of (get_or ws j no_waiter)

-- the queue: the first k of them
unfoldable pub queue_of : (ℕ → Waiter) → ℕ → List Waiter
queue_of q zero = []
queue_of q (suc k) = queue_of q k ++ (q k ∷ [])

-- ranks given one after another, from suc k on, each in its operation's row
unfoldable pub ranked : List ℕ → ℕ → (ℕ → ℕ) → ℕ → ℕ
ranked [] k f = f
ranked (i ∷ is) k f = ranked is (suc k) (upd f (row_from i + rank_in) (suc k))

-- what listing gives: the queue without those listed, their ranks in the rows, and how many are listed by then
pub record Lists (ws : List Waiter) (count : ℕ → ℕ) (k : ℕ) (f f' : ℕ → ℕ) (queue' : ℕ → Waiter) (r : Listed) : Type 0 where
  pub waiting : queue_of queue' r.waiting ≡ keep (λ w. not (is_counted count w)) ws
  pub rank : r.rank ≡ k + length (keep (is_counted count) ws)
  pub rows : f' ≡ ranked (operations_of (keep (is_counted count) ws)) k f
  pub fewer : r.waiting ≤ length ws

-- arrays for as many operations as the queue has entries
pub record Sizes (queue : List Stored) (rows : List Row) : Type 0 where
  pub few : length queue ≤ most_operations
  pub rows_fit : length queue ≤ length rows

-- what it asks: that many waiters at most, each of an operation that has a row, and room for the ranks
pub record CanList (queue : List Stored) (rows : List Row) (waiting rank : ℕ) : Type 0 where
  pub sizes : Sizes queue rows
  pub most : waiting ≤ length queue
  pub operations : (j : ℕ) → j < waiting → (get_or queue j no_waiter).operation < length queue
  pub ranks : rank + waiting < 2 ^ 32
