-- What the replay keeps beside memory and process records: the counts, the queue of additions that wait to be listed, how many operations
-- are listed, and the rows; and what one step and one start make of it.
use Rattle.std.specs.Prelude.{ℕ, suc, ◌+◌, Bool, false, not, cond, ◌&&◌, List, [], ◌∷◌, ◌++◌, length, eqb}
use Rattle.meaning.specs.Shape.{Form}
use Rattle.meaning.specs.Steps.{Process}
use Rattle.meaning.specs.TakenIn.{keep}
use Rattle.taken.specs.CountIn.{Waiter, is_counted, operations_of}
use Rattle.spots.specs.Spot.{Spot, spot_of}
use Rattle.counts.specs.Counts.{Counts, counts_after}
use Rattle.rows.specs.Rows.{with_row, fresh_numbers, stepped_numbers}
use Rattle.listing.specs.Queue.{ranked}

pub record Kept : Type 0 where
  pub counts : Counts
  pub queue : List Waiter
  pub listed : ℕ
  pub rows : ℕ → ℕ

-- the counts after a step of the process whose record was r
unfoldable pub counts_then : Form → ℕ → Process → Bool → Counts → Counts
counts_then F p r stored c = cond r.adds (counts_after F p r.step (spot_of F p r.step) stored c) c

-- whether an SC at that spot, if it succeeded, was at node 1
unfoldable pub at_root : Form → Spot → Bool → Bool
at_root F σ stored = stored && eqb (suc σ.level) F.height

-- whether the access at a spot is the LL of a second attempt; the steps before the climb have the spot of its first
unfoldable pub second_link : Spot → Bool
second_link σ = σ.second && eqb σ.position 0

-- a leaf write joins the queue with its turn: process p writes the leaf of component p
unfoldable pub queue_then : ℕ → Process → Kept → List Waiter
queue_then p r k =
    k.queue ++ cond (eqb r.step 2) (record { operation = r.operation; component = p; turn = k.counts.in_node 0 p } ∷ []) []

-- listing, by the counts at node 1: those that are counted get their ranks, the others wait on
unfoldable pub list_then : (ℕ → ℕ) → List Waiter → Counts → Kept → Kept
list_then count ws c k =
    record {
      counts = c;
      queue = keep (λ w. not (is_counted count w)) ws;
      listed = k.listed + length (keep (is_counted count) ws);
      rows = ranked (operations_of (keep (is_counted count) ws)) k.listed k.rows;
    }

unfoldable pub wait_then : List Waiter → Counts → Kept → Kept
wait_then ws c k = record { counts = c; queue = ws; listed = k.listed; rows = k.rows }

-- the row of operation i after one more step; a last one puts the contention in
unfoldable pub row_then : ℕ → Bool → ℕ → ℕ → Bool → Kept → Kept
row_then i finished contention answer second k =
    record {
      counts = k.counts;
      queue = k.queue;
      listed = k.listed;
      rows = with_row k.rows i (stepped_numbers k.rows i finished contention answer second);
    }

-- a read's one step lists it
unfoldable pub read_step : Process → Process → ℕ → Kept → Kept
read_step r r' contention k =
    row_then r.operation (eqb r'.step 0) contention r'.seen false
    (record { counts = k.counts; queue = k.queue; listed = suc k.listed; rows = ranked (r.operation ∷ []) k.listed k.rows })

unfoldable pub addition_step : Form → ℕ → Process → Process → Bool → ℕ → Kept → Kept
addition_step F p r r' stored contention k =
    let σ : Spot = spot_of F p r.step in
    let c : Counts = counts_after F p r.step σ stored k.counts in
    let ws : List Waiter = queue_then p r k in
    row_then r.operation (eqb r'.step 0) contention 0 (second_link σ)
    (cond (at_root F σ stored) (list_then (c.in_node F.height) ws c k) (wait_then ws c k))

-- what a step of process p, whose record was r and is r', makes of what is kept; contention is that of its operation so far
unfoldable pub kept_step : Form → ℕ → Process → Process → Bool → ℕ → Kept → Kept
kept_step F p r r' stored contention k = cond r.adds (addition_step F p r r' stored contention k) (read_step r r' contention k)

-- a start adds a row
unfoldable pub kept_start : ℕ → ℕ → ℕ → Kept → Kept
kept_start i p kind k =
    record { counts = k.counts; queue = k.queue; listed = k.listed; rows = with_row k.rows i (fresh_numbers p kind) }
