-- What a ledger keeps, and what of it a step changes beside its operation's row: what it takes in,
-- who waits to be listed, and who is listed.
use Rattle.std.specs.Prelude.{ℕ, suc, ◌^◌, ◌≤◌, ◌<◌, ◌≡◌, Bool, false, cond, List, [], ◌∷◌, length}
use Rattle.recording.specs.declared.Form.{Form as Told}
use Rattle.meaning.specs.Shape.{Form, formed}
use Rattle.meaning.specs.Steps.{Process}
use Rattle.spots.specs.Spot.{Spot, spot_of, last_step}
use Rattle.arrays.specs.Arrays.{as_fun}
use Rattle.arrays.specs.Numbers.{numbers_of}
use Rattle.taken.specs.CountIn.{Waiter}
use Rattle.counts.specs.Counts.{Counts, SameRead, counts_of, counts_after}
use Rattle.listing.specs.Queue.{waiters_of, queue_of, ranked, CanList}
use Rattle.placing.specs.declared.Ledger.{Ledger}
use Rattle.climb.specs.Climb.{Known}
use Rattle.machine.specs.declared.Process.{Process as Record}
use Rattle.ledger.specs.Kept.{Kept, at_root, queue_then, list_then, wait_then}

unfoldable pub kept_of : Ledger → Kept
kept_of l =
    record {
      counts = counts_of l.counts;
      queue = queue_of (waiters_of l.waiters.now) l.listed.waiting;
      listed = l.listed.rank;
      rows = numbers_of l.rows.now;
    }

-- a ledger of the same lent arrays, each as long as it was
pub record Same (l l' : Ledger) : Type 0 where
  pub counts : SameRead l.counts l'.counts
  pub waiters : l'.waiters.ghost_name ≡ l.waiters.ghost_name
  pub rows : l'.rows.ghost_name ≡ l.rows.ghost_name
  pub greatest : l'.greatest.ghost_name ≡ l.greatest.ghost_name
  pub of_waiters : length l'.waiters.now ≡ length l.waiters.now
  pub of_rows : length l'.rows.now ≡ length l.rows.now
  pub of_greatest : length l'.greatest.now ≡ length l.greatest.now

-- a known form, a process of its tree that has a row of read counts, a step of its operation, a leaf write that is no store, and room for one
-- more leaf write, waiter and rank
pub record CanPlace (f : Told) (p : ℕ) (r : Record) (stored : Bool) (l : Ledger) : Type 0 where
  pub known : Known f
  pub process : p < 2 ^ f.height
  pub reader : p < length l.counts.read.now
  pub last : r.step ≤ last_step (formed f) p r.adds
  pub still : r.step ≡ 2 → stored ≡ false
  pub written : as_fun l.counts.written p < 65535
  pub queue : CanList l.waiters.now l.rows.now l.listed.waiting l.listed.rank
  pub operation : r.operation < length l.waiters.now
  pub waiting : r.step ≡ 2 → l.listed.waiting < length l.waiters.now

-- an addition's step: a leaf write joins the queue, and a store at node 1 lists those that it has taken in, in the order of their leaf writes
unfoldable pub addition_placed : Form → ℕ → Process → Bool → Kept → Kept
addition_placed F p r stored k =
    let σ : Spot = spot_of F p r.step in
    let c : Counts = counts_after F p r.step σ stored k.counts in
    let ws : List Waiter = queue_then p r k in
    cond (at_root F σ stored) (list_then (c.in_node F.height) ws c k) (wait_then ws c k)

-- a read's one step lists it
unfoldable pub read_placed : ℕ → Kept → Kept
read_placed i k =
    record { counts = k.counts; queue = k.queue; listed = suc k.listed; rows = ranked (i ∷ []) k.listed k.rows }
