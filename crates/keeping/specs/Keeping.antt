-- What is kept, and what one more record of it asks.
use Rattle.std.specs.Prelude.{ℕ, ◌+◌, ◌^◌, ◌≤◌, ◌<◌, ◌≡◌, refl, Bool, true, false, [], length, All}
use Rattle.std.proofs.Common.{◌∙◌}
use Rattle.recording.specs.declared.Form.{Form as Told}
use Rattle.meaning.specs.Shape.{formed}
use Rattle.meaning.specs.Run.{most_operations}
use Rattle.spots.specs.Spot.{last_step}
use Rattle.arrays.specs.Numbers.{numbers_of}
use Rattle.rows.specs.Rows.{RoomToStep}
use Rattle.climb.specs.Climb.{Known}
use Rattle.machine.specs.declared.Process.{Process as Record}
use Rattle.ledger.specs.Kept.{Kept}
use Rattle.placing.specs.Placing.{Same}
use Rattle.placing.specs.declared.Ledger.{Ledger}

-- how many there is room for in the arrays that are lent: readers of counts, waiters, rows, and processes with a greatest count of busy ones
pub record Lent : Type 0 where
  pub readers : ℕ
  pub waiters : ℕ
  pub rows : ℕ
  pub processes : ℕ

unfoldable pub lent_to : Ledger → Lent
lent_to l = record { readers = length l.counts.read.now; waiters = length l.waiters.now; rows = length l.rows.now; processes = length l.greatest.now }

-- what is kept where nothing is
abbrev pub nothing : Kept
nothing = record { counts = record { in_node = λ l q. 0; read = λ p q. 0 }; queue = []; listed = 0; rows = numbers_of [] }

-- before the first record: nothing is counted in any node, nobody waits, and none is listed
pub record Begun (k : Kept) : Type 0 where
  pub counts : (l q : ℕ) → k.counts.in_node l q ≡ 0
  pub queue : k.queue ≡ []
  pub listed : k.listed ≡ 0

-- as many operations as there are waiters, each with a row
pub record Enough (l : Lent) : Type 0 where
  pub few : l.waiters ≤ most_operations
  pub rows_fit : l.waiters ≤ l.rows

-- an operation and a process that there can be, with a row and greatest counts where a report is asked for
pub record CanStart (asked : Bool) (m p : ℕ) (l : Lent) : Type 0 where
  pub operation : m < most_operations
  pub process : p < 64
  pub row : asked ≡ true → m < l.rows
  pub most : asked ≡ true → 64 ≤ l.processes

-- a known form, a process of its tree that has a row of read counts and a greatest count of busy ones, a step of its operation, a leaf write
-- that is no store, and room for one more leaf write, waiter, rank and step
pub record CanKeep (f : Told) (p : ℕ) (r : Record) (stored : Bool) (l : Lent) (k : Kept) : Type 0 where
  pub known : Known f
  pub process : p < 2 ^ f.height
  pub reader : p < l.readers
  pub most : p < l.processes
  pub last : r.step ≤ last_step (formed f) p r.adds
  pub still : r.step ≡ 2 → stored ≡ false
  pub written : k.counts.in_node 0 p < 65535
  pub enough : Enough l
  pub queue : length k.queue ≤ l.waiters
  pub operations : All (λ w. w.operation < l.waiters) k.queue
  pub all_ranks : k.listed + length k.queue < 2 ^ 32
  pub operation : r.operation < l.waiters
  pub waiting : r.step ≡ 2 → length k.queue < l.waiters
  pub ranks : k.listed + 1 < 2 ^ 32
  pub row : RoomToStep k.rows r.operation

-- ---- the same arrays

pub same_itself : (l : Ledger) → Same l l
same_itself l = record { counts = record { read = refl; of_read = refl }; waiters = refl; rows = refl; greatest = refl; of_waiters = refl; of_rows = refl; of_greatest = refl }

pub same_through : (x y z : Ledger) → Same x y → Same y z → Same x z
same_through x y z a b =
    record {
      counts = record { read = b.counts.read ∙ a.counts.read; of_read = b.counts.of_read ∙ a.counts.of_read };
      waiters = b.waiters ∙ a.waiters;
      rows = b.rows ∙ a.rows;
      greatest = b.greatest ∙ a.greatest;
      of_waiters = b.of_waiters ∙ a.of_waiters;
      of_rows = b.of_rows ∙ a.of_rows;
      of_greatest = b.of_greatest ∙ a.of_greatest;
    }

pub same_lent : (x y : Ledger) → Same x y → lent_to y ≡ lent_to x
unfolding lent_to
same_lent x y a = λ i. record { readers = a.counts.of_read i; waiters = a.of_waiters i; rows = a.of_rows i; processes = a.of_greatest i }
