-- What callers want of a step: its cases, that the rows keep their room, and that its contract allows one outcome.
use Prim.Native.Nat.{ℕ, zero, suc, ◌+◌, ◌*◌, ◌%◌, ◌≤◌}
use mathlib.Core.Path.{◌≡◌, sym, ap, ◌∙◌}
use mathlib.Core.Bool.{Bool, true, false, cond}
use mathlib.Core.List.{List, [], ◌∷◌}
use native.Mathlib.Omega.{arith}
use lib.ListN.{get_or, replicate}
use lib.Dec.{eqb}
use Rattle.std.specs.Prelude.{All}
use Rattle.sets.specs.Processes.{count_below}
use Rattle.sets.proofs.Laws.{count_le}
use Rattle.recording.specs.declared.Form.{Form as Told}
use Rattle.meaning.specs.Shape.{Form}
use Rattle.meaning.specs.Steps.{Process}
use Rattle.meaning.specs.Run.{kind_of}
use Rattle.spots.specs.Spot.{spot_of}
use Rattle.arrays.specs.Arrays.{as_fun, as_rows}
use Rattle.arrays.specs.Numbers.{numbers_of}
use Rattle.arrays.proofs.Laws.{fun_zeros}
use Rattle.counts.specs.Counts.{levels, counts_of}
use Rattle.rows.specs.Rows.{with_row, fresh_numbers, stepped_numbers, RoomToStep}
use Rattle.listing.specs.Queue.{waiters_of, queue_of}
use Rattle.listing.proofs.Laws.{length-queue_of, ranked_beside, operations_all}
use Rattle.taken.proofs.Lists.{All as Every, none, more}
use Rattle.ledger.specs.Kept.{Kept, row_then, read_step, addition_step, kept_step, kept_start, second_link}
use Rattle.machine.specs.declared.Process.{Process as Record}
use Rattle.placing.specs.Placing.{kept_of, CanPlace, addition_placed, read_placed}
use Rattle.placing.specs.declared.Ledger.{Ledger}
use Rattle.placing.proofs.Laws.{kept_is, addition_beside}
use Rattle.keeping.specs.Keeping.{Begun, CanKeep, lent_to}

-- a property of every element, by the list and by the index
module _ {A : Type 0} {P : A → Type 0} where
  pub by_index : (l : List A) → Every P l → All P l
  by_index [] none k d b = absurd (omega arith)
  by_index (a ∷ l) (more h rest) zero d b = h
  by_index (a ∷ l) (more h rest) (suc k) d b = by_index l rest k d (omega arith)

  by_list : (l : List A) → All P l → Every P l
  by_list [] h = none
  by_list (a ∷ l) h = more (h 0 a (omega arith)) (by_list l (λ k d b. h (suc k) d (omega arith)))

-- a step that can be kept can be placed
pub can_place : {f : Told} {p : ℕ} {r : Record} {stored : Bool} {l : Ledger} → CanKeep f p r stored (lent_to l) (kept_of l) → CanPlace f p r stored l
unfolding kept_of lent_to as_fun counts_of levels
can_place {l = l} can =
    let many = length-queue_of (waiters_of l.waiters.now) l.listed.waiting in
    record {
      known = can.known;
      process = can.process;
      reader = can.reader;
      last = can.last;
      still = can.still;
      written = can.written;
      queue =
          record {
            sizes = record { few = can.enough.few; rows_fit = can.enough.rows_fit };
            most = omega (arith, many, can.queue);
            operations = operations_all _ l.waiters.now l.listed.waiting (by_list _ can.operations);
            ranks = omega (arith, many, can.all_ranks);
          };
      operation = can.operation;
      waiting = λ e. omega (arith, many, can.waiting e);
    }

-- where ranks alone have changed, there is room for a step as there was
pub room_stays : {f : ℕ → ℕ} {i : ℕ} (g : ℕ → ℕ) → RoomToStep f i → ((j : ℕ) → (j % 5 ≡ 3 → ⊥) → g j ≡ f j) → RoomToStep g i
room_stays {f} {i} g room beside =
    record {
      row = room.row;
      head = rw (beside (5 * i) (λ e. omega arith)) room.head;
      steps = rw (beside (5 * i + 1) (λ e. omega arith)) room.steps;
      seconds = rw (beside (5 * i + 4) (λ e. omega arith)) room.seconds;
    }

-- after an addition's listing there is room in its row as before
pub addition_room : (l l' : Ledger) (F : Form) (p : ℕ) (r : Process) (stored : Bool) {i : ℕ}
    → kept_of l' ≡ addition_placed F p r stored (kept_of l) → RoomToStep (kept_of l).rows i → RoomToStep (numbers_of l'.rows.now) i
unfolding kept_of
addition_room l l' F p r stored e room =
    room_stays (numbers_of l'.rows.now) room (λ j n. ap (λ (x : Kept). x.rows j) e ∙ addition_beside F p r stored (kept_of l) j n)

-- and after a read's
pub read_room : (l l' : Ledger) (o : ℕ) {i : ℕ} → kept_of l' ≡ read_placed o (kept_of l) → RoomToStep (kept_of l).rows i → RoomToStep (numbers_of l'.rows.now) i
unfolding kept_of read_placed
read_room l l' o e room = room_stays (numbers_of l'.rows.now) room (λ j n. ap (λ (x : Kept). x.rows j) e ∙ ranked_beside _ _ _ j n)

-- ledgers that differ in their rows
module _ (l l' : Ledger) (c : counts_of l'.counts ≡ counts_of l.counts) (q : l'.waiters.now ≡ l.waiters.now) (e : l'.listed ≡ l.listed) where
  -- one more step in a row, with the greatest count of process p
  pub row_steps : (greatest : List ℕ) (p i : ℕ) (finished : Bool) (answer : ℕ) (second : Bool)
      → numbers_of l'.rows.now ≡ with_row (numbers_of l.rows.now) i (stepped_numbers (numbers_of l.rows.now) i finished (get_or greatest p 0) answer second)
      → kept_of l' ≡ row_then i finished (as_fun greatest p) answer second (kept_of l)
  unfolding kept_of row_then as_fun
  row_steps greatest p i finished answer second rows =
      kept_is c (λ i. queue_of (waiters_of (q i)) (e i).waiting) (λ i. (e i).rank) rows

  -- a row that starts
  pub row_starts : (m p kind : ℕ) (adds : Bool) → kind ≡ kind_of adds → numbers_of l'.rows.now ≡ with_row (numbers_of l.rows.now) m (fresh_numbers p kind)
      → kept_of l' ≡ kept_start m p (kind_of adds) (kept_of l)
  unfolding kept_of kept_start
  row_starts m p kind adds k rows =
      kept_is c (λ i. queue_of (waiters_of (q i)) (e i).waiting) (λ i. (e i).rank)
      (rows ∙ ap (λ (x : ℕ). with_row (numbers_of l.rows.now) m (fresh_numbers p x)) k)

pub kind_of_lem : (adds t : Bool) → adds ≡ t → cond t 3 2 ≡ kind_of adds
unfolding kind_of
kind_of_lem adds t e = rw e

-- the count of those busy fits a byte
pub count_fits : {n : ℕ} (s : ℕ → Bool) → n ≡ count_below 64 s → n ≤ 64
count_fits s e = omega (arith, e, count_le 64 s)

-- ---- the beginning

zero_rows : (n m i : ℕ) → as_rows (replicate n (replicate m 0)) i ≡ (λ (q : ℕ). zero)
unfolding as_rows
zero_rows zero m i = fun_zeros 0
zero_rows (suc n) m zero = fun_zeros m
zero_rows (suc n) m (suc i) = zero_rows n m i

pub begun : (l : Ledger) (c w : ℕ) → l.counts.in_nodes ≡ replicate c (replicate w 0) → l.counts.written ≡ replicate w 0 → l.listed ≡ record { waiting = 0; rank = 0 } → Begun (kept_of l)
unfolding kept_of counts_of levels queue_of
begun l c w a b e = record { counts = none_counted; queue = rw e; listed = rw e }
  where
    none_counted : (i q : ℕ) → levels l.counts.written l.counts.in_nodes i q ≡ 0
    none_counted zero q = rw b (ap (λ (f : ℕ → ℕ). f q) (fun_zeros w))
    none_counted (suc i) q = rw a (ap (λ (f : ℕ → ℕ). f q) (zero_rows c w i))

-- ---- a step: its listing, and one more step in the operation's row

module _ (F : Form) (p : ℕ) (r r' : Process) (stored : Bool) (contention : ℕ) (k : Kept) where
  pub addition_step_lem : r.adds ≡ true
      → kept_step F p r r' stored contention k ≡ row_then r.operation (eqb r'.step 0) contention 0 (second_link (spot_of F p r.step)) (addition_placed F p r stored k)
  unfolding kept_step addition_step addition_placed
  addition_step_lem e = rw e

  pub read_step_lem : r.adds ≡ false
      → kept_step F p r r' stored contention k ≡ row_then r.operation (eqb r'.step 0) contention r'.seen false (read_placed r.operation k)
  unfolding kept_step read_step read_placed
  read_step_lem e = rw e

-- whatever the arrays are, what is kept after the step is one
pub one_outcome : (F : Form) (p : ℕ) (r r' : Process) (stored : Bool) (contention : ℕ) (k : Kept) {a b : Kept}
    → a ≡ kept_step F p r r' stored contention k → b ≡ kept_step F p r r' stored contention k → a ≡ b
one_outcome F p r r' stored contention k x y = x ∙ sym y
