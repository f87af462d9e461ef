-- There is room for one more step: what keeping it asks follows from the agreement.
use Prim.Native.Nat.{ℕ, suc, ◌+◌, ◌*◌, ◌^◌, ◌≤◌, ◌<◌}
use native.Mathlib.Nat.{add-zero}
use native.Mathlib.Omega.{arith}
use mathlib.Core.Path.{◌≡◌, refl, sym, ap, ◌∙◌, subst}
use mathlib.Core.Bool.{Bool, true, false, cond, ◌&&◌, ◌||◌}
use mathlib.Core.List.{List, [], ◌∷◌, Memᴰ}
use lib.ListN.{length, get_or}
use lib.Dec.{eqb}
use lib.Pow.{pow_mono}
use borrow.Author.Tests.{eq-eqb, ne_eqb}
use Rattle.sets.specs.Processes.{count_below, is_in}
use Rattle.sets.proofs.Laws.{count_differ, count_le}
use Rattle.recording.specs.declared.Form.{Form as Told}
use Rattle.meaning.specs.Access.{is_leaf_write, component_of}
use Rattle.meaning.specs.Shape.{Form, formed}
use Rattle.meaning.specs.Layout.{longest_recording}
use Rattle.meaning.specs.Steps.{Process}
use Rattle.meaning.specs.Run.{Entry, State}
use Rattle.meaning.specs.Report.{one}
use Rattle.taken.specs.CountIn.{writes_to, count_in, Waiter, waiters}
use Rattle.taken.proofs.Agree.{written}
use Rattle.machine.specs.Arrays.{process_of, idle_record}
use Rattle.machine.specs.declared.Memory.{Memory as Nodes}
use Rattle.machine.specs.declared.Process.{Process as Record}
use Rattle.rows.specs.Rows.{head, row_numbers, RoomToStep, process_by, RoomToClose}
use Rattle.taken.proofs.Lists.{All, none, more, mem_keep}
use Rattle.ledger.specs.Kept.{Kept}
use Rattle.history.proofs.Good.{Good, at_most_one}
use Rattle.history.proofs.Did.{did, did_leaf}
use Rattle.history.proofs.Waiters.{waiter_writes}
use Rattle.ledger.proofs.Total.{acts, size, total_few, not_acted}
use Rattle.contention.proofs.Greatest.{shown_small}
use Rattle.keeping.specs.Keeping.{Lent, CanKeep}
use Rattle.keeping.proofs.Laws.{by_index}
use Rattle.engine.specs.Ends.{RoomFor}
use Rattle.engine.proofs.Agrees.{Agrees, LedgerAgrees, stepping, can_step}

all_of : {A : Type 0} (P : A → Type 0) (l : List A) → ((a : A) → Memᴰ a l → P a) → All P l
all_of P [] f = none
all_of P (a ∷ l) f = more (f a (Memᴰ.head refl)) (all_of P l (λ x m. f x (Memᴰ.tail m)))

writes_few : (q : ℕ) (es : List Entry) → writes_to q es ≤ length es
unfolding writes_to
writes_few q [] = omega arith
writes_few q (e ∷ es) = go (is_leaf_write e.access && eqb q (component_of e.access)) (writes_few q es)
  where
    go : (t : Bool) → writes_to q es ≤ length es → writes_to q es + cond t 1 0 ≤ suc (length es)
    go true l = omega arith
    go false l = omega arith

-- where one is missing, the count is less
count_less : (k p : ℕ) (s : ℕ → Bool) → p < k → s p ≡ false → count_below k s < k
count_less k p s b e =
    omega (arith, count_differ k p s (λ q. s q || eqb q p) b e (rw (eq-eqb p p refl) (or_all (s p))) (λ q n. rw (ne_eqb q p n) (or_none (s q))), count_le k (λ q. s q || eqb q p))
  where
    or_all : (t : Bool) → (t || true) ≡ true
    or_all true = refl
    or_all false = refl

    or_none : (t : Bool) → (t || false) ≡ t
    or_none true = refl
    or_none false = refl

leaf_count : (k : Kept) (h p : ℕ) (es : List Entry) → k.counts.in_node 0 p ≡ count_in h 0 p es → k.counts.in_node 0 p ≡ writes_to p es
unfolding count_in
leaf_count k h p es e = e

-- each row is of a process of 64, and has room for a contention
module _ (F : Form) (st : State) (k : Kept) (greatest : ℕ → ℕ) (g : Good F st) (L : LedgerAgrees F st k greatest) where
  head_small : (i : ℕ) → i < st.operations → k.rows (5 * i) < 64 * 2 ^ 24
  unfolding row_numbers head one
  head_small i b =
      let first = ap k.rows (sym (add-zero (5 * i))) ∙ L.keeps.rows i 0 b (omega arith) in
      omega (arith, first, at_most_one (st.row i).finished, g.owners i, g.sorts i, shown_small F st L.shown greatest g L.most i b)

  pub can_close : (m size : ℕ) → m ≡ st.operations → 64 ≤ size → RoomToClose k.rows m size
  unfolding process_by
  can_close m size same all = record { process = λ i b. omega (arith, head_small i (omega arith)); head = λ i b. omega (arith, head_small i (omega arith)) }

module _ (s : List ℕ) (form : Told) (at : ℕ) (st : State) (mem : Nodes) (ps : List Record) (set₀ m : ℕ) (k : Kept) (greatest : ℕ → ℕ) (l : Lent)
    (A : Agrees form at st mem ps set₀ m) (L : LedgerAgrees (formed form) st k greatest) (p : ℕ) (inside : p < 2 ^ form.height) (acting : is_in set₀ p ≡ true) (within : at ≤ length s)
    (short : length s ≤ longest_recording) (room : RoomFor s form.height l) (all : 64 ≤ l.processes) where
  -- there is a place for every operation that has started
  places : st.operations ≤ l.waiters
  places = subst (λ (n : ℕ). n ≤ l.waiters) A.operations (room.operations m (omega (arith, A.operations, A.good.few)) (omega (arith, A.started, within)))

  sizes : k.listed + length k.queue ≤ st.operations
  unfolding size
  sizes = total_few st k L.total

  -- the acting process's operation, when it has yet to write its leaf, is neither listed nor waiting
  sizes_less : (st.process p).step ≡ 2 → k.listed + length k.queue < st.operations
  unfolding size
  sizes_less two =
      let s = stepping form at st mem ps set₀ m A p inside acting in
      omega (
        arith,
        L.total.total,
        count_less st.operations (st.process p).operation (λ i. did acts i st.history) (A.good.owns p s.acts)
            (not_acted (st.process p).operation st.history (A.good.fresh p s.acts (λ e. omega arith)) (A.good.unread p s.acts)),
      )

  its : process_of (get_or ps p idle_record) ≡ st.process p
  its = ap (λ (f : ℕ → Process). f p) A.procs

  its_step : (get_or ps p idle_record).step ≡ (st.process p).step
  unfolding process_of
  its_step = ap (λ (x : Process). x.step) its

  its_operation : (get_or ps p idle_record).operation ≡ (st.process p).operation
  unfolding process_of
  its_operation = ap (λ (x : Process). x.operation) its

  room_to_write : k.counts.in_node 0 p < 65535
  room_to_write = omega (arith, leaf_count k form.height p st.history (L.keeps.counts.in_node 0 p (omega arith) inside), writes_few p st.history, A.place, within, short)

  waiters_known : (w : Waiter) → Memᴰ w k.queue → w.operation < l.waiters
  waiters_known w n =
      let waits = mem_keep _ (waiters st.history) (subst (Memᴰ w) L.keeps.queue n) in
      omega (
        arith,
        places,
        A.good.known is_leaf_write w.operation (sym (did_leaf w.operation st.history) ∙ written (waiter_writes st.history w waits.0)),
      )

  room_in_row : RoomToStep k.rows (get_or ps p idle_record).operation
  unfolding row_numbers
  room_in_row = subst (λ (o : ℕ). RoomToStep k.rows o) (sym its_operation) at_row
    where
      o : ℕ
      o = (st.process p).operation

      started : o < st.operations
      started = A.good.owns p (stepping form at st mem ps set₀ m A p inside acting).acts

      at_row : RoomToStep k.rows o
      at_row =
          record {
            row = omega (arith, started, A.good.few);
            head = omega (arith, head_small (formed form) st k greatest A.good L o started);
            steps = omega (arith, L.keeps.rows o 1 started (omega arith), A.good.steps o, A.place, within, short);
            seconds = omega (arith, L.keeps.rows o 4 started (omega arith), A.good.seconds o, A.place, within, short);
          }

  pub can_keep : (stored : Bool) → ((get_or ps p idle_record).step ≡ 2 → stored ≡ false) → CanKeep form p (get_or ps p idle_record) stored l k
  can_keep stored still =
      record {
        known = A.known;
        process = inside;
        reader = omega (arith, inside, room.readers);
        most = omega (arith, inside, pow_mono A.good.high);
        last = (can_step form at st mem ps set₀ m A p inside acting).last;
        still = still;
        written = room_to_write;
        enough = room.enough;
        queue = omega (arith, sizes, places);
        operations = by_index k.queue (all_of (λ w. w.operation < l.waiters) k.queue waiters_known);
        all_ranks = omega (arith, sizes, A.good.few);
        operation = omega (arith, its_operation, A.good.owns p (stepping form at st mem ps set₀ m A p inside acting).acts, places);
        waiting = λ two. omega (arith, sizes_less (sym its_step ∙ two), places);
        ranks = omega (arith, sizes, A.good.few);
        row = room_in_row;
      }

-- the room stays where as much is lent
pub room_as : (s : List ℕ) (h : ℕ) {l l' : Lent} → l' ≡ l → RoomFor s h l × (64 ≤ l.processes) → RoomFor s h l' × (64 ≤ l'.processes)
room_as s h e = subst (λ (x : Lent). RoomFor s h x × (64 ≤ x.processes)) (sym e)
