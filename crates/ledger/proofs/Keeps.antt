-- What the replay keeps is what the definitions say: the counts, the queue, the number of those listed and the rows, through every record.
use Prim.Native.Nat.{ℕ, zero, suc, ◌+◌, ◌-◌, ◌^◌, max, ◌≤◌, ◌<◌}
use native.Mathlib.Nat.{add-zero}
use native.Mathlib.Omega.{arith}
use mathlib.Core.Path.{◌≡◌, refl, sym, ap, ap₂, ◌∙◌, subst}
use mathlib.Core.Logic.{⊎_elim}
use mathlib.Core.Bool.{Bool, true, false, not, cond, ◌&&◌, and-false}
use mathlib.Core.List.Memᴰ
use mathlib.Core.List.{List, [], ◌∷◌, ◌++◌, append-nil, Memᴰ}
use lib.ListN.{length, length-map}
use lib.Dec.{eqb, ltb}
use borrow.Author.Tests.{ne_eqb, eqb-false, le-ltb}
use Rattle.meaning.specs.Tree.{leaf_of, ancestor}
use Rattle.meaning.specs.Access.{Access, starts, reads_root, reads_leaf, writes_leaf, links, reads, stores, first, second, is_leaf_write, component_of, is_root_read, is_second_link, is_store_at}
use Rattle.meaning.specs.Shape.{Form}
use Rattle.meaning.specs.Steps.{upd, Memory, Process, effect, onward}
use Rattle.meaning.specs.Run.{Entry, State, initial, kind_of, new_row, start, most_operations, take_step, row_after}
use Rattle.meaning.specs.TakenIn.{before_read, keep, placed, listed, rank}
use Rattle.taken.specs.CountIn.{writes_to, count_in, Waiter, waiter_of, waiters, is_counted, operations_of}
use Rattle.taken.proofs.Agree.{Once, written}
use Rattle.taken.proofs.Lists.{keep_append, Distinct, nothing, another, mem_keep, keep_same, mem_operations, absent}
use Rattle.spots.specs.Spot.{Spot, attempt_at, spot_of, node_of, At}
use Rattle.spots.proofs.Laws.{spot_early, width_is, at_late, spot_at}
use Rattle.counts.specs.Counts.{Counts, counts_after}
use Rattle.rows.specs.Rows.{with_row, stepped_numbers}
use Rattle.listing.specs.Queue.{ranked}
use Rattle.history.proofs.Turns.{Turn, root, leaf, write, link, group, store, first_spot, reads_the_root, reads_no_root, false_true}
use Rattle.history.proofs.Did.{did_leaf, did_not}
use Rattle.history.proofs.Good.{Good, Stepping, access_by, effect_by, record_after, entry_by, begins_by, turns, leaf_write_is, good_step, good_start}
use Rattle.history.proofs.Levels.{same_level}
use Rattle.history.proofs.Counting.{count_still, count_unstored, count_stored}
use Rattle.history.proofs.Waiters.{NewOrOld, old, new, new_or_old, root_count, waiter_writes, distinct_waiters, count_cap, newly, placed_is}
use Rattle.history.proofs.Listing.{IsListed, read, taken, who_is_listed, placed_read, waiting_of, placed_queue, waiting_still, waiting_write, none_counted, all_wait, length-listed}
use Rattle.history.proofs.Placed.{unlisted, read_unlisted}
use Rattle.ledger.specs.Kept.{Kept, at_root, second_link, queue_then, list_then, wait_then, row_then, read_step, addition_step, kept_step, kept_start}
use Rattle.ledger.proofs.Counted.{Counted, counted_step, counted_start, counted_initial, then_read, then_addition}
use Rattle.ledger.proofs.Numbers.{Numbers, shown_after, numbers_listed, numbers_stepped, numbers_started}
use Rattle.spots.proofs.Shapes.{opened_two}

-- shown: the contentions that the rows have
pub record Keeps (F : Form) (st : State) (shown : ℕ → ℕ) (k : Kept) : Type 0 where
  pub counts : Counted F st k.counts
  pub queue : k.queue ≡ waiting_of F st.history
  pub listing : k.listed ≡ length (listed F st.history)
  pub rows : Numbers F st.operations st.row shown st.history k.rows
  -- each leaf write was to a component of the tree
  pub writers : (w : Waiter) → Memᴰ w (waiters st.history) → w.component < 2 ^ F.height

operations_long : (l : List Waiter) → length (operations_of l) ≡ length l
unfolding operations_of
operations_long l = length-map l (λ w. w.operation)

-- what is kept after a listing of the waiters a, where b wait on
abbrev listing_of : List Waiter → List Waiter → Counts → Kept → Kept
listing_of a b c k = record { counts = c; queue = b; listed = k.listed + length a; rows = ranked (operations_of a) k.listed k.rows }

list_is : (f : ℕ → ℕ) (ws : List Waiter) (c : Counts) (k : Kept) {a b : List Waiter} → keep (is_counted f) ws ≡ a → keep (λ w. not (is_counted f w)) ws ≡ b
    → list_then f ws c k ≡ listing_of a b c k
unfolding list_then
list_is f ws c k x y = ap₂ (λ (a b : List Waiter). listing_of a b c k) x y

list_same : (f g : ℕ → ℕ) (ws : List Waiter) (c : Counts) (k : Kept) → keep (is_counted f) ws ≡ keep (is_counted g) ws
    → keep (λ w. not (is_counted f w)) ws ≡ keep (λ w. not (is_counted g w)) ws → list_then f ws c k ≡ list_then g ws c k
list_same f g ws c k x y = list_is f ws c k x y ∙ sym (list_is g ws c k refl refl)

wait_is : (ws : List Waiter) (c : Counts) (k : Kept) → wait_then ws c k ≡ listing_of [] ws c k
unfolding wait_then ranked operations_of
wait_is ws c k = ap (λ (n : ℕ). record { counts = c; queue = ws; listed = n; rows = k.rows }) (sym (add-zero k.listed))

count_same : (f g : ℕ → ℕ) (w : Waiter) → f w.component ≡ g w.component → is_counted f w ≡ is_counted g w
unfolding is_counted
count_same f g w e = ap (λ (n : ℕ). ltb w.turn n) e

abbrev did_store : Form → ℕ → Process → Memory → Access → Bool
did_store F p r m a = (effect F p r m a).stored

leaf_write_unstored : (F : Form) (p : ℕ) (r : Process) (m : Memory) (a : Access) → is_leaf_write a ≡ true → (effect F p r m a).stored ≡ false
unfolding is_leaf_write effect onward
leaf_write_unstored F p r m starts w = refl
leaf_write_unstored F p r m reads_root w = refl
leaf_write_unstored F p r m (reads_leaf c) w = refl
leaf_write_unstored F p r m (writes_leaf c) w = refl
leaf_write_unstored F p r m (links a x) w = refl
leaf_write_unstored F p r m (reads x from count) w = refl
leaf_write_unstored F p r m (stores a x) w = absurd (false_true w)

-- ---- what a step is, by its number and its spot

module _ (F : Form) (p : ℕ) (st : State) (s : Stepping F p st) where
  late : {σ : Spot} → At F p (st.process p).step σ → 3 ≤ (st.process p).step
  late {σ} at = omega (arith, at_late F p (st.process p).step σ at, opened_two F p s.good.lawful)

  early : (st.process p).step ≤ 2 → spot_of F p (st.process p).step ≡ first_spot
  early b = spot_early F p (st.process p).step s.good.low (omega (arith, opened_two F p s.good.lawful))

  second_case : {a : Access} → Turn F p (st.process p) st.memory (record_after F p st).step a → (st.process p).adds ≡ true
      → second_link (spot_of F p (st.process p).step) ≡ is_second_link a
  unfolding second_link is_second_link attempt_at node_of
  second_case (root e w z) d = absurd (false_true (sym e ∙ d))
  second_case (leaf e w z) d = rw (early (omega arith))
  second_case (write e w z n) d = rw (early (omega arith))
  second_case (link e σ at w n) d = rw (spot_at F p (st.process p).step σ at, w) (go σ.second)
    where
      go : (b : Bool) → (b && true) ≡ is_second_link (links (cond b second first) (node_of F p σ))
      go true = refl
      go false = refl
  second_case (group e σ at i b w n) d = rw (spot_at F p (st.process p).step σ at, ne_eqb σ.position 0 (λ z. omega arith)) (and-false σ.second)
  second_case (store e σ at w n) d =
      rw (spot_at F p (st.process p).step σ at, ne_eqb σ.position 0 (λ z. omega (arith, w, width_is F (node_of F p σ)))) (and-false σ.second)

  pub write_case : {a : Access} → Turn F p (st.process p) st.memory (record_after F p st).step a → (st.process p).adds ≡ true
      → eqb (st.process p).step 2 ≡ is_leaf_write a
  unfolding is_leaf_write
  write_case (root e w z) d = absurd (false_true (sym e ∙ d))
  write_case (leaf e w z) d = rw w
  write_case (write e w z n) d = rw w
  write_case (link e σ at w n) d = ne_eqb (st.process p).step 2 (λ y. omega (arith, late at))
  write_case (group e σ at i b w n) d = ne_eqb (st.process p).step 2 (λ y. omega (arith, late at))
  write_case (store e σ at w n) d = ne_eqb (st.process p).step 2 (λ y. omega (arith, late at))

module _ (F : Form) (p : ℕ) (st : State) (s : Stepping F p st) (shown : ℕ → ℕ) (k : Kept) (K : Keeps F st shown k) where
  e : Entry
  e = entry_by F p st

  once : Once (entry_by F p st ∷ st.history)
  unfolding take_step
  once = (good_step F p st s).once

  -- a leaf write is to the process's own component
  own_leaf : is_leaf_write (access_by F p st) ≡ true → component_of (access_by F p st) ≡ p
  own_leaf d = (leaf_write_is F p st s (turns F p st s) d).2

  writers_step : (w : Waiter) → Memᴰ w (waiters (entry_by F p st ∷ st.history)) → w.component < 2 ^ F.height
  unfolding waiter_of
  writers_step w m = go (new_or_old (entry_by F p st) st.history w m)
    where
      go : NewOrOld (entry_by F p st) st.history w → w.component < 2 ^ F.height
      go (old n) = K.writers w n
      go (new d x) = rw (ap (λ (v : Waiter). v.component) x, own_leaf d) s.inside

  -- ---- a read's one step

  -- nothing is counted that was not before
  Uncounted : Type 0
  Uncounted = (w : Waiter) → Memᴰ w (waiting_of F st.history) → is_counted (root_count F (entry_by F p st ∷ st.history)) w ≡ false

  same_count_uncounted : ((q : ℕ) → q < 2 ^ F.height → root_count F (entry_by F p st ∷ st.history) q ≡ root_count F st.history q)
      → (w : Waiter) → Memᴰ w (waiting_of F st.history) → is_counted (root_count F (entry_by F p st ∷ st.history)) w ≡ false
  unfolding is_counted
  same_count_uncounted same w m =
      let its = mem_keep _ (waiters st.history) m in
      ap (λ (n : ℕ). ltb w.turn n) (same w.component (K.writers w its.0)) ∙ not_true _ its.1
    where
      not_true : (t : Bool) → not t ≡ true → t ≡ false
      not_true true d = sym d
      not_true false d = refl

  -- an access that is no successful SC changes no count at node 1
  unstored_count : (effect_by F p st).stored ≡ false → (q : ℕ) → root_count F (entry_by F p st ∷ st.history) q ≡ root_count F st.history q
  unstored_count n q = go F.height refl
    where
      go : (m : ℕ) → F.height ≡ m → root_count F (entry_by F p st ∷ st.history) q ≡ root_count F st.history q
      go zero d = absurd (omega (arith, s.good.low))
      go (suc m) d =
          subst (λ (l : ℕ). count_in F.height l q (entry_by F p st ∷ st.history) ≡ count_in F.height l q st.history) (sym d) (count_unstored F.height (entry_by F p st) st.history n m q)

  -- the contentions shown after the step
  abbrev pub shown_then : ℕ → ℕ → ℕ
  shown_then contention = upd shown (st.process p).operation (shown_after (record_after F p st) contention)

  -- the rows after a listing of ps and the step
  step_row : (ps : List ℕ) → placed F (entry_by F p st) st.history ≡ ps → Distinct ps → ((i : ℕ) → Memᴰ i ps → Memᴰ i (listed F st.history) → ⊥)
      → (none : shown (st.process p).operation ≡ 0) (contention answer : ℕ) (second : Bool) → answer ≡ cond (is_root_read (access_by F p st)) (record_after F p st).seen 0 → second ≡ is_second_link (access_by F p st)
      → Numbers F st.operations (upd st.row (st.process p).operation (row_after (access_by F p st) (record_after F p st) (length st.history) (st.row (st.process p).operation)))
      (shown_then contention) (entry_by F p st ∷ st.history)
      (with_row (ranked ps k.listed k.rows) (st.process p).operation (stepped_numbers (ranked ps k.listed k.rows) (st.process p).operation (eqb (record_after F p st).step 0) contention answer second))
  step_row ps is apart fresh none contention answer again says counts =
      let listed_now = numbers_listed F st.operations st.row shown (entry_by F p st) st.history ps is apart fresh k.rows K.rows in
      numbers_stepped F st.operations st.row shown (entry_by F p st ∷ st.history) (ranked ps k.listed k.rows)
      (subst (λ (n : ℕ). Numbers F st.operations st.row shown (entry_by F p st ∷ st.history) (ranked ps n k.rows)) (sym K.listing) listed_now)
      (st.process p).operation (s.good.owns p s.acts) (s.good.unfinished p s.acts) none (access_by F p st) (record_after F p st) (length st.history) contention answer again says counts

  read_case : (none : shown (st.process p).operation ≡ 0) (contention : ℕ) → (st.process p).adds ≡ false → access_by F p st ≡ reads_root
      → Keeps F (take_step F p st) (shown_then contention) (read_step (st.process p) (record_after F p st) contention k)
  unfolding take_step read_step row_then is_leaf_write is_root_read is_second_link effect onward
  read_case none contention reading is =
      let o = (st.process p).operation in
      let is_read : is_root_read (access_by F p st) ≡ true = ap is_root_read is in
      let ps = placed_read F (entry_by F p st) st.history is_read in
      let apart : Distinct (o ∷ []) = another (absent o [] (λ m. Memᴰ.not-nil m)) nothing in
      let quiet = unstored_count (ap (λ (a : Access). (effect F p (st.process p) st.memory a).stored) is) in
      record {
        counts = subst (Counted F (take_step F p st)) (then_read F p (st.process p) (effect_by F p st).stored k.counts reading) (counted_step F p st s k.counts K.counts);
        queue = K.queue ∙ sym (waiting_still F (entry_by F p st) st.history once (ap is_leaf_write is) ∙ all_wait F (entry_by F p st) st.history _ (same_count_uncounted (λ q b. quiet q)));
        listing = omega (arith, K.listing, length-listed F (entry_by F p st) st.history (o ∷ []) ps);
        rows = step_row (o ∷ []) ps apart (read_unlisted F p st s reading) none contention (record_after F p st).seen false (ap (λ (t : Bool). cond t (record_after F p st).seen 0) (sym is_read)) (sym (ap is_second_link is));
        writers = writers_step;
      }

  -- ---- a step of an addition

  -- the queue with a new leaf write
  abbrev joined_queue : List Waiter
  joined_queue = waiting_of F st.history ++ cond (is_leaf_write (access_by F p st)) (waiter_of (entry_by F p st) st.history ∷ []) []

  -- a new leaf write is not counted at node 1
  new_uncounted : (effect_by F p st).stored ≡ false → is_counted (root_count F (entry_by F p st ∷ st.history)) (waiter_of (entry_by F p st) st.history) ≡ false
  unfolding is_counted waiter_of
  new_uncounted n =
      let c = component_of (access_by F p st) in
      le-ltb (writes_to c st.history) (root_count F (entry_by F p st ∷ st.history) c) (omega (arith, unstored_count n c, count_cap F.height F.height c st.history))

  -- a leaf write is no store
  write_unstored : is_leaf_write (access_by F p st) ≡ true → (effect_by F p st).stored ≡ false
  write_unstored w = leaf_write_unstored F p (st.process p) st.memory (access_by F p st) w

  abbrev now : Waiter → Bool
  now = is_counted (root_count F (entry_by F p st ∷ st.history))

  -- those of the queue that are counted now are what the step lists; a new leaf write is none of them
  now_listed : keep now joined_queue ≡ keep now (waiting_of F st.history)
  unfolding keep
  now_listed = keep_append now (waiting_of F st.history) _ ∙ ap (λ (l : List Waiter). keep now (waiting_of F st.history) ++ l) (go (is_leaf_write (access_by F p st)) refl) ∙ append-nil _
    where
      go : (t : Bool) → is_leaf_write (access_by F p st) ≡ t → keep now (cond t (waiter_of (entry_by F p st) st.history ∷ []) []) ≡ []
      go true w = rw (new_uncounted (write_unstored w))
      go false w = refl

  wait_on : waiting_of F (entry_by F p st ∷ st.history) ≡ keep (λ w. not (now w)) joined_queue
  wait_on = go (is_leaf_write (access_by F p st)) refl
    where
      go : (t : Bool) → is_leaf_write (access_by F p st) ≡ t → waiting_of F (entry_by F p st ∷ st.history) ≡ keep (λ w. not (now w)) (waiting_of F st.history ++ cond t (waiter_of (entry_by F p st) st.history ∷ []) [])
      go true w = waiting_write F (entry_by F p st) st.history once w
      go false w = waiting_still F (entry_by F p st) st.history once w ∙ ap (keep (λ w. not (now w))) (sym (append-nil (waiting_of F st.history)))

  module _ (adding : (st.process p).adds ≡ true) (no_read : is_root_read (access_by F p st) ≡ false) where
    lists : placed F (entry_by F p st) st.history ≡ operations_of (keep now joined_queue)
    lists = placed_queue F (entry_by F p st) st.history once no_read ∙ ap operations_of (sym now_listed)

    told_apart : Distinct (operations_of (keep now joined_queue))
    told_apart =
        subst Distinct (sym (placed_is F (entry_by F p st) st.history once no_read) ∙ lists)
        (distinct_waiters (newly F (entry_by F p st) st.history once) st.history s.good.once)

    new_to_list : (i : ℕ) → Memᴰ i (operations_of (keep now joined_queue)) → Memᴰ i (listed F st.history) → ⊥
    new_to_list i m l =
        let r = mem_operations (keep now (waiting_of F st.history)) (subst (λ (x : List Waiter). Memᴰ i (operations_of x)) now_listed m) in
        unlisted F p st s r.0 (mem_keep now (waiting_of F st.history) r.1).0 (subst (λ (x : ℕ). Memᴰ x (listed F st.history)) (sym r.2) l)

    -- as if every step listed
    addition_lists : (none : shown (st.process p).operation ≡ 0) (contention : ℕ) (c : Counts) → Counted F (take_step F p st) c
        → Keeps F (take_step F p st) (shown_then contention)
        (row_then (st.process p).operation (eqb (record_after F p st).step 0) contention 0 (is_second_link (access_by F p st)) (list_then (root_count F (entry_by F p st ∷ st.history)) joined_queue c k))
    unfolding take_step row_then list_then
    addition_lists none contention c C =
        record {
          counts = record { in_node = C.in_node; reads = C.reads };
          queue = sym wait_on;
          listing = omega (arith, K.listing, length-listed F (entry_by F p st) st.history _ lists, operations_long (keep now joined_queue));
          rows = step_row (operations_of (keep now joined_queue)) lists told_apart new_to_list none contention 0 (is_second_link (access_by F p st)) (sym (ap (λ (t : Bool). cond t (record_after F p st).seen 0) no_read)) refl;
          writers = writers_step;
        }

  -- ---- by the spot, as the code goes

  queue_is : (st.process p).adds ≡ true → queue_then p (st.process p) k ≡ joined_queue
  unfolding queue_then waiter_of count_in
  queue_is d = ap₂ (λ (a b : List Waiter). a ++ b) K.queue (go (is_leaf_write (access_by F p st)) refl)
    where
      -- it is put in by the process's number, and waits by its component's
      its : ℕ → ℕ → Waiter
      its c n = record { operation = (st.process p).operation; component = c; turn = n }

      go : (t : Bool) → is_leaf_write (access_by F p st) ≡ t
          → cond (eqb (st.process p).step 2) (its p (k.counts.in_node 0 p) ∷ []) [] ≡ cond t (waiter_of (entry_by F p st) st.history ∷ []) []
      go true w =
          rw (write_case F p st s (turns F p st s) d ∙ w)
          (ap₂ (λ (c n : ℕ). its c n ∷ []) (sym (own_leaf w)) (K.counts.in_node 0 p (omega arith) s.inside ∙ ap (λ (c : ℕ). writes_to c st.history) (sym (own_leaf w))))
      go false w = rw (write_case F p st s (turns F p st s) d ∙ w)

  -- an SC below node 1 changes no count there
  below_root : {a : Access} → Turn F p (st.process p) st.memory (record_after F p st).step a → access_by F p st ≡ a → (effect_by F p st).stored ≡ true
      → (suc (spot_of F p (st.process p).step).level ≡ F.height → ⊥)
      → (q : ℕ) → q < 2 ^ F.height → root_count F (entry_by F p st ∷ st.history) q ≡ root_count F st.history q
  unfolding effect onward is_store_at node_of
  below_root (root e w z) eq ok b q x = absurd (false_true (sym (ap (did_store F p (st.process p) st.memory) eq) ∙ ok))
  below_root (leaf e w z) eq ok b q x = absurd (false_true (sym (ap (did_store F p (st.process p) st.memory) eq) ∙ ok))
  below_root (write e w z n) eq ok b q x = absurd (false_true (sym (ap (did_store F p (st.process p) st.memory) eq) ∙ ok))
  below_root (link e σ at w n) eq ok b q x = absurd (false_true (sym (ap (did_store F p (st.process p) st.memory) eq) ∙ ok))
  below_root (group e σ at i l w n) eq ok b q x = absurd (false_true (sym (ap (did_store F p (st.process p) st.memory) eq) ∙ ok))
  below_root (store e σ at w n) eq ok b q x = go F.height refl
    where
      h : ℕ
      h = F.height

      top : suc σ.level ≡ h → ⊥
      top = subst (λ (τ : Spot). suc τ.level ≡ F.height → ⊥) (spot_at F p (st.process p).step σ at) b

      go : (m : ℕ) → F.height ≡ m → root_count F (entry_by F p st ∷ st.history) q ≡ root_count F st.history q
      go zero d = absurd (omega (arith, s.good.low))
      go (suc m) d =
          subst (λ (n : ℕ). count_in h n q (entry_by F p st ∷ st.history) ≡ count_in h n q st.history) (sym d)
          (count_stored h (entry_by F p st) st.history m q (node_of F p σ) (ap (is_store_at (ancestor (suc m) (leaf_of h q))) eq) ok
          ∙ ap (λ (t : Bool). cond t (max (count_in h (suc m) q st.history) (count_in h m q (before_read p (ancestor m (leaf_of h q)) st.history))) (count_in h (suc m) q st.history))
          (ne_eqb (ancestor (suc m) (leaf_of h q)) (node_of F p σ)
          (λ y. top (sym (same_level h 0 (suc m) (h - suc σ.level) (suc σ.level) q p (omega arith) (omega (arith, at.level)) x s.inside y) ∙ sym d))))

  -- all of the queue are of components of the tree
  queue_writers : (w : Waiter) → Memᴰ w joined_queue → w.component < 2 ^ F.height
  unfolding waiter_of
  queue_writers w m =
      ⊎_elim (λ x. K.writers w (mem_keep _ (waiters st.history) x).0) (λ x. fresh (is_leaf_write (access_by F p st)) refl x) (Memᴰ.append_cases (waiting_of F st.history) m)
    where
      fresh : (t : Bool) → is_leaf_write (access_by F p st) ≡ t → Memᴰ w (cond t (waiter_of (entry_by F p st) st.history ∷ []) []) → w.component < 2 ^ F.height
      fresh true d x = rw (ap (λ (v : Waiter). v.component) (Memᴰ.eq_of_singleton x), own_leaf d) s.inside
      fresh false d x = absurd (Memᴰ.not-nil x)

  -- where the step is no store at node 1, nothing of the queue is counted
  root_unchanged : at_root F (spot_of F p (st.process p).step) (effect_by F p st).stored ≡ false → (w : Waiter) → Memᴰ w joined_queue → now w ≡ false
  unfolding at_root
  root_unchanged n w m = ⊎_elim (same_count_uncounted (go (effect_by F p st).stored refl n) w) (λ x. fresh (is_leaf_write (access_by F p st)) refl x) (Memᴰ.append_cases (waiting_of F st.history) m)
    where
      go : (t : Bool) → (effect_by F p st).stored ≡ t → (t && eqb (suc (spot_of F p (st.process p).step).level) F.height) ≡ false
          → (q : ℕ) → q < 2 ^ F.height → root_count F (entry_by F p st ∷ st.history) q ≡ root_count F st.history q
      go true ok d q b = below_root (turns F p st s) refl ok (eqb-false (suc (spot_of F p (st.process p).step).level) F.height d) q b
      go false ok d q b = unstored_count ok q

      fresh : (t : Bool) → is_leaf_write (access_by F p st) ≡ t → Memᴰ w (cond t (waiter_of (entry_by F p st) st.history ∷ []) []) → now w ≡ false
      fresh true k x = ap now (Memᴰ.eq_of_singleton x) ∙ new_uncounted (write_unstored k)
      fresh false k x = absurd (Memᴰ.not-nil x)

  -- so listing every time and listing at node 1 alone are the same
  lists_or_waits : (c : Counts) → Counted F (take_step F p st) c
      → cond (at_root F (spot_of F p (st.process p).step) (effect_by F p st).stored) (list_then (c.in_node F.height) joined_queue c k) (wait_then joined_queue c k)
      ≡ list_then (root_count F (entry_by F p st ∷ st.history)) joined_queue c k
  unfolding take_step
  lists_or_waits c C = go (at_root F (spot_of F p (st.process p).step) (effect_by F p st).stored) refl
    where
      same : (w : Waiter) → Memᴰ w joined_queue → is_counted (c.in_node F.height) w ≡ now w
      same w m = count_same (c.in_node F.height) (root_count F (entry_by F p st ∷ st.history)) w (C.in_node F.height w.component (omega arith) (queue_writers w m))

      go : (t : Bool) → at_root F (spot_of F p (st.process p).step) (effect_by F p st).stored ≡ t
          → cond t (list_then (c.in_node F.height) joined_queue c k) (wait_then joined_queue c k) ≡ list_then (root_count F (entry_by F p st ∷ st.history)) joined_queue c k
      go true d = list_same _ _ joined_queue c k (keep_same _ _ joined_queue same) (keep_same _ _ joined_queue (λ w m. ap not (same w m)))
      go false d =
          wait_is joined_queue c k
          ∙ sym (list_is _ joined_queue c k (none_counted F (entry_by F p st) st.history joined_queue (root_unchanged d)) (all_wait F (entry_by F p st) st.history joined_queue (root_unchanged d)))

  addition_case : (none : shown (st.process p).operation ≡ 0) (contention : ℕ) → (st.process p).adds ≡ true
      → Keeps F (take_step F p st) (shown_then contention) (addition_step F p (st.process p) (record_after F p st) (effect_by F p st).stored contention k)
  unfolding addition_step
  addition_case none contention adding =
      let c = counts_after F p (st.process p).step (spot_of F p (st.process p).step) (effect_by F p st).stored k.counts in
      let C = subst (Counted F (take_step F p st)) (then_addition F p (st.process p) (effect_by F p st).stored k.counts adding) (counted_step F p st s k.counts K.counts) in
      rw (queue_is adding, second_case F p st s (turns F p st s) adding, lists_or_waits c C) (addition_lists adding (reads_no_root (turns F p st s) adding) none contention c C)

  pub keeps_step : (none : shown (st.process p).operation ≡ 0) (contention : ℕ)
      → Keeps F (take_step F p st) (shown_then contention) (kept_step F p (st.process p) (record_after F p st) (effect_by F p st).stored contention k)
  unfolding kept_step
  keeps_step none contention = go (st.process p).adds refl
    where
      go : (t : Bool) → (st.process p).adds ≡ t
          → Keeps F (take_step F p st) (shown_then contention)
          (cond t (addition_step F p (st.process p) (record_after F p st) (effect_by F p st).stored contention k) (read_step (st.process p) (record_after F p st) contention k))
      go true d = addition_case none contention d
      go false d = read_case none contention d (reads_the_root (turns F p st s) d)

-- ---- a start, and the beginning

module _ (F : Form) (p : ℕ) (adds : Bool) (delta : ℕ) (st : State) (g : Good F st) (inside : p < 2 ^ F.height) (free : (st.process p).step ≡ 0) (room : st.operations < most_operations) (shown : ℕ → ℕ) (k : Kept) (K : Keeps F st shown k) where
  abbrev begun : Entry
  begun = begins_by F p adds delta st

  -- the new operation is not listed, and nothing else is listed by its start
  start_once : Once (begun ∷ st.history)
  unfolding start
  start_once = (good_start F p adds delta st g inside free room).once

  start_count : (q : ℕ) → root_count F (begun ∷ st.history) q ≡ root_count F st.history q
  unfolding is_leaf_write
  start_count q = count_still F.height begun st.history refl refl F.height q

  start_uncounted : (w : Waiter) → Memᴰ w (waiting_of F st.history) → is_counted (root_count F (begun ∷ st.history)) w ≡ false
  start_uncounted w m = count_same (root_count F (begun ∷ st.history)) (root_count F st.history) w (start_count w.component) ∙ not_true _ (mem_keep _ (waiters st.history) m).1
    where
      not_true : (t : Bool) → not t ≡ true → t ≡ false
      not_true true d = sym d
      not_true false d = refl

  start_lists : placed F begun st.history ≡ []
  unfolding start is_root_read operations_of
  start_lists =
      placed_queue F begun st.history start_once refl ∙ ap operations_of (none_counted F begun st.history (waiting_of F st.history) start_uncounted)

  unlisted_yet : Memᴰ st.operations (listed F (begun ∷ st.history)) → ⊥
  unfolding is_leaf_write is_root_read
  unlisted_yet m = go (who_is_listed F (begun ∷ st.history) start_once st.operations m)
    where
      still : (w : Waiter) → NewOrOld begun st.history w → Memᴰ w (waiters st.history)
      still w (old n) = n
      still w (new d x) = absurd (false_true d)

      go : IsListed F (begun ∷ st.history) st.operations → ⊥
      go (read d) = omega (arith, g.known is_root_read st.operations (sym (did_not is_root_read st.operations begun st.history refl) ∙ d))
      go (taken w n i c) =
          omega (arith, g.known is_leaf_write w.operation (sym (did_leaf w.operation st.history) ∙ written (waiter_writes st.history w (still w (new_or_old begun st.history w n)))))

  pub keeps_start : Keeps F (start F p adds delta st) (upd shown st.operations 0) (kept_start st.operations p (kind_of adds) k)
  unfolding start kept_start new_row is_leaf_write is_root_read ranked rank
  keeps_start =
      record {
        counts = counted_start F p adds delta st g inside free room k.counts K.counts;
        queue = K.queue ∙ sym (waiting_still F begun st.history start_once refl ∙ all_wait F begun st.history _ start_uncounted);
        listing = omega (arith, K.listing, length-listed F begun st.history [] start_lists);
        rows =
            numbers_started F st.operations st.row shown (begun ∷ st.history) k.rows
            (numbers_listed F st.operations st.row shown begun st.history [] start_lists nothing (λ i m l. Memᴰ.not-nil m) k.rows K.rows) _ refl refl refl refl
            (absent st.operations (listed F (begun ∷ st.history)) unlisted_yet);
        writers = λ w m. start_writers w (new_or_old begun st.history w m);
      }
    where
      start_writers : (w : Waiter) → NewOrOld begun st.history w → w.component < 2 ^ F.height
      start_writers w (old n) = K.writers w n
      start_writers w (new d x) = absurd (false_true d)

pub keeps_initial : (F : Form) (shown : ℕ → ℕ) (k : Kept) → ((l q : ℕ) → k.counts.in_node l q ≡ 0) → k.queue ≡ [] → k.listed ≡ 0 → Keeps F (initial F) shown k
unfolding initial waiters keep listed
keeps_initial F shown k zeros empty none =
    record {
      counts = counted_initial F k.counts zeros;
      queue = empty;
      listing = none;
      rows = λ i j b c. absurd (omega arith);
      writers = λ w m. absurd (Memᴰ.not-nil m);
    }
