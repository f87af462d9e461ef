-- Listed and waiting operations together are those that have written their leaf or read the root, so that there are at most as many as have
-- started: the queue and the ranks have room.
use Prim.Native.Nat.{ℕ, ◌+◌, ◌≤◌}
use native.Mathlib.Nat.{add-zero}
use native.Mathlib.Omega.{arith}
use mathlib.Core.Path.{◌≡◌, refl, sym, ap, ap₂, ◌∙◌}
use mathlib.Core.Bool.{Bool, true, false, cond, ◌&&◌, ◌||◌}
use mathlib.Core.List.{List, [], ◌∷◌}
use lib.ListN.{length, length-append}
use lib.Dec.{eqb}
use borrow.Author.Tests.{eq-eqb}
use Rattle.sets.specs.Processes.{count_below}
use Rattle.sets.proofs.Laws.{count_differ, count_same, count_le}
use Rattle.meaning.specs.Shape.{Form}
use Rattle.meaning.specs.Access.{Access, reads_root, is_leaf_write, is_root_read}
use Rattle.meaning.specs.Steps.{Memory, Process}
use Rattle.meaning.specs.Run.{Entry, State, initial, start, take_step}
use Rattle.taken.specs.CountIn.{Waiter, is_counted}
use Rattle.spots.specs.Spot.{spot_of}
use Rattle.counts.specs.Counts.{Counts, counts_after}
use Rattle.taken.proofs.Lists.{length-keep}
use Rattle.ledger.specs.Kept.{Kept, at_root, second_link, queue_then, list_then, wait_then, row_then, read_step, addition_step, kept_step, kept_start}
use Rattle.history.proofs.Turns.{Turn, root, leaf, write, link, group, store, reads_the_root, reads_no_root, false_true}
use Rattle.history.proofs.Did.{did, did_other, did_not}
use Rattle.history.proofs.Good.{Good, Stepping, access_by, effect_by, record_after, entry_by, turns}
use Rattle.ledger.proofs.Keeps.{write_case}

-- a leaf write or a root read
abbrev pub acts : Access → Bool
acts a = is_leaf_write a || is_root_read a

unfoldable pub size : Kept → ℕ
size k = k.listed + length k.queue

pub record Total (st : State) (k : Kept) : Type 0 where
  pub total : size k ≡ count_below st.operations (λ i. did acts i st.history)

-- so they are at most as many as have started
pub total_few : (st : State) (k : Kept) → Total st k → size k ≤ st.operations
total_few st k t = omega (arith, t.total, count_le st.operations (λ i. did acts i st.history))

-- ---- what a step adds

module _ (F : Form) (p : ℕ) (r r' : Process) (stored : Bool) (contention : ℕ) (k : Kept) where
  list_size : (f : ℕ → ℕ) (ws : List Waiter) (c : Counts) → size (list_then f ws c k) ≡ k.listed + length ws
  unfolding size list_then
  list_size f ws c = omega (arith, length-keep (is_counted f) ws)

  wait_size : (ws : List Waiter) (c : Counts) → size (wait_then ws c k) ≡ k.listed + length ws
  unfolding size wait_then
  wait_size ws c = refl

  queue_size : length (queue_then p r k) ≡ length k.queue + cond (eqb r.step 2) 1 0
  unfolding queue_then
  queue_size = length-append k.queue _ ∙ ap (λ (n : ℕ). length k.queue + n) (go (eqb r.step 2))
    where
      its : Waiter
      its = record { operation = r.operation; component = p; turn = k.counts.in_node 0 p }

      go : (t : Bool) → length (cond t (its ∷ []) []) ≡ cond t 1 0
      go true = refl
      go false = refl

  row_size : (i : ℕ) (finished : Bool) (answer : ℕ) (again : Bool) (x : Kept) → size (row_then i finished contention answer again x) ≡ size x
  unfolding size row_then
  row_size i finished answer again x = refl

  size_more : (ws : List Waiter) (n : ℕ) → length ws ≡ length k.queue + n → k.listed + length ws ≡ size k + n
  unfolding size
  size_more ws n e = omega arith

  addition_size : size (addition_step F p r r' stored contention k) ≡ size k + cond (eqb r.step 2) 1 0
  unfolding addition_step
  addition_size = row_size r.operation (eqb r'.step 0) 0 (second_link (spot_of F p r.step)) _ ∙ go (at_root F (spot_of F p r.step) stored) ∙ omega_sum
    where
      c : Counts
      c = counts_after F p r.step (spot_of F p r.step) stored k.counts

      go : (t : Bool) → size (cond t (list_then (c.in_node F.height) (queue_then p r k) c k) (wait_then (queue_then p r k) c k)) ≡ k.listed + length (queue_then p r k)
      go true = list_size (c.in_node F.height) (queue_then p r k) c
      go false = wait_size (queue_then p r k) c

      omega_sum : k.listed + length (queue_then p r k) ≡ size k + cond (eqb r.step 2) 1 0
      omega_sum = size_more (queue_then p r k) _ queue_size

  read_size : size (read_step r r' contention k) ≡ size k + 1
  unfolding read_step row_then size
  read_size = omega arith

-- ---- which operations have acted

or_and : (a b t : Bool) → (a && t) ≡ false → (b && t) ≡ false → ((a || b) && t) ≡ false
or_and true b t c d = c
or_and false b t c d = d

pub not_acted : (i : ℕ) (es : List Entry) → did is_leaf_write i es ≡ false → did is_root_read i es ≡ false → did acts i es ≡ false
unfolding did
not_acted i [] a b = refl
not_acted i (e ∷ es) a b =
    neither _ _ (not_acted i es (or_left (did is_leaf_write i es) _ a) (or_left (did is_root_read i es) _ b))
    (go (eqb i e.operation) (or_right (did is_leaf_write i es) _ a) (or_right (did is_root_read i es) _ b))
  where
    or_left : (x y : Bool) → (x || y) ≡ false → x ≡ false
    or_left true y d = d
    or_left false y d = refl

    or_right : (x y : Bool) → (x || y) ≡ false → y ≡ false
    or_right true y d = absurd (false_true (sym d))
    or_right false y d = d

    neither : (x y : Bool) → x ≡ false → y ≡ false → (x || y) ≡ false
    neither x y c d = rw (c, d)

    go : (t : Bool) → (is_leaf_write e.access && t) ≡ false → (is_root_read e.access && t) ≡ false → (acts e.access && t) ≡ false
    go t = or_and (is_leaf_write e.access) (is_root_read e.access) t

acted : (i : ℕ) (e : Entry) (es : List Entry) → acts e.access ≡ true → i ≡ e.operation → did acts i (e ∷ es) ≡ true
unfolding did
acted i e es k d = rw (k, eq-eqb i e.operation d) (or_all (did acts i es))
  where
    or_all : (t : Bool) → (t || true) ≡ true
    or_all true = refl
    or_all false = refl

or_none : (a b : Bool) → b ≡ false → (a || b) ≡ a
or_none true b e = refl
or_none false b e = e

root_acts : acts reads_root ≡ true
unfolding is_leaf_write is_root_read
root_acts = refl

-- only a read, or an addition at step 2, acts
acts_early : {F : Form} {p : ℕ} {r : Process} {m : Memory} {t : ℕ} {a : Access} → Turn F p r m t a → acts a ≡ true → r.adds ≡ true → r.step ≤ 2
unfolding is_leaf_write is_root_read
acts_early (root e w z) k d = omega arith
acts_early (leaf e w z) k d = omega arith
acts_early (write e w z n) k d = omega arith
acts_early (link e σ at w n) k d = absurd (false_true k)
acts_early (group e σ at i b w n) k d = absurd (false_true k)
acts_early (store e σ at w n) k d = absurd (false_true k)

module _ (F : Form) (p : ℕ) (st : State) (s : Stepping F p st) (k : Kept) (t : Total st k) (contention : ℕ) where
  abbrev kept' : Kept
  kept' = kept_step F p (st.process p) (record_after F p st) (effect_by F p st).stored contention k

  kept_size : size kept' ≡ size k + cond (acts (access_by F p st)) 1 0
  unfolding kept_step
  kept_size = go (st.process p).adds refl
    where
      go : (b : Bool) → (st.process p).adds ≡ b
          → size (cond b (addition_step F p (st.process p) (record_after F p st) (effect_by F p st).stored contention k) (read_step (st.process p) (record_after F p st) contention k))
          ≡ size k + cond (acts (access_by F p st)) 1 0
      go true d =
          addition_size F p (st.process p) (record_after F p st) (effect_by F p st).stored contention k
          ∙ ap (λ (b : Bool). size k + cond b 1 0) (write_case F p st s (turns F p st s) d ∙ sym (or_none _ _ (reads_no_root (turns F p st s) d)))
      go false d =
          read_size F p (st.process p) (record_after F p st) (effect_by F p st).stored contention k
          ∙ ap (λ (b : Bool). size k + cond b 1 0) (sym (ap acts (reads_the_root (turns F p st s) d) ∙ root_acts))

  acted_step : count_below st.operations (λ i. did acts i (entry_by F p st ∷ st.history)) ≡ count_below st.operations (λ i. did acts i st.history) + cond (acts (access_by F p st)) 1 0
  acted_step = go (acts (access_by F p st)) refl
    where
      go : (b : Bool) → acts (access_by F p st) ≡ b
          → count_below st.operations (λ i. did acts i (entry_by F p st ∷ st.history)) ≡ count_below st.operations (λ i. did acts i st.history) + cond b 1 0
      go true d =
          count_differ st.operations (st.process p).operation (λ i. did acts i st.history) (λ i. did acts i (entry_by F p st ∷ st.history)) (s.good.owns p s.acts)
          (not_acted (st.process p).operation st.history (s.good.fresh p s.acts (acts_early (turns F p st s) d)) (s.good.unread p s.acts))
          (acted (st.process p).operation (entry_by F p st) st.history d refl)
          (λ q n. did_other acts q (entry_by F p st) st.history n) ∙ omega arith
      go false d = count_same st.operations _ _ (λ q b. did_not acts q (entry_by F p st) st.history d) ∙ sym (add-zero _)

  pub total_step : Total (take_step F p st) kept'
  unfolding take_step
  total_step = record { total = kept_size ∙ ap (λ (n : ℕ). n + cond (acts (access_by F p st)) 1 0) t.total ∙ sym acted_step }

-- ---- a start, and the beginning

pub total_start : (F : Form) (p : ℕ) (adds : Bool) (delta : ℕ) (st : State) (g : Good F st) (k : Kept) → Total st k → (kind : ℕ)
    → Total (start F p adds delta st) (kept_start st.operations p kind k)
unfolding start kept_start size count_below is_leaf_write is_root_read
total_start F p adds delta st g k t kind =
    record {
      total =
          t.total ∙ count_same st.operations _ _ (λ i b. sym (did_not acts i _ st.history refl))
          ∙ sym (ap (λ (b : Bool). count_below st.operations (λ i. did acts i (start F p adds delta st).history) + cond b 1 0) (did_not acts st.operations _ st.history refl ∙ unknown) ∙ add-zero _);
    }
  where
    unknown : did acts st.operations st.history ≡ false
    unknown = go (did acts st.operations st.history) refl
      where
        go : (b : Bool) → did acts st.operations st.history ≡ b → b ≡ false
        go true d = absurd (omega (arith, g.known acts st.operations d))
        go false d = refl

pub total_initial : (F : Form) (k : Kept) → k.queue ≡ [] → k.listed ≡ 0 → Total (initial F) k
unfolding initial size count_below
total_initial F k empty none = record { total = ap₂ (λ (n : ℕ) (l : List Waiter). n + length l) none empty }
