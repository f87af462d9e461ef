-- What is told by the list, through every record: the plain number run down it gives the reads their answers and ends at node 1's value; who
-- is listed, and how often; and that the list keeps the order of finished before started.
use Prim.Native.Nat.{ℕ, ◌%◌, ◌^◌, ◌≤◌, ◌<◌}
use native.Mathlib.Omega.{arith}
use mathlib.Core.Path.{◌≡◌, refl, sym, ap, ◌∙◌, subst, subst⁻¹, fun_ext}
use mathlib.Core.Logic.{⊎_elim}
use mathlib.Core.Bool.{Bool, true, false, not, cond, ◌&&◌}
use mathlib.Core.List.Memᴰ
use mathlib.Core.List.{List, [], ◌∷◌, ◌++◌, append-nil, Memᴰ}
use lib.ListN.{length}
use lib.Dec.{ltb, eqb}
use lib.Pow.{pow_mono}
use borrow.Author.Tests.{eqb-true, ne_eqb, lt-ltb}
use Rattle.meaning.proofs.Updates.{upd_same, upd_other, upd_cases}
use Rattle.cell.specs.Cell.{read_of}
use Rattle.meaning.specs.Tree.{processes, root as treeRoot}
use Rattle.meaning.specs.Access.{Access, reads_root, is_leaf_write, component_of, is_root_read, is_store_at}
use Rattle.meaning.specs.Steps.{Process, effect, onward as moves, cell_at, next_record, at_step, saw_it, idle as idleProcess}
use Rattle.meaning.specs.Shape.{Form, plus}
use Rattle.meaning.specs.Run.{Entry, Row, State, initial, blank, started, kind_of, new_row, start, row_after, most_operations, take_step}
use Rattle.meaning.specs.TakenIn.{keep, position_of, placed, listed, rank}
use Rattle.meaning.specs.Plain.{number_after, run_down, up_to}
use Rattle.taken.specs.CountIn.{writes_to, count_in, Waiter, waiter_of, waiters, is_counted, operations_of}
use Rattle.taken.proofs.Agree.{Once, written, turn_below}
use Rattle.taken.proofs.Lists.{Distinct, nothing, mem_keep, keep_none, mem_operations, position_le, position_first, position_second}
use Rattle.history.proofs.Did.{did, did_leaf, did_cases}
use Rattle.spots.specs.Spot.{Spot, At}
use Rattle.spots.proofs.Laws.{at_late}
use Rattle.history.proofs.Turns.{Turn, root, leaf, write, link, group, store, reads_the_root, root_read_adds_not, false_true}
use Rattle.history.proofs.Good.{Good, Stepping, access_by, record_after, entry_by, begins_by, turns, leaf_write_is, root_read_ends, same_operation, by_stepper, by_process, stepped_row, good_start}
use Rattle.history.proofs.Waiters.{root_count, newly, placed_is, NewOrOld, old, new, new_or_old, waiters_write, waiter_writes, count_grows}
use Rattle.history.proofs.Listing.{placed_read, still_waits}
use Rattle.history.proofs.Placed.{once_on, placed_new, placed_apart}
use Rattle.history.proofs.StepCount.{StepCount, kind_two}
use Rattle.history.proofs.Held.{Held}
use Rattle.counter.specs.SumTree.{level_over, sum_below, sum_under, sum_tree}
use Rattle.counter.specs.View.{value_after, deltas, places_of, stand_of, climber_of, view}
use Rattle.counter.proofs.Overs.{level_is, over_by, top}
use Rattle.counter.proofs.Sums.{sum_same, sum_none}
use Rattle.counter.proofs.Values.{value_same, value_still}
use Rattle.counter.proofs.Viewed.{stand_off}
use Rattle.counter.proofs.Tied.{Tied}
use Rattle.counter.proofs.Number.{run_append, run_same, run_newly}
use Rattle.counter.proofs.Lists.{distinct_append, some_position, up_to_first, up_to_last, mem_up_to, root_lags, root_still, read_no_store, counted_listed}
use Rattle.spots.proofs.Shapes.{opened_two}

-- the sum of the leaves' values, each after those of its writes that are in node 1
abbrev pub root_sum : Form → State → ℕ
root_sum F st = sum_below (2 ^ F.height) (λ q. value_after (deltas st) q (root_count F st.history q) st.history) % 2 ^ 32

-- node 1 holds it
pub root_value : (F : Form) (st : State) → Good F st → Tied F st → st.memory.value treeRoot ≡ root_sum F st
unfolding view places_of sum_tree sum_under processes treeRoot
root_value F st g t =
    let h : ℕ = F.height in
    t.invariant.places.values 1
    ∙ ap (λ (b : Bool). cond b (sum_under h 1 told % 2 ^ 32) (sum_under h 1 told)) (lt-ltb 1 (2 ^ h) two)
    ∙ ap (λ (n : ℕ). n % 2 ^ 32) (sum_same (2 ^ h) _ _ (λ q b. ap (λ (t : Bool). cond t (told q) 0) (over_by h 1 h q (omega arith) b (top h q b)) ∙ ap (λ (l : ℕ). value_after (deltas st) q (count_in h l q st.history) st.history) (level_is h 1 h q (omega arith) b (top h q b))))
  where
    told : ℕ → ℕ
    told q = value_after (deltas st) q (count_in F.height (level_over F.height 1 q) q st.history) st.history

    two : 1 < 2 ^ F.height
    two = omega (arith, pow_mono {i = 1} {j = F.height} g.low)

-- where a process does not climb, all its writes are in node 1
pub all_in : (F : Form) (p : ℕ) (st : State) → Tied F st → p < 2 ^ F.height → ((st.process p).adds ≡ true → (st.process p).step ≤ 2) → writes_to p st.history ≤ root_count F st.history p
unfolding view places_of climber_of stand_of sum_tree treeRoot
all_in F p st t b early =
    let h : ℕ = F.height in
    subst (λ (l : ℕ). writes_to p st.history ≤ count_in h l p st.history) (level_is h 1 h p (omega arith) b (top h p b))
    ((t.invariant.climbing p).home (stand_off F p (st.process p) (writes_to p st.history) early) (over_by h 1 h p (omega arith) b (top h p b)))

pub record Told (F : Form) (st : State) : Type 0 where
  -- the list's operations have started, and each stands once
  pub known : (i : ℕ) → Memᴰ i (listed F st.history) → i < st.operations
  pub apart : Distinct (listed F st.history)
  -- who writes: additions, of processes of the tree, each on its climb once
  pub additions : (i : ℕ) → did is_leaf_write i st.history ≡ true → (st.row i).kind ≡ 3
  pub writers : (w : Waiter) → Memᴰ w (waiters st.history) → w.component < 2 ^ F.height
  pub wrote : (p : ℕ) → (st.process p).adds ≡ true → 3 ≤ (st.process p).step
      → (w : Waiter) × Memᴰ w (waiters st.history) × (w.operation ≡ (st.process p).operation) × (w.component ≡ p)
  -- the plain number
  pub counter : run_down st.row 0 (listed F st.history) ≡ root_sum F st
  pub answers : (i : ℕ) → (st.row i).finished ≡ true → (st.row i).kind ≡ 2 → (st.row i).answer ≡ run_down st.row 0 (up_to i (listed F st.history))
  -- who is listed
  pub finished : (i : ℕ) → (st.row i).finished ≡ true → Memᴰ i (listed F st.history)
  pub reads : (i : ℕ) → Memᴰ i (listed F st.history) → (st.row i).kind ≡ 2 → (st.row i).finished ≡ true
  -- in which order
  pub order : (i j : ℕ) → (st.row i).finished ≡ true → (st.row i).ended < (st.row j).started → Memᴰ j (listed F st.history) → rank F st.history i < rank F st.history j

rooted : {a : Access} → a ≡ reads_root → is_root_read a ≡ true
unfolding is_root_read
rooted e = ap is_root_read e

-- ---- a step

module _ (F : Form) (p : ℕ) (st : State) (s : Stepping F p st) (c : StepCount F st) (o : Held F st) (t : Tied F st) (t' : Tied F (take_step F p st)) (k : Told F st) where
  abbrev st' : State
  st' = take_step F p st

  abbrev es : List Entry
  es = st.history

  abbrev e : Entry
  e = entry_by F p st

  abbrev r : Process
  r = st.process p

  abbrev r' : Process
  r' = record_after F p st

  abbrev before : List ℕ
  before = listed F es

  abbrev newest : List ℕ
  newest = placed F e es

  -- kind, delta and start of a row stay
  same_row : (i : ℕ) → ((st'.row i).kind ≡ (st.row i).kind) × ((st'.row i).delta ≡ (st.row i).delta) × ((st'.row i).started ≡ (st.row i).started)
  unfolding row_after
  same_row i =
      stepped_row F p st s i (λ w. (w.kind ≡ (st.row i).kind) × (w.delta ≡ (st.row i).delta) × (w.started ≡ (st.row i).started))
      (λ j. (ap (λ (x : ℕ). (st.row x).kind) (sym j), ap (λ (x : ℕ). (st.row x).delta) (sym j), ap (λ (x : ℕ). (st.row x).started) (sym j))) (λ n. (refl, refl, refl))

  -- a row that is finished after the step was so before, unless it is the stepping operation's; then the row is as it was
  data Finished (i : ℕ) : Type 0 where
    earlier : (st.row i).finished ≡ true → (i ≡ r.operation → ⊥) → st'.row i ≡ st.row i → Finished i
    now : i ≡ r.operation → r'.step ≡ 0 → (st'.row i).ended ≡ length es → Finished i

  finished_how : (i : ℕ) → (st'.row i).finished ≡ true → Finished i
  unfolding row_after
  finished_how i = stepped_row F p st s i (λ w. st'.row i ≡ w → w.finished ≡ true → Finished i) (λ j d f. now j (eqb-true r'.step 0 f) (ap (λ (w : Row). w.ended) d)) (λ n d f. earlier f n d) refl

  -- what the step lists is the read that it ends, or additions that have written
  data New (i : ℕ) : Type 0 where
    read : is_root_read (access_by F p st) ≡ true → i ≡ r.operation → New i
    taken : is_root_read (access_by F p st) ≡ false → did is_leaf_write i es ≡ true → New i

  new_how : (i : ℕ) → Memᴰ i newest → New i
  new_how i m = go (is_root_read (access_by F p st)) refl
    where
      go : (b : Bool) → is_root_read (access_by F p st) ≡ b → New i
      go true d = read d (Memᴰ.eq_of_singleton (subst (Memᴰ i) (placed_read F e es d) m))
      go false d =
          let u = mem_operations (keep (newly F e es (once_on F p st s)) (waiters es)) (subst (Memᴰ i) (placed_is F e es (once_on F p st s) d) m) in
          taken d (subst (λ (j : ℕ). did is_leaf_write j es ≡ true) u.2 (sym (did_leaf u.0.operation es) ∙ written (waiter_writes es u.0 (mem_keep _ (waiters es) u.1).0)))

  -- ---- the accesses

  -- past its leaf write
  late : {σ : Spot} → At F p r.step σ → 3 ≤ r.step
  late {σ} at = omega (arith, at_late F p r.step σ at, opened_two F p s.good.lawful)

  -- an addition ends on its climb
  ends_climbing : {a : Access} → Turn F p r st.memory r'.step a → r.adds ≡ true → r'.step ≡ 0 → 3 ≤ r.step
  ends_climbing (root b w z) d y = absurd (false_true (sym b ∙ d))
  ends_climbing (leaf b w z) d y = absurd (omega arith)
  ends_climbing (write b w z n) d y = absurd (omega arith)
  ends_climbing (link b σ at w n) d y = late at
  ends_climbing (group b σ at i few w n) d y = late at
  ends_climbing (store b σ at w n) d y = late at

  write_adds : {a : Access} → Turn F p r st.memory r'.step a → is_leaf_write a ≡ true → r.adds ≡ true
  unfolding is_leaf_write
  write_adds (root b w z) d = absurd (false_true d)
  write_adds (leaf b w z) d = b
  write_adds (write b w z n) d = b
  write_adds (link b σ at w n) d = b
  write_adds (group b σ at i few w n) d = b
  write_adds (store b σ at w n) d = b

  -- ---- who is listed

  known_step : (i : ℕ) → Memᴰ i (before ++ newest) → i < st.operations
  known_step i m = ⊎_elim (k.known i) (λ n. go (new_how i n)) (Memᴰ.append_cases before m)
    where
      go : New i → i < st.operations
      go (read d j) = subst⁻¹ (λ (x : ℕ). x < st.operations) j (s.good.owns p s.acts)
      go (taken d w) = s.good.known is_leaf_write i w

  additions_step : (i : ℕ) → did is_leaf_write i (e ∷ es) ≡ true → (st'.row i).kind ≡ 3
  unfolding kind_of
  additions_step i d = (same_row i).0 ∙ ⊎_elim (k.additions i) now_written (did_cases is_leaf_write i e es d)
    where
      now_written : (is_leaf_write (access_by F p st) ≡ true) × (i ≡ r.operation) → (st.row i).kind ≡ 3
      now_written w = ap (λ (x : ℕ). (st.row x).kind) w.1 ∙ c.kinds p s.acts ∙ ap (λ (b : Bool). cond b 3 2) (write_adds (turns F p st s) w.0)

  writers_step : (w : Waiter) → Memᴰ w (waiters (e ∷ es)) → w.component < 2 ^ F.height
  unfolding waiter_of
  writers_step w m = go (new_or_old e es w m)
    where
      go : NewOrOld e es w → w.component < 2 ^ F.height
      go (old n) = k.writers w n
      go (new d x) = subst⁻¹ (λ (q : ℕ). q < 2 ^ F.height) (ap (λ (v : Waiter). v.component) x ∙ (leaf_write_is F p st s (turns F p st s) d).2) s.inside

  abbrev Wrote : ℕ → Process → Type 0
  Wrote q x = (w : Waiter) × Memᴰ w (waiters (e ∷ es)) × (w.operation ≡ x.operation) × (w.component ≡ q)

  still_wrote : (q : ℕ) → (st.process q).adds ≡ true → 3 ≤ (st.process q).step → Wrote q (st.process q)
  still_wrote q a b = let u = k.wrote q a b in (u.0, still_waits e es u.0 u.1, u.2, u.3)

  own_wrote : {a : Access} → Turn F p r st.memory r'.step a → access_by F p st ≡ a → 3 ≤ r'.step → Wrote p r
  unfolding waiter_of is_leaf_write component_of
  own_wrote (root b w z) eq f = absurd (omega arith)
  own_wrote (leaf b w z) eq f = absurd (omega arith)
  own_wrote (write b w z n) eq f =
      (waiter_of e es, subst⁻¹ (Memᴰ (waiter_of e es)) (waiters_write e es (ap is_leaf_write eq)) (Memᴰ.append_right (waiters es) (Memᴰ.head refl)), refl, ap component_of eq)
  own_wrote (link b σ at w n) eq f = still_wrote p b (late at)
  own_wrote (group b σ at i few w n) eq f = still_wrote p b (late at)
  own_wrote (store b σ at w n) eq f = still_wrote p b (late at)

  wrote_step : (q : ℕ) → (st'.process q).adds ≡ true → 3 ≤ (st'.process q).step → Wrote q (st'.process q)
  wrote_step =
      by_stepper F p st s (λ q x. x.adds ≡ true → 3 ≤ x.step → Wrote q x)
      (λ a f. let u = own_wrote (turns F p st s) refl f in (u.0, u.1, u.2 ∙ sym (same_operation F p st s), u.3))
      (λ q n a f. still_wrote q a f)

  -- an addition that ends is in node 1
  ended_listed : r.adds ≡ true → r'.step ≡ 0 → Memᴰ r.operation (before ++ newest)
  unfolding is_counted take_step listed
  ended_listed a z =
      let u = still_wrote p a (ends_climbing (turns F p st s) a z) in
      subst (λ (i : ℕ). Memᴰ i (before ++ newest)) u.2
      (counted_listed F s.good.low (e ∷ es) (once_on F p st s) u.0 u.1 (lt-ltb u.0.turn (root_count F (e ∷ es) u.0.component) (in_time u.0 u.1 u.3)))
    where
      idle_now : (st'.process p).step ≡ 0
      idle_now = ap (λ (x : Process). x.step) (upd_same st.process p r') ∙ z

      in_time : (w : Waiter) → Memᴰ w (waiters (e ∷ es)) → w.component ≡ p → w.turn < root_count F (e ∷ es) w.component
      in_time w m d =
          let turn = turn_below (waiter_writes (e ∷ es) w m) in
          subst⁻¹ (λ (q : ℕ). w.turn < root_count F (e ∷ es) q) d
          (omega (arith, subst (λ (q : ℕ). w.turn < writes_to q (e ∷ es)) d turn, all_in F p st' t' s.inside (λ b. omega (arith, idle_now))))

  finished_step : (i : ℕ) → (st'.row i).finished ≡ true → Memᴰ i (before ++ newest)
  finished_step i f = go (finished_how i f)
    where
      ends : (b : Bool) → r.adds ≡ b → r'.step ≡ 0 → Memᴰ r.operation (before ++ newest)
      ends true a z = ended_listed a z
      ends false a z = Memᴰ.append_right before (subst⁻¹ (Memᴰ r.operation) (placed_read F e es (read_is a)) (Memᴰ.head refl))
        where
          read_is : r.adds ≡ false → is_root_read (access_by F p st) ≡ true
          read_is a = rooted (reads_the_root (turns F p st s) a)

      go : Finished i → Memᴰ i (before ++ newest)
      go (earlier g n d) = Memᴰ.append_left newest (k.finished i g)
      go (now j z d) = subst⁻¹ (λ (x : ℕ). Memᴰ x (before ++ newest)) j (ends r.adds refl z)

  reads_step : (i : ℕ) → Memᴰ i (before ++ newest) → (st'.row i).kind ≡ 2 → (st'.row i).finished ≡ true
  unfolding row_after
  reads_step i m d = ⊎_elim old_read (λ n. new_read (new_how i n)) (Memᴰ.append_cases before m)
    where
      kind : (st.row i).kind ≡ 2
      kind = sym (same_row i).0 ∙ d

      old_read : Memᴰ i before → (st'.row i).finished ≡ true
      old_read n =
          let f = k.reads i n kind in
          stepped_row F p st s i (λ w. w.finished ≡ true) (λ j. absurd (false_true (sym (s.good.unfinished p s.acts) ∙ ap (λ (x : ℕ). (st.row x).finished) (sym j) ∙ f))) (λ o. f)

      new_read : New i → (st'.row i).finished ≡ true
      new_read (read b j) = stepped_row F p st s i (λ w. w.finished ≡ true) (λ o. ap (λ (x : ℕ). eqb x 0) (root_read_ends F p st s (turns F p st s) b).0) (λ n. absurd (n j))
      new_read (taken b w) = absurd (omega (arith, k.additions i w, kind))

  -- ---- the plain number

  same_deltas : ◌≡◌ {A = ℕ → ℕ} (λ i. (st'.row i).delta) (λ i. (st.row i).delta)
  same_deltas = fun_ext (λ i. (same_row i).1)

  -- the rows of those listed before give the same number
  run_still : (l : List ℕ) (v : ℕ) → run_down st'.row v l ≡ run_down st.row v l
  run_still l v = run_same st'.row st.row v l (λ i m. ((same_row i).0, (same_row i).1))

  abbrev sum_at : (ℕ → ℕ) → ℕ
  sum_at count = sum_below (2 ^ F.height) (λ q. value_after (λ i. (st'.row i).delta) q (count q) es) % 2 ^ 32

  sum_before : root_sum F st ≡ sum_at (root_count F es)
  unfolding deltas
  sum_before = ap (λ (f : ℕ → ℕ). sum_below (2 ^ F.height) (λ q. value_after f q (root_count F es q) es) % 2 ^ 32) (sym same_deltas)

  sum_after : root_sum F st' ≡ sum_at (root_count F (e ∷ es))
  unfolding deltas take_step
  sum_after = ap (λ (n : ℕ). n % 2 ^ 32) (sum_same (2 ^ F.height) _ _ (λ q b. value_still (λ i. (st'.row i).delta) q (root_count F (e ∷ es) q) e es (root_lags F s.good.low q e es)))

  number_now : (b : Bool) → is_root_read (access_by F p st) ≡ b → run_down st'.row (sum_at (root_count F es)) newest ≡ sum_at (root_count F (e ∷ es))
  unfolding run_down number_after kind_of
  number_now true d =
      ap (run_down st'.row (sum_at (root_count F es))) (placed_read F e es d)
      ∙ ap (λ (x : Bool). cond x (plus (sum_at (root_count F es)) (st'.row r.operation).delta) (sum_at (root_count F es))) (ne_eqb (st'.row r.operation).kind 3 (λ j. omega (arith, kind, j)))
      ∙ ap sum_at (fun_ext (λ q. sym (root_still F s.good.low e es (read_no_store F s.good.low (access_by F p st) d) q)))
    where
      kind : (st'.row r.operation).kind ≡ 2
      kind = (same_row r.operation).0 ∙ c.kinds p s.acts ∙ ap (λ (b : Bool). cond b 3 2) (root_read_adds_not (turns F p st s) d)
  number_now false d =
      ap (run_down st'.row (sum_at (root_count F es))) (placed_is F e es (once_on F p st s) d)
      ∙ run_newly (2 ^ F.height) st'.row es (root_count F es) (root_count F (e ∷ es)) (λ q. count_grows F.height F.height q e es) (λ q. root_lags F s.good.low q e es)
      (λ w m. ((same_row w.operation).0 ∙ k.additions w.operation (sym (did_leaf w.operation es) ∙ written (waiter_writes es w m)), k.writers w m))

  counter_step : run_down st'.row 0 (before ++ newest) ≡ root_sum F st'
  counter_step =
      run_append st'.row 0 before newest ∙ ap (λ (v : ℕ). run_down st'.row v newest) (run_still before 0 ∙ k.counter ∙ sum_before)
      ∙ number_now (is_root_read (access_by F p st)) refl ∙ sym sum_after

  read_answer_lem : (i : ℕ) → i ≡ r.operation → access_by F p st ≡ reads_root → (st'.row i).answer ≡ st.memory.value treeRoot
  unfolding row_after effect moves next_record at_step saw_it read_of cell_at is_root_read
  read_answer_lem i j eq =
      stepped_row F p st s i (λ w. w.answer ≡ st.memory.value treeRoot)
      (λ o. ap (λ (a : Access). cond (is_root_read a) r'.seen 0) eq ∙ ap (λ (a : Access). (effect F p r st.memory a).process.seen) eq) (λ n. absurd (n j))

  answers_step : (i : ℕ) → (st'.row i).finished ≡ true → (st'.row i).kind ≡ 2 → (st'.row i).answer ≡ run_down st'.row 0 (up_to i (before ++ newest))
  answers_step i f d = go (finished_how i f)
    where
      go : Finished i → (st'.row i).answer ≡ run_down st'.row 0 (up_to i (before ++ newest))
      go (earlier g n same) =
          ap (λ (w : Row). w.answer) same ∙ k.answers i g (sym (same_row i).0 ∙ d) ∙ sym (run_still (up_to i before) 0)
          ∙ sym (ap (run_down st'.row 0) (up_to_first i before newest (k.finished i g)))
      go (now j z o) =
          answer_now ∙ root_value F st s.good t ∙ sym k.counter ∙ sym (run_still before 0)
          ∙ sym (ap (run_down st'.row 0) (ap (λ (l : List ℕ). up_to i (before ++ l)) (placed_read F e es is_read_lem ∙ ap (λ (x : ℕ). x ∷ []) (sym j)) ∙ up_to_last i before unlisted))
        where
          reads_only : r.adds ≡ false
          reads_only = kind_two r.adds (sym (c.kinds p s.acts) ∙ ap (λ (x : ℕ). (st.row x).kind) (sym j) ∙ sym (same_row i).0 ∙ d)

          is_read_lem : is_root_read (access_by F p st) ≡ true
          is_read_lem = rooted (reads_the_root (turns F p st s) reads_only)

          unlisted : Memᴰ i before → ⊥
          unlisted m = placed_new F p st s i (subst⁻¹ (Memᴰ i) (placed_read F e es is_read_lem) (Memᴰ.head j)) m

          answer_now : (st'.row i).answer ≡ st.memory.value treeRoot
          answer_now = read_answer_lem i j (reads_the_root (turns F p st s) reads_only)

  -- ---- the order

  order_step : (i j : ℕ) → (st'.row i).finished ≡ true → (st'.row i).ended < (st'.row j).started → Memᴰ j (before ++ newest)
      → position_of i (before ++ newest) < position_of j (before ++ newest)
  unfolding rank
  order_step i j f b m = go (finished_how i f)
    where
      start : (st.row j).started < length es
      start = o.begun j (known_step j m)

      go : Finished i → position_of i (before ++ newest) < position_of j (before ++ newest)
      go (now o z d) = absurd (omega (arith, d, (same_row j).2, start, b))
      go (earlier g n same) = ⊎_elim stood stands (Memᴰ.append_cases before m)
        where
          first : position_of i (before ++ newest) ≡ position_of i before
          first = position_first i before newest (k.finished i g)

          stood : Memᴰ j before → position_of i (before ++ newest) < position_of j (before ++ newest)
          stood l = omega (arith, first, position_first j before newest l, k.order i j g (omega (arith, ap (λ (w : Row). w.ended) same, (same_row j).2, b)) l)

          stands : Memᴰ j newest → position_of i (before ++ newest) < position_of j (before ++ newest)
          stands l =
              omega (arith, first, position_le i before, position_second j before newest (placed_new F p st s j l) l, some_position newest l)

  pub told_step : Told F st'
  unfolding take_step listed rank row_after
  told_step =
      record {
        known = known_step;
        apart = distinct_append k.apart (placed_apart F p st s) (placed_new F p st s);
        additions = additions_step;
        writers = writers_step;
        wrote = wrote_step;
        counter = counter_step;
        answers = answers_step;
        finished = finished_step;
        reads = reads_step;
        order = order_step;
      }

-- ---- a start

module _ (F : Form) (p : ℕ) (adds : Bool) (delta : ℕ) (st : State) (g : Good F st) (inside : p < 2 ^ F.height) (free : (st.process p).step ≡ 0) (room : st.operations < most_operations) (k : Told F st) where
  abbrev begins : Entry
  begins = begins_by F p adds delta st

  abbrev after : State
  after = start F p adds delta st

  once_start : Once (begins ∷ st.history)
  unfolding start
  once_start = (good_start F p adds delta st g inside free room).once

  still_counted : (q : ℕ) → root_count F (begins ∷ st.history) q ≡ root_count F st.history q
  unfolding is_store_at
  still_counted q = root_still F g.low begins st.history (λ x. refl) q

  -- a start lists nothing
  start_listed : listed F (begins ∷ st.history) ≡ listed F st.history
  unfolding listed is_root_read is_counted operations_of
  start_listed =
      ap (λ (l : List ℕ). listed F st.history ++ l)
      (placed_is F begins st.history once_start refl
      ∙ ap operations_of (keep_none (newly F begins st.history once_start) (waiters st.history) (λ w m. ap (λ (n : ℕ). ltb w.turn n && not (ltb w.turn (root_count F st.history w.component))) (still_counted w.component) ∙ never (ltb w.turn (root_count F st.history w.component)))))
      ∙ append-nil (listed F st.history)
    where
      never : (b : Bool) → (b && not b) ≡ false
      never true = refl
      never false = refl

  -- the rows of the operations that had started stay
  old_row : (i : ℕ) → i < st.operations → after.row i ≡ st.row i
  unfolding start
  old_row i b = upd_other st.row st.operations _ i (λ j. omega arith)

  finished_old : (i : ℕ) → (after.row i).finished ≡ true → after.row i ≡ st.row i
  unfolding start new_row
  finished_old i = upd_cases st.row st.operations _ (λ w. w.finished ≡ true → w ≡ st.row i) i (λ j f. absurd (false_true f)) (λ n f. refl)

  run_old : (l : List ℕ) → ((i : ℕ) → Memᴰ i l → i < st.operations) → run_down after.row 0 l ≡ run_down st.row 0 l
  run_old l b = run_same after.row st.row 0 l (λ i m. let e = old_row i (b i m) in (ap (λ (w : Row). w.kind) e, ap (λ (w : Row). w.delta) e))

  deltas_old : (i : ℕ) → i < st.operations → deltas after i ≡ deltas st i
  unfolding deltas
  deltas_old i b = ap (λ (w : Row). w.delta) (old_row i b)

  sum_still : root_sum F after ≡ root_sum F st
  unfolding start
  sum_still =
      ap (λ (n : ℕ). n % 2 ^ 32)
      (sum_same (2 ^ F.height) _ _
      (λ q b. ap (λ (n : ℕ). value_after (deltas after) q n (begins ∷ st.history)) (still_counted q)
      ∙ value_still (deltas after) q (root_count F st.history q) begins st.history (omega (arith, sym (still_counted q), root_lags F g.low q begins st.history))
      ∙ value_same (deltas after) (deltas st) q (root_count F st.history q) st.history (λ i d. deltas_old i (g.known is_leaf_write i d))))

  list_still : listed F after.history ≡ listed F st.history
  unfolding start
  list_still = start_listed

  was_listed : {i : ℕ} → Memᴰ i (listed F after.history) → Memᴰ i (listed F st.history)
  was_listed {i} m = subst (Memᴰ i) list_still m

  -- the new operation is not finished; the others are as they were
  finished_was : (i : ℕ) → (after.row i).finished ≡ true → (st.row i).finished ≡ true
  finished_was i f = ap (λ (w : Row). w.finished) (sym (finished_old i f)) ∙ f

  additions_start : (i : ℕ) → did is_leaf_write i after.history ≡ true → (after.row i).kind ≡ 3
  unfolding start is_leaf_write
  additions_start i d =
      ⊎_elim (λ w. ap (λ (x : Row). x.kind) (old_row i (g.known is_leaf_write i w)) ∙ k.additions i w) (λ w. absurd (false_true w.0)) (did_cases is_leaf_write i begins st.history d)

  writers_start : (w : Waiter) → Memᴰ w (waiters after.history) → w.component < 2 ^ F.height
  unfolding start is_leaf_write
  writers_start w m = go (new_or_old begins st.history w m)
    where
      go : NewOrOld begins st.history w → w.component < 2 ^ F.height
      go (old n) = k.writers w n
      go (new d x) = absurd (false_true d)

  wrote_start : (q : ℕ) → (after.process q).adds ≡ true → 3 ≤ (after.process q).step
      → (w : Waiter) × Memᴰ w (waiters after.history) × (w.operation ≡ (after.process q).operation) × (w.component ≡ q)
  unfolding started start
  wrote_start =
      by_process F p adds delta st g inside free room
      (λ q x. x.adds ≡ true → 3 ≤ x.step → (w : Waiter) × Memᴰ w (waiters (begins ∷ st.history)) × (w.operation ≡ x.operation) × (w.component ≡ q))
      (λ a f. absurd (omega arith)) (λ q n a f. let u = k.wrote q a f in (u.0, still_waits begins st.history u.0 u.1, u.2, u.3))

  order_start : (i j : ℕ) → (after.row i).finished ≡ true → (after.row i).ended < (after.row j).started → Memᴰ j (listed F after.history)
      → rank F after.history i < rank F after.history j
  unfolding rank
  order_start i j f b m =
      subst⁻¹ (λ (l : List ℕ). position_of i l < position_of j l) list_still
      (k.order i j (finished_was i f) (omega (arith, ap (λ (w : Row). w.ended) (finished_old i f), ap (λ (w : Row). w.started) (old_row j (k.known j (was_listed m))), b)) (was_listed m))

  more_operations : {i : ℕ} → i < st.operations → i < after.operations
  unfolding start
  more_operations b = omega arith

  pub told_start : Told F after
  told_start =
      record {
        known = λ i m. more_operations (k.known i (was_listed m));
        apart = subst⁻¹ Distinct list_still k.apart;
        additions = additions_start;
        writers = writers_start;
        wrote = wrote_start;
        counter = ap (run_down after.row 0) list_still ∙ run_old (listed F st.history) k.known ∙ k.counter ∙ sym sum_still;
        answers = λ i f d.
            let same = finished_old i f in
            ap (λ (w : Row). w.answer) same ∙ k.answers i (finished_was i f) (sym (ap (λ (w : Row). w.kind) same) ∙ d)
            ∙ sym (ap (λ (l : List ℕ). run_down after.row 0 (up_to i l)) list_still ∙ run_old (up_to i (listed F st.history)) (λ j m. k.known j (mem_up_to i j (listed F st.history) m)));
        finished = λ i f. subst⁻¹ (Memᴰ i) list_still (k.finished i (finished_was i f));
        reads = λ i m d.
            let same = old_row i (k.known i (was_listed m)) in
            ap (λ (w : Row). w.finished) same ∙ k.reads i (was_listed m) (sym (ap (λ (w : Row). w.kind) same) ∙ d);
        order = order_start;
      }

-- ---- the beginning

pub told_initial : (F : Form) → Told F (initial F)
unfolding initial idleProcess blank listed did waiters run_down value_after
told_initial F =
    record {
      known = λ i m. absurd (Memᴰ.not-nil m);
      apart = nothing;
      additions = λ i d. absurd (false_true d);
      writers = λ w m. absurd (Memᴰ.not-nil m);
      wrote = λ p a f. absurd (false_true a);
      counter = sym (ap (λ (n : ℕ). n % 2 ^ 32) (sum_none (2 ^ F.height) _ (λ q b. refl)));
      answers = λ i f d. absurd (false_true f);
      finished = λ i f. absurd (false_true f);
      reads = λ i m d. absurd (Memᴰ.not-nil m);
      order = λ i j f b m. absurd (Memᴰ.not-nil m);
    }
