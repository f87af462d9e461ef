-- What holds of the state after any accepted records: who is busy with what, that operations are told apart, and that no operation makes
-- its one leaf write or its one root read twice.
use Prim.Native.Nat.{ℕ, zero, suc, ◌^◌, ◌≤◌, ◌<◌}
use native.Mathlib.Omega.{arith}
use mathlib.Core.Path.{◌≡◌, refl, sym, ap, ◌∙◌, subst}
use mathlib.Core.Logic.{⊎_elim}
use mathlib.Core.Bool.{Bool, true, false, cond}
use mathlib.Core.List.{List, ◌∷◌}
use lib.ListN.{length}
use lib.Dec.{eqb}
use lib.Pow.{pow_mono}
use borrow.Author.Tests.{ne_eqb}
use Rattle.meaning.specs.Access.{Access, starts, is_leaf_write, component_of, is_root_read, is_second_link}
use Rattle.meaning.specs.Shape.{Form}
use Rattle.meaning.specs.Layout.{highest_tree}
use Rattle.meaning.specs.Operations.{addition_steps}
use Rattle.meaning.specs.Steps.{upd, Process, idle as idleProcess, Effect, effect, access_of, next_record, at_step}
use Rattle.meaning.specs.Run.{Entry, Row, State, blank, initial, busy_count, started, kind_of, new_row, start, row_after, most_operations, take_step}
use Rattle.meaning.proofs.Updates.{upd_cases}
use Rattle.taken.proofs.Agree.{Once, none, more}
use Rattle.spots.specs.Spot.{Spot, At, last_step}
use Rattle.spots.proofs.Laws.{addition_long, at_late, steps_long, last_addition, last_read, job, effect_keeps}
use Rattle.spots.proofs.Within.{within_le}
use Rattle.spots.specs.Lawful.{Lawful}
use Rattle.history.proofs.Turns.{false_true, Turn, root, leaf, write, link, group, store, turn, retry, up, done}
use Rattle.history.proofs.Did.{did, did_leaf, did_other, did_not, did_cases}
use Rattle.spots.proofs.Shapes.{opened_two}

pub not_done : (s : ℕ) → eqb s 0 ≡ false → 1 ≤ s
not_done zero e = absurd (false_true (sym e))
not_done (suc s) e = omega arith

pub at_most_one : (t : Bool) → cond t 1 0 ≤ 1
at_most_one true = omega arith
at_most_one false = omega arith

pub record Good (F : Form) (st : State) : Type 0 where
  pub lawful : Lawful F.shape
  pub low : 1 ≤ F.height
  pub high : F.height ≤ highest_tree
  -- no process beyond the tree is busy, and each step number is of its operation's list
  pub beyond : (p : ℕ) → 2 ^ F.height ≤ p → (st.process p).step ≡ 0
  pub range : (p : ℕ) → (st.process p).step ≤ last_step F p (st.process p).adds
  -- a busy process has an operation of its own, which is not finished
  pub owns : (p : ℕ) → 1 ≤ (st.process p).step → (st.process p).operation < st.operations
  pub apart : (p q : ℕ) → 1 ≤ (st.process p).step → 1 ≤ (st.process q).step → (st.process p).operation ≡ (st.process q).operation → p ≡ q
  pub unfinished : (p : ℕ) → 1 ≤ (st.process p).step → (st.row (st.process p).operation).finished ≡ false
  pub owner : (p : ℕ) → 1 ≤ (st.process p).step → (st.row (st.process p).operation).process ≡ p
  pub few : st.operations ≤ most_operations
  -- the history speaks of operations that have started; an addition has not written before step 3, and no busy operation has read the root
  pub known : (kind : Access → Bool) (i : ℕ) → did kind i st.history ≡ true → i < st.operations
  pub fresh : (p : ℕ) → 1 ≤ (st.process p).step → ((st.process p).adds ≡ true → (st.process p).step ≤ 2) → did is_leaf_write (st.process p).operation st.history ≡ false
  pub unread : (p : ℕ) → 1 ≤ (st.process p).step → did is_root_read (st.process p).operation st.history ≡ false
  pub kinds : (i : ℕ) → did is_leaf_write i st.history ≡ true → did is_root_read i st.history ≡ false
  pub once : Once st.history
  -- the rows' numbers are small
  pub sorts : (i : ℕ) → (st.row i).kind < 256
  pub owners : (i : ℕ) → (st.row i).process < 64
  pub steps : (i : ℕ) → (st.row i).steps ≤ length st.history
  pub seconds : (i : ℕ) → (st.row i).seconds ≤ length st.history

-- an addition's list has more than the two steps at the leaf
two_more : (F : Form) (p : ℕ) → Lawful F.shape → 2 ≤ length (addition_steps F p)
two_more F p lawful = omega (arith, addition_long F p, opened_two F p lawful)

pub good_initial : (F : Form) → Lawful F.shape → 1 ≤ F.height → F.height ≤ highest_tree → Good F (initial F)
unfolding initial idleProcess blank did
good_initial F lawful low high =
    record {
      lawful = lawful;
      low = low;
      high = high;
      beyond = λ p b. refl;
      range = λ p. omega arith;
      owns = λ p b. omega arith;
      apart = λ p q b c e. omega arith;
      unfinished = λ p b. refl;
      owner = λ p b. absurd (omega arith);
      few = omega arith;
      known = λ kind i e. absurd (false_true e);
      fresh = λ p b f. refl;
      unread = λ p b. refl;
      kinds = λ i e. refl;
      once = none;
      sorts = λ i. omega arith;
      owners = λ i. omega arith;
      steps = λ i. omega arith;
      seconds = λ i. omega arith;
    }

-- ---- a start record

-- what it adds to the history
abbrev pub begins_by : Form → ℕ → Bool → ℕ → State → Entry
begins_by F p adds delta st =
    record { process = p; operation = st.operations; access = starts; stored = false; busy = busy_count F (upd st.process p (started st.operations adds delta)) }

module _ (F : Form) (p : ℕ) (adds : Bool) (delta : ℕ) (st : State) where
  -- the new row, and the others
  pub row_cases : (i : ℕ) (P : Row → Type 0) → (i ≡ st.operations → P (new_row p adds delta (length st.history))) → ((i ≡ st.operations → ⊥) → P (st.row i)) → P ((start F p adds delta st).row i)
  unfolding start
  row_cases i P now before = upd_cases st.row st.operations _ P i now before

  -- the record of process q after the start
  pub process_cases : (q : ℕ) (P : Process → Type 0) → (q ≡ p → P (started st.operations adds delta)) → ((q ≡ p → ⊥) → P (st.process q)) → P ((start F p adds delta st).process q)
  unfolding start
  process_cases q P now before = upd_cases st.process p _ P q now before

module _ (F : Form) (p : ℕ) (adds : Bool) (delta : ℕ) (st : State) (g : Good F st) (inside : p < 2 ^ F.height) (free : (st.process p).step ≡ 0) (room : st.operations < most_operations) where
  -- the process's new record, and those of the others
  pub by_process : (P : ℕ → Process → Type 0) → P p (started st.operations adds delta) → ((q : ℕ) → (q ≡ p → ⊥) → P q (st.process q)) → (q : ℕ) → P q ((start F p adds delta st).process q)
  by_process P new old q = process_cases F p adds delta st q (P q) (λ e. subst (λ (x : ℕ). P x (started st.operations adds delta)) (sym e) new) (old q)

  -- the history's new entry is no access
  still : (kind : Access → Bool) → kind starts ≡ false → (i : ℕ) → did kind i (start F p adds delta st).history ≡ did kind i st.history
  unfolding start
  still kind k i = did_not kind i _ st.history k

  -- nothing is known of the new operation
  new : (kind : Access → Bool) → did kind st.operations st.history ≡ false
  new kind = go (did kind st.operations st.history) refl
    where
      go : (t : Bool) → did kind st.operations st.history ≡ t → t ≡ false
      go true e = absurd (omega (arith, g.known kind st.operations e))
      go false e = refl

  pub started_row : (i : ℕ) (P : Row → Type 0) → P (new_row p adds delta (length st.history)) → ((i ≡ st.operations → ⊥) → P (st.row i)) → P ((start F p adds delta st).row i)
  started_row i P now before = row_cases F p adds delta st i P (λ e. now) before

  kind_small : (t : Bool) → kind_of t < 256
  unfolding kind_of
  kind_small true = omega arith
  kind_small false = omega arith

  first_step : (t : Bool) → 1 ≤ last_step F p t
  first_step true = omega (arith, last_addition F p true refl, two_more F p g.lawful)
  first_step false = omega (arith, last_read F p false refl)

  pub good_start : Good F (start F p adds delta st)
  unfolding start started new_row is_leaf_write is_root_read
  good_start =
      record {
        lawful = g.lawful;
        low = g.low;
        high = g.high;
        beyond = by_process (λ q r. 2 ^ F.height ≤ q → r.step ≡ 0) (λ b. absurd (omega arith)) (λ q n b. g.beyond q b);
        range = by_process (λ q r. r.step ≤ last_step F q r.adds) (first_step adds) (λ q n. g.range q);
        owns = by_process (λ q r. 1 ≤ r.step → r.operation < suc st.operations) (λ b. omega arith) (λ q n b. omega (arith, g.owns q b));
        apart = by_process (λ x r. (y : ℕ) → 1 ≤ r.step → 1 ≤ ((start F p adds delta st).process y).step → r.operation ≡ ((start F p adds delta st).process y).operation → x ≡ y)
            (by_process (λ y r. 1 ≤ 1 → 1 ≤ r.step → st.operations ≡ r.operation → p ≡ y) (λ b c e. refl) (λ y n b c e. absurd (omega (arith, g.owns y c))))
            (λ x n. by_process (λ y r. 1 ≤ (st.process x).step → 1 ≤ r.step → (st.process x).operation ≡ r.operation → x ≡ y) (λ b c e. absurd (omega (arith, g.owns x b))) (λ y m b c e. g.apart x y b c e));
        unfinished = by_process (λ q r. 1 ≤ r.step → ((start F p adds delta st).row r.operation).finished ≡ false)
            (λ b. started_row st.operations (λ w. w.finished ≡ false) refl (λ n. absurd (n refl)))
            (λ q n b. started_row (st.process q).operation (λ w. w.finished ≡ false) refl (λ m. g.unfinished q b));
        owner = by_process (λ q r. 1 ≤ r.step → ((start F p adds delta st).row r.operation).process ≡ q)
            (λ b. row_cases F p adds delta st st.operations (λ w. w.process ≡ p) (λ e. refl) (λ n. absurd (n refl)))
            (λ q n b. row_cases F p adds delta st (st.process q).operation (λ w. w.process ≡ q) (λ e. absurd (omega (arith, g.owns q b))) (λ m. g.owner q b));
        few = room;
        known = λ kind i e. ⊎_elim (λ d. omega (arith, g.known kind i d)) (λ d. omega (arith, d.1)) (did_cases kind i _ st.history e);
        fresh = by_process (λ q r. 1 ≤ r.step → (r.adds ≡ true → r.step ≤ 2) → did is_leaf_write r.operation (start F p adds delta st).history ≡ false)
            (λ b f. still is_leaf_write refl st.operations ∙ new is_leaf_write)
            (λ q n b f. still is_leaf_write refl (st.process q).operation ∙ g.fresh q b f);
        unread = by_process (λ q r. 1 ≤ r.step → did is_root_read r.operation (start F p adds delta st).history ≡ false)
            (λ b. still is_root_read refl st.operations ∙ new is_root_read)
            (λ q n b. still is_root_read refl (st.process q).operation ∙ g.unread q b);
        kinds = λ i e. still is_root_read refl i ∙ g.kinds i (sym (still is_leaf_write refl i) ∙ e);
        once = more (λ e. absurd (false_true e)) g.once;
        sorts = λ i. started_row i (λ w. w.kind < 256) (kind_small adds) (λ n. g.sorts i);
        owners = λ i. started_row i (λ w. w.process < 64) (omega (arith, pow_mono g.high)) (λ n. g.owners i);
        steps = λ i. started_row i (λ w. w.steps ≤ suc (length st.history)) (omega arith) (λ n. omega (arith, g.steps i));
        seconds = λ i. started_row i (λ w. w.seconds ≤ suc (length st.history)) (omega arith) (λ n. omega (arith, g.seconds i));
      }

-- ---- a step

-- the facts of one step by a busy process p: its record before and after, and its access
pub record Stepping (F : Form) (p : ℕ) (st : State) : Type 0 where
  pub good : Good F st
  pub inside : p < 2 ^ F.height
  pub acts : 1 ≤ (st.process p).step

abbrev pub access_by : Form → ℕ → State → Access
access_by F p st = access_of F p (st.process p)

abbrev pub effect_by : Form → ℕ → State → Effect
effect_by F p st = effect F p (st.process p) st.memory (access_by F p st)

abbrev pub record_after : Form → ℕ → State → Process
record_after F p st = next_record F p (st.process p) (effect_by F p st)

-- what the step adds to the history
abbrev pub entry_by : Form → ℕ → State → Entry
entry_by F p st =
    record {
      process = p;
      operation = (st.process p).operation;
      access = access_by F p st;
      stored = (effect_by F p st).stored;
      busy = busy_count F (upd st.process p (record_after F p st));
    }

pub history_step : (F : Form) (p : ℕ) (st : State) → (take_step F p st).history ≡ entry_by F p st ∷ st.history
unfolding take_step
history_step F p st = refl

module _ (F : Form) (p : ℕ) (st : State) (s : Stepping F p st) where
  g : Good F st
  g = s.good

  pub turns : Turn F p (st.process p) st.memory (record_after F p st).step (access_by F p st)
  turns = turn F p (st.process p) st.memory (record { lawful = s.good.lawful; low = s.good.low; busy = s.acts; last = s.good.range p })

  pub same_job : job (record_after F p st) ≡ job (st.process p)
  unfolding next_record at_step
  same_job = effect_keeps F p (st.process p) st.memory (access_by F p st)

  pub same_operation : (record_after F p st).operation ≡ (st.process p).operation
  same_operation = ap (λ (q : ℕ × Bool × ℕ). q.0) same_job

  pub same_adds : (record_after F p st).adds ≡ (st.process p).adds
  same_adds = ap (λ (q : ℕ × Bool × ℕ). q.1) same_job

  pub in_range : (record_after F p st).step ≤ last_step F p (record_after F p st).adds
  unfolding next_record at_step
  in_range = rw (same_adds, ← steps_long F p (st.process p)) (within_le _ _)

  pub by_stepper : (P : ℕ → Process → Type 0) → P p (record_after F p st) → ((q : ℕ) → (q ≡ p → ⊥) → P q (st.process q)) → (q : ℕ) → P q ((take_step F p st).process q)
  unfolding take_step
  by_stepper P now before q =
      upd_cases st.process p (record_after F p st) (P q) q (λ e. subst (λ (x : ℕ). P x (record_after F p st)) (sym e) now) (before q)

  -- another busy process has another operation
  pub other : (q : ℕ) → (q ≡ p → ⊥) → 1 ≤ (st.process q).step → (st.process q).operation ≡ (st.process p).operation → ⊥
  other q n b e = n (s.good.apart q p b s.acts e)

  did_elsewhere : (kind : Access → Bool) (q : ℕ) → (q ≡ p → ⊥) → 1 ≤ (st.process q).step
      → did kind (st.process q).operation (take_step F p st).history ≡ did kind (st.process q).operation st.history
  unfolding take_step
  did_elsewhere kind q n b = did_other kind (st.process q).operation (entry_by F p st) st.history (other q n b)

  did_still : (kind : Access → Bool) (i : ℕ) → kind (access_by F p st) ≡ false → did kind i (take_step F p st).history ≡ did kind i st.history
  unfolding take_step
  did_still kind i n = did_not kind i (entry_by F p st) st.history n

  -- past its leaf write
  late : {t : ℕ} {σ : Spot} → At F p t σ → 3 ≤ t
  late {t} {σ} at = omega (arith, at_late F p t σ at, opened_two F p s.good.lawful)

  -- the stepping process itself: what its record and its access say of the history
  own_fresh : {a : Access} → Turn F p (st.process p) st.memory (record_after F p st).step a → access_by F p st ≡ a
      → 1 ≤ (record_after F p st).step → ((st.process p).adds ≡ true → (record_after F p st).step ≤ 2)
      → did is_leaf_write (st.process p).operation (take_step F p st).history ≡ false
  unfolding is_leaf_write
  own_fresh (root e w z) eq b f = absurd (omega arith)
  own_fresh (leaf e w z) eq b f = did_still is_leaf_write (st.process p).operation (ap is_leaf_write eq) ∙ s.good.fresh p s.acts (λ e. omega arith)
  own_fresh (write e w z n) eq b f = absurd (omega (arith, f e))
  own_fresh (link e σ c w n) eq b f = absurd (omega (arith, f e, late n))
  own_fresh (group e σ c i l w n) eq b f = absurd (omega (arith, f e, late n))
  own_fresh (store e σ c w (retry k o n)) eq b f = absurd (omega (arith, f e, late n))
  own_fresh (store e σ c w (up k n)) eq b f = absurd (omega (arith, f e, late n))
  own_fresh (store e σ c w (done k l z)) eq b f = absurd (omega arith)

  -- a root read ends its operation, and is no addition's
  pub root_read_ends : {a : Access} → Turn F p (st.process p) st.memory (record_after F p st).step a → is_root_read a ≡ true
      → ((record_after F p st).step ≡ 0) × ((st.process p).adds ≡ false)
  unfolding is_root_read
  root_read_ends (root e w z) k = (z, e)
  root_read_ends (leaf e w z) k = absurd (false_true k)
  root_read_ends (write e w z n) k = absurd (false_true k)
  root_read_ends (link e σ c w n) k = absurd (false_true k)
  root_read_ends (group e σ c i l w n) k = absurd (false_true k)
  root_read_ends (store e σ c w n) k = absurd (false_true k)

  -- a leaf write is an addition's step 2, to its own component, and no root read
  pub leaf_write_is : {a : Access} → Turn F p (st.process p) st.memory (record_after F p st).step a → is_leaf_write a ≡ true
      → ((st.process p).step ≡ 2) × (is_root_read a ≡ false) × (component_of a ≡ p)
  unfolding is_leaf_write is_root_read component_of
  leaf_write_is (root e w z) k = absurd (false_true k)
  leaf_write_is (leaf e w z) k = absurd (false_true k)
  leaf_write_is (write e w z n) k = (w, refl, refl)
  leaf_write_is (link e σ c w n) k = absurd (false_true k)
  leaf_write_is (group e σ c i l w n) k = absurd (false_true k)
  leaf_write_is (store e σ c w n) k = absurd (false_true k)

  unwritten : is_leaf_write (access_by F p st) ≡ true → did is_leaf_write (st.process p).operation st.history ≡ false
  unwritten k = s.good.fresh p s.acts (λ e. omega (arith, (leaf_write_is turns k).0))

  own_unread : 1 ≤ (record_after F p st).step → did is_root_read (st.process p).operation (take_step F p st).history ≡ false
  own_unread b = go (is_root_read (access_by F p st)) refl
    where
      go : (t : Bool) → is_root_read (access_by F p st) ≡ t → did is_root_read (st.process p).operation (take_step F p st).history ≡ false
      go true k = absurd (omega (arith, (root_read_ends turns k).0))
      go false k = did_still is_root_read (st.process p).operation k ∙ s.good.unread p s.acts

  pub stepped_row : (i : ℕ) (P : Row → Type 0) → (i ≡ (st.process p).operation → P (row_after (access_by F p st) (record_after F p st) (length st.history) (st.row (st.process p).operation))) → ((i ≡ (st.process p).operation → ⊥) → P (st.row i)) → P ((take_step F p st).row i)
  unfolding take_step
  stepped_row i P now before = upd_cases st.row (st.process p).operation _ P i now before

  kinds_step : (i : ℕ) → did is_leaf_write i (take_step F p st).history ≡ true → did is_root_read i (take_step F p st).history ≡ false
  kinds_step i d = ⊎_elim before now (did_cases is_leaf_write i (entry_by F p st) st.history (ap (λ (l : List Entry). did is_leaf_write i l) (sym (history_step F p st)) ∙ d))
    where
      before : did is_leaf_write i st.history ≡ true → did is_root_read i (take_step F p st).history ≡ false
      before w = go (did is_root_read i (take_step F p st).history) refl
        where
          never : did is_root_read i st.history ≡ true → ⊥
          never k = false_true (sym (s.good.kinds i w) ∙ k)

          its : (is_root_read (access_by F p st) ≡ true) × (i ≡ (st.process p).operation) → ⊥
          its k = false_true (sym (s.good.fresh p s.acts (λ e. absurd (false_true (sym (root_read_ends turns k.0).1 ∙ e)))) ∙ rw (← k.1) w)

          go : (t : Bool) → did is_root_read i (take_step F p st).history ≡ t → t ≡ false
          go true e =
              absurd (⊎_elim never its (did_cases is_root_read i (entry_by F p st) st.history (ap (λ (l : List Entry). did is_root_read i l) (sym (history_step F p st)) ∙ e)))
          go false e = refl

      now : (is_leaf_write (access_by F p st) ≡ true) × (i ≡ (st.process p).operation) → did is_root_read i (take_step F p st).history ≡ false
      now w = did_still is_root_read i (leaf_write_is turns w.0).1 ∙ rw w.1 (s.good.unread p s.acts)

  pub good_step : Good F (take_step F p st)
  unfolding take_step row_after
  good_step =
      record {
        lawful = s.good.lawful;
        low = s.good.low;
        high = s.good.high;
        beyond = by_stepper (λ q r. 2 ^ F.height ≤ q → r.step ≡ 0) (λ b. absurd (omega (arith, s.inside))) (λ q n b. s.good.beyond q b);
        range = by_stepper (λ q r. r.step ≤ last_step F q r.adds) in_range (λ q n. s.good.range q);
        owns = by_stepper (λ q r. 1 ≤ r.step → r.operation < st.operations) (λ b. rw same_operation (s.good.owns p s.acts)) (λ q n b. s.good.owns q b);
        apart = by_stepper (λ x r. (y : ℕ) → 1 ≤ r.step → 1 ≤ ((take_step F p st).process y).step → r.operation ≡ ((take_step F p st).process y).operation → x ≡ y)
            (by_stepper (λ y r. 1 ≤ (record_after F p st).step → 1 ≤ r.step → (record_after F p st).operation ≡ r.operation → p ≡ y) (λ b c e. refl)
            (λ y n b c e. s.good.apart p y s.acts c (sym same_operation ∙ e)))
            (λ x n. by_stepper (λ y r. 1 ≤ (st.process x).step → 1 ≤ r.step → (st.process x).operation ≡ r.operation → x ≡ y)
            (λ b c e. s.good.apart x p b s.acts (e ∙ same_operation)) (λ y m b c e. s.good.apart x y b c e));
        unfinished = by_stepper (λ q r. 1 ≤ r.step → ((take_step F p st).row r.operation).finished ≡ false)
            (λ b. stepped_row (record_after F p st).operation (λ w. w.finished ≡ false) (λ e. ne_eqb (record_after F p st).step 0 (λ z. omega arith)) (λ n. absurd (n same_operation)))
            (λ q n b. stepped_row (st.process q).operation (λ w. w.finished ≡ false) (λ e. absurd (other q n b e)) (λ m. s.good.unfinished q b));
        owner = by_stepper (λ q r. 1 ≤ r.step → ((take_step F p st).row r.operation).process ≡ q)
            (λ b. stepped_row (record_after F p st).operation (λ w. w.process ≡ p) (λ e. s.good.owner p s.acts) (λ n. absurd (n same_operation)))
            (λ q n b. stepped_row (st.process q).operation (λ w. w.process ≡ q) (λ e. absurd (other q n b e)) (λ m. s.good.owner q b));
        few = s.good.few;
        known = λ kind i e. ⊎_elim (λ d. s.good.known kind i d) (λ d. rw d.1 (s.good.owns p s.acts)) (did_cases kind i (entry_by F p st) st.history e);
        fresh = by_stepper (λ q r. 1 ≤ r.step → (r.adds ≡ true → r.step ≤ 2) → did is_leaf_write r.operation (take_step F p st).history ≡ false)
            (λ b f. ap (λ (i : ℕ). did is_leaf_write i (take_step F p st).history) same_operation ∙ own_fresh turns refl b (λ e. f (same_adds ∙ e)))
            (λ q n b f. did_elsewhere is_leaf_write q n b ∙ s.good.fresh q b f);
        unread = by_stepper (λ q r. 1 ≤ r.step → did is_root_read r.operation (take_step F p st).history ≡ false)
            (λ b. ap (λ (i : ℕ). did is_root_read i (take_step F p st).history) same_operation ∙ own_unread b)
            (λ q n b. did_elsewhere is_root_read q n b ∙ s.good.unread q b);
        kinds = kinds_step;
        once = more (λ e. did_leaf (st.process p).operation st.history ∙ unwritten e) s.good.once;
        sorts = λ i. stepped_row i (λ w. w.kind < 256) (λ e. s.good.sorts (st.process p).operation) (λ n. s.good.sorts i);
        owners = λ i. stepped_row i (λ w. w.process < 64) (λ e. s.good.owners (st.process p).operation) (λ n. s.good.owners i);
        steps = λ i. stepped_row i (λ w. w.steps ≤ suc (length st.history)) (λ e. omega (arith, s.good.steps (st.process p).operation)) (λ n. omega (arith, s.good.steps i));
        seconds = λ i. stepped_row i (λ w. w.seconds ≤ suc (length st.history)) (λ e. omega (arith, s.good.seconds (st.process p).operation, at_most_one (is_second_link (access_by F p st)))) (λ n. omega (arith, s.good.seconds i));
      }
