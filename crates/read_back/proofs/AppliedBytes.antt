-- `ReadBack` applied to A to F: its premises are met there, and what its clauses make of the recordings are the documented columns.
use Prim.Native.Nat.{ℕ, zero, suc, ◌+◌, ◌*◌, ◌/◌, min, max, ◌≤◌, ◌<◌}
use native.Mathlib.Omega.{arith}
use mathlib.Core.Path.{◌≡◌, refl, sym, ap, ap₂, ◌∙◌}
use mathlib.Core.Logic.{⊎_elim}
use mathlib.Core.Bool.{Bool, true, false, cond, ◌&&◌, ◌||◌}
use mathlib.Core.List.Memᴰ
use mathlib.Core.List.{List, [], ◌∷◌, ◌++◌, map, Memᴰ}
use lib.ListN.{get_or, drop}
use lib.Dec.{eqb, leb, ltb}
use borrow.Author.Tests.{eqb-true, eqb-false, eq-eqb, leb-true, ltb-true, ltb-false}
use Rattle.sets.specs.Processes.{nobody, with, count_below}
use Rattle.cell.specs.Cell.{read_of, load_linked, succeeds, store_conditional}
use Rattle.recording.specs.Numbers.{four_bytes, number_at}
use Rattle.recording.specs.Record.{Answer, in_table, whole, event_at, cut_at}
use Rattle.meaning.specs.Refusals.{first_of}
use Rattle.meaning.specs.Layout.{version, follows as followsOf, height, shape_of, form_of, too_short, other_version, too_long, false_length, no_height, unknown_shape, head_refusal, kind_byte, follow, records_from, records_of}
use Rattle.meaning.specs.Tree.{processes, leaf_of, left, right, child, parent, ancestor, root}
use Rattle.meaning.specs.Operations.{attempt, climb, addition_steps, read_steps}
use Rattle.meaning.specs.Access.{is_root_read, is_leaf_write, component_of, is_read_of, is_store_at, is_second_link}
use Rattle.meaning.specs.Steps.{upd, cell_at, with_cell, with_value, idle, steps_of, access_of, onward, passes_by, saw_it, saw_children, at_step, effect, within, next_record}
use Rattle.meaning.specs.Shape.{plus, counting, numbered, is_one_of}
use Rattle.meaning.specs.Run.{blank, initial, busy, busy_count, started, kind_of, new_row, start, row_after, take_step, process_of, is_start, refusal_by, record_refusal, take_event, unless, run, outcome}
use Rattle.meaning.specs.Contention.{during, contention}
use Rattle.meaning.specs.TakenIn.{in_leaf, before_read, in_store, is_in_node, keep, leaf_writes, in_root, placed, listed, further, position_of, rank}
use Rattle.meaning.specs.Plain.{number_after, run_down, up_to, times_in}
use Rattle.meaning.specs.Report.{one, row_bytes, rows_bytes, report_bytes, needed, passes, answer_with, buffer_with, report_answer, report_buffer}
use Rattle.meaning.specs.Starred.{Case, join, times, step, reads, adds, recording, report_of, row, refusal, acceptance, cases, lent}
use Rattle.history.proofs.Turns.{false_true}
use Rattle.taken.proofs.Lists.{mem_keep}
use Rattle.counter.proofs.Overs.{and_both}
use Rattle.read_back.specs.ReadBack.{row_at, operations_in, counter_in, process_in, kind_in, finished_in, contention_in, steps_in, answer_in, rank_in, seconds_in, with_rank, by_rank, list_in, start_row, starts_of, start_in, operations_from, operations_by, under_way, at_once, most_at_once, ReadBack}
use Rattle.read_back.specs.AppliedBytes.{lettered, bytes_of, is_read, is_finished, starts_again, column, is_before, before_in, finished_by, contention_by, records_by, steps_by, seconds_by, answer_by, above, rank_by, times_by, stands, follows, documented_before, is_same, is_held, changed, last_bytes, unnoticed, documented_unnoticed}
use Rattle.read_back.proofs.Starts.{start_kinds}
use Rattle.read_back.proofs.ReadBack.{read_back}

-- ---- what the clauses give, of every recording and report

next : {A : Type 0} {x y : A} {l m : List A} → x ≡ y → l ≡ m → x ∷ l ≡ y ∷ m
next e f = ap₂ (λ x l. x ∷ l) e f

column_same : (f g : ℕ → ℕ) (k : ℕ) → ((i : ℕ) → i < k → f i ≡ g i) → column f k ≡ column g k
unfolding column
column_same f g zero e = refl
column_same f g (suc k) e = ap₂ (λ (l : List ℕ) (n : ℕ). l ++ (n ∷ [])) (column_same f g k (λ i b. e i (omega arith))) (e k (omega arith))

row_below : (k i : ℕ) → Memᴰ i (column (λ i. i) k) → i < k
unfolding column
row_below zero i m = absurd (Memᴰ.not-nil m)
row_below (suc k) i m = ⊎_elim (λ n. omega (arith, row_below k i n)) (λ n. omega (arith, Memᴰ.eq_of_singleton n)) (Memᴰ.append_cases (column (λ i. i) k) m)

above_all : (rank : ℕ → ℕ) (r : ℕ) (l : List ℕ) → ((i : ℕ) → Memᴰ i l → rank i < r) → above rank l r ≡ r
unfolding above
above_all rank r [] e = refl
above_all rank r (i ∷ l) e = omega (arith, e i (Memᴰ.head refl), above_all rank r l (λ j m. e j (Memᴰ.tail m)))

module _ (s b : List ℕ) (r : ReadBack s b) where
  is_read_lem : (i : ℕ) → is_read b i ≡ true → kind_in b i ≡ 2
  unfolding is_read
  is_read_lem i e = eqb-true (kind_in b i) 2 e

  is_finished_lem : (i : ℕ) → is_finished b i ≡ true → finished_in b i ≡ 1
  unfolding is_finished
  is_finished_lem i e = eqb-true (finished_in b i) 1 e

  addition : (i : ℕ) → i < operations_in b → is_read b i ≡ false → kind_in b i ≡ 3
  unfolding is_read start_in
  addition i l e =
      let k = r.kind i l in
      k ∙ start_kinds (records_of s) i (omega (arith, r.rows)) (λ z. eqb-false (kind_in b i) 2 e (k ∙ z))

  unfinished : (i : ℕ) → i < operations_in b → is_finished b i ≡ false → finished_in b i ≡ 0
  unfolding is_finished
  unfinished i l e = go (finished_in b i) refl (r.either i l)
    where
      go : (n : ℕ) → finished_in b i ≡ n → n ≤ 1 → n ≡ 0
      go zero d m = refl
      go (suc n) d m = absurd (eqb-false (finished_in b i) 1 e (omega arith))

  again : (i k : ℕ) → i < operations_in b → k ≤ operations_in b → starts_again b i k ≡ true → finished_in b i ≡ 1
  unfolding starts_again
  again i zero l m e = absurd (false_true e)
  again i (suc k) l m e = go (starts_again b i k) refl (again i k l (omega arith)) e
    where
      go : (t : Bool) → starts_again b i k ≡ t → (starts_again b i k ≡ true → finished_in b i ≡ 1) → (t || (ltb i k && eqb (process_in b i) (process_in b k))) ≡ true → finished_in b i ≡ 1
      go true d ih u = ih d
      go false d ih u = let v = and_both (ltb i k) _ u in r.again i k (ltb-true i k v.0) (omega arith) (eqb-true (process_in b i) (process_in b k) v.1)

  finished_by_lem : (i : ℕ) → i < operations_in b → finished_in b i ≡ finished_by b i
  unfolding finished_by
  finished_by_lem i l = go (is_read b i) refl (starts_again b i (operations_in b)) refl
    where
      go : (t : Bool) → is_read b i ≡ t → (u : Bool) → starts_again b i (operations_in b) ≡ u → finished_in b i ≡ cond t (steps_in b i) (cond u 1 (min 1 (finished_in b i)))
      go true d u e = sym (r.read_steps i l (is_read_lem i d)).0
      go false d true e = again i (operations_in b) l (omega arith) e
      go false d false e = omega (arith, r.either i l)

  records_by_lem : (i : ℕ) → i < operations_in b → steps_in b i ≡ records_by s i
  unfolding records_by
  records_by_lem i l = omega (arith, r.steps i l)

  -- an unfinished operation that is listed has two steps or more
  written : (i : ℕ) → i < operations_in b → finished_in b i ≡ 0 → 2 * times_in i (list_in b) ≤ steps_in b i
  written i l f = go (ltb (steps_in b i) 2) refl
    where
      go : (t : Bool) → ltb (steps_in b i) 2 ≡ t → 2 * times_in i (list_in b) ≤ steps_in b i
      go true e = omega (arith, r.early i l f (ltb-true (steps_in b i) 2 e))
      go false e = omega (arith, r.unfinished i, ltb-false (steps_in b i) 2 e)

  steps_by_lem : (i : ℕ) → i < operations_in b → steps_in b i ≡ steps_by (height s) b i
  unfolding steps_by
  steps_by_lem i l = go (is_read b i) refl (is_finished b i) refl
    where
      most : ℕ
      most = 2 + 4 * height s + 4 * seconds_in b i

      go : (t : Bool) → is_read b i ≡ t → (u : Bool) → is_finished b i ≡ u → steps_in b i ≡ cond t (finished_in b i) (cond u most (min (1 + 8 * height s) (min most (max (2 * times_in i (list_in b)) (steps_in b i)))))
      go true d u e = (r.read_steps i l (is_read_lem i d)).0
      go false d true e = r.addition_steps i l (is_finished_lem i e) (addition i l d)
      go false d false e = omega (arith, r.bound i l (unfinished i l e), (r.seconds i l).2, written i l (unfinished i l e))

  seconds_by_lem : (i : ℕ) → i < operations_in b → seconds_in b i ≡ seconds_by (height s) b i
  unfolding seconds_by
  seconds_by_lem i l = go (is_read b i) refl
    where
      go : (t : Bool) → is_read b i ≡ t → seconds_in b i ≡ cond t 0 (min (height s) (min ((steps_in b i + 1) / 8) (seconds_in b i)))
      go true d = (r.read_steps i l (is_read_lem i d)).1
      go false d = let u = r.seconds i l in omega (arith, u.0, u.1)

  answer_by_lem : (i : ℕ) → i < operations_in b → answer_in b i ≡ answer_by s b i
  unfolding answer_by
  answer_by_lem i l = go (is_read b i) refl (is_finished b i) refl
    where
      go : (t : Bool) → is_read b i ≡ t → (u : Bool) → is_finished b i ≡ u → answer_in b i ≡ cond (t && u) (run_down (start_in s) 0 (up_to i (list_in b))) 0
      go true d true e = r.answers i l (is_read_lem i d) (is_finished_lem i e)
      go true d false e = r.otherwise i l (λ k. unfinished i l e)
      go false d u e = r.otherwise i l (λ k. absurd (omega (arith, addition i l d)))

  before_all : (j : ℕ) → j < operations_in b → (i : ℕ) → Memᴰ i (before_in s b j) → rank_in b i < rank_in b j
  unfolding before_in is_before
  before_all j l i m =
      let k = mem_keep (is_before s b j) (column (λ i. i) (operations_in b)) m in
      let u = and_both (is_finished b i) _ k.1 in
      let v = and_both _ (leb 1 (rank_in b j)) u.1 in
      r.order i j (row_below (operations_in b) i k.0) l (is_finished_lem i u.0) (eqb-true _ _ v.0) (leb-true 1 (rank_in b j) v.1)

  rank_by_lem : (j : ℕ) → j < operations_in b → rank_in b j ≡ rank_by s b j
  unfolding rank_by
  rank_by_lem j l = sym (above_all (rank_in b) (rank_in b j) (before_in s b j) (before_all j l))

  times_by_lem : (i : ℕ) → i < operations_in b → times_in i (list_in b) ≡ times_by b i
  unfolding times_by
  times_by_lem i l = go (is_finished b i) refl
    where
      go : (t : Bool) → is_finished b i ≡ t → times_in i (list_in b) ≡ cond t 1 (min 1 (times_in i (list_in b)))
      go true e = r.finished i l (is_finished_lem i e)
      go false e = omega (arith, r.unfinished i)

  pub follow_all : stands b ≡ follows s b
  unfolding stands follows contention_by
  follow_all =
      let m : ℕ = operations_in b in
      next (next r.header.0 (next r.header.1 (next r.rows (next (sym r.counter) refl))))
      (next (column_same _ _ m r.process)
      (next (column_same _ _ m r.kind)
      (next (column_same _ _ m finished_by_lem)
      (next (column_same _ _ m r.contention)
      (next (column_same _ _ m records_by_lem)
      (next (column_same _ _ m steps_by_lem)
      (next (column_same _ _ m answer_by_lem)
      (next (column_same _ _ m (λ i l. sym (r.ranks i l)))
      (next (column_same _ _ m rank_by_lem)
      (next (column_same _ _ m seconds_by_lem)
      (next (column_same _ _ m times_by_lem) refl)))))))))))

-- a report whose columns are not so is none of the recording
same_refl : (l : List ℕ) → is_same l l ≡ true
unfolding is_same
same_refl [] = refl
same_refl (x ∷ l) = rw (eq-eqb x x refl) (same_refl l)

pub refused : (s b : List ℕ) → is_held s b ≡ false → ReadBack s b → ⊥
unfolding is_held
refused s b n r = false_true (sym n ∙ ap (λ (t : List (List ℕ)). is_same (join (stands b)) (join t)) (sym (follow_all s b r)) ∙ same_refl (join (stands b)))

-- ---- A to F

abbrev answers : List Case → List Answer
answers l = map (λ c. report_answer c.input lent) l

all_follow : (l : List Case) → answers l ≡ map (λ c. passes) l → map (λ c. stands (bytes_of c)) l ≡ map (λ c. follows c.input (bytes_of c)) l
unfolding bytes_of
all_follow [] e = refl
all_follow (c ∷ l) e =
    next (follow_all c.input (bytes_of c) (read_back c.input lent (ap (λ (a : List Answer). get_or a 0 passes) e))) (all_follow l (ap (λ (a : List Answer). drop 1 a) e))

-- by computing: report passes each of the six; what the clauses make of them is what the document has; where the premise of `order` is met;
-- and which changes are not noticed
six : (answers lettered ≡ map (λ c. passes) lettered)
    × (map (λ c. follows c.input (bytes_of c)) lettered ≡ map (λ c. stands c.report) lettered)
    × (map (λ c. column (before_in c.input (bytes_of c)) (operations_in (bytes_of c))) lettered ≡ documented_before)
    × (map unnoticed lettered ≡ documented_unnoticed)
unfolding nobody with count_below read_of load_linked succeeds store_conditional four_bytes number_at in_table whole event_at cut_at first_of version followsOf height shape_of form_of too_short other_version too_long false_length no_height unknown_shape head_refusal kind_byte follow records_from records_of processes leaf_of left right child parent ancestor root attempt climb addition_steps read_steps is_root_read is_leaf_write component_of is_read_of is_store_at is_second_link upd cell_at with_cell with_value idle steps_of access_of plus counting numbered is_one_of onward passes_by saw_it saw_children at_step effect within next_record blank initial busy busy_count started kind_of new_row start row_after take_step process_of is_start refusal_by record_refusal take_event unless run outcome during contention in_leaf before_read in_store is_in_node keep leaf_writes in_root placed listed further position_of rank one row_bytes rows_bytes report_bytes needed passes answer_with buffer_with report_answer report_buffer join times step reads adds recording report_of row refusal acceptance cases lent number_after run_down up_to times_in row_at operations_in counter_in process_in kind_in finished_in contention_in steps_in answer_in rank_in seconds_in with_rank by_rank list_in start_row starts_of start_in operations_from operations_by under_way at_once most_at_once bytes_of is_read is_finished starts_again is_before before_in finished_by contention_by records_by steps_by seconds_by answer_by above rank_by times_by column stands follows is_same is_held changed last_bytes unnoticed documented_before documented_unnoticed lettered
six = (refl, refl, refl, refl)

-- so the columns of the bytes that report leaves are the documented ones
pub applied_bytes : map (λ c. stands (bytes_of c)) lettered ≡ map (λ c. stands c.report) lettered
applied_bytes = all_follow lettered six.0 ∙ six.1

-- the premise of `order` is met in A, D and E
pub six_before : map (λ c. column (before_in c.input (bytes_of c)) (operations_in (bytes_of c))) lettered ≡ documented_before
six_before = six.2

-- each column of the documented reports is held, but for one finished byte of each except A
pub six_unnoticed : map unnoticed lettered ≡ documented_unnoticed
six_unnoticed = six.3
