-- Every number of an accepted recording's report is below 2^32.
use Prim.Native.Nat.{ℕ, suc, ◌+◌, ◌^◌, ◌≤◌, ◌<◌}
use native.Mathlib.Omega.{arith}
use mathlib.Core.Path.{◌≡◌, refl, subst⁻¹}
use mathlib.Core.Bool.{Bool, true, false, cond}
use mathlib.Core.List.{List, []}
use lib.Dec.{eqb}
use Rattle.sets.specs.Processes.{nobody}
use Rattle.cell.specs.Cell.{State as Cell, read_of, load_linked, store_conditional}
use Rattle.meaning.proofs.Updates.{upd_cases}
use Rattle.meaning.specs.Layout.{form_of}
use Rattle.meaning.specs.Tree.{leaf_of, root}
use Rattle.meaning.specs.Access.{Access, starts, reads_root, reads_leaf, writes_leaf, links, reads, stores, is_root_read, is_second_link}
use Rattle.meaning.specs.Steps.{upd, Memory, Process, idle, cell_at, with_cell, with_value, onward, saw_it, saw_children, at_step, effect, next_record}
use Rattle.meaning.specs.Shape.{Form, plus}
use Rattle.meaning.specs.Run.{State, blank, initial, started, kind_of, new_row, start, row_after, most_operations, take_step, accepted, outcome}
use Rattle.meaning.specs.TakenIn.{listed, rank}
use Rattle.ledger.specs.Kept.{Kept}
use Rattle.spots.specs.Lawful.{Lawful}
use Rattle.history.proofs.Good.{Good, Stepping, access_by, effect_by, record_after, by_process, by_stepper, started_row, stepped_row}
use Rattle.taken.proofs.Lists.{position_le}
use Rattle.ledger.proofs.Keeps.{Keeps, keeps_step, keeps_start, keeps_initial}
use Rattle.ledger.proofs.Total.{Total, size, total_few, total_step, total_start, total_initial}
use Rattle.history.proofs.Accepted.{accepted_keeps, accepted_steps, longest_list}

-- ---- what an access reads and leaves is below 2^32 where the memory was

abbrev Small : (ℕ → ℕ) → Type 0
Small value = (x : ℕ) → value x < 2 ^ 32

plus_small : (a b : ℕ) → plus a b < 2 ^ 32
unfolding plus
plus_small a b = omega arith

upd_small : (value : ℕ → ℕ) (c v : ℕ) → Small value → v < 2 ^ 32 → Small (upd value c v)
upd_small value c v all b x = upd_cases value c v (λ n. n < 2 ^ 32) x (λ e. b) (λ n. all x)

store_small : (u old : ℕ) (set : ℕ → Bool) (t : Bool) → u < 2 ^ 32 → old < 2 ^ 32
    → (cond {A = Cell} t (record { value = u; linked = nobody }) (record { value = old; linked = set })).value < 2 ^ 32
store_small u old set true a b = a
store_small u old set false a b = b

effect_small : (F : Form) → Lawful F.shape → (p : ℕ) (r : Process) (m : Memory) (a : Access) → Small m.value → r.seen < 2 ^ 32
    → Small (effect F p r m a).memory.value × ((effect F p r m a).process.seen < 2 ^ 32)
unfolding effect onward saw_it saw_children read_of cell_at with_cell with_value load_linked store_conditional
effect_small F lawful p r m starts all b = (all, b)
effect_small F lawful p r m reads_root all b = (all, all root)
effect_small F lawful p r m (reads_leaf c) all b = (all, all (leaf_of F.height c))
effect_small F lawful p r m (writes_leaf c) all b = (upd_small m.value (leaf_of F.height c) _ all (plus_small r.seen r.delta), b)
effect_small F lawful p r m (links a x) all b = (upd_small m.value x _ all (all x), b)
effect_small F lawful p r m (reads x from count) all b = (all, b)
effect_small F lawful p r m (stores a x) all b =
    let sum : F.shape.joins F.height x r.children < 2 ^ 32 = subst⁻¹ (λ (v : ℕ). v < 2 ^ 32) (lawful.sums F.height x r.children) (plus_small (r.children 0) (r.children 1)) in
    (upd_small m.value x _ all (store_small _ (m.value x) (m.linked x) (m.linked x p) sum (all x)), b)

-- ---- through every record

record Below (F : Form) (st : State) : Type 0 where
  values : Small st.memory.value
  seen : (p : ℕ) → (st.process p).seen < 2 ^ 32
  answers : (i : ℕ) → (st.row i).answer < 2 ^ 32
  seconds : (i : ℕ) → (st.row i).seconds ≤ (st.row i).steps
  -- what a replay would keep whose rows show no contention
  shown : ℕ → ℕ
  none : (i : ℕ) → shown i ≡ 0
  kept : Kept
  keeps : Keeps F st shown kept
  total : Total st kept

abbrev nothing : Kept
nothing = record { counts = record { in_node = λ l q. 0; read = λ l q. 0 }; queue = []; listed = 0; rows = λ j. 0 }

below_initial : (F : Form) → Lawful F.shape → Below F (initial F)
unfolding initial idle blank
below_initial F lawful =
    record {
      values = λ x. omega (arith, lawful.zero);
      seen = λ p. omega arith;
      answers = λ i. omega arith;
      seconds = λ i. omega arith;
      shown = λ i. 0;
      none = λ i. refl;
      kept = nothing;
      keeps = keeps_initial F (λ i. 0) nothing (λ l q. refl) refl refl;
      total = total_initial F nothing refl refl;
    }

answer_small : (t : Bool) (v : ℕ) → v < 2 ^ 32 → cond t v 0 < 2 ^ 32
answer_small true v b = b
answer_small false v b = omega arith

neither : (t : Bool) → ◌≡◌ {A = ℕ} (cond t 0 0) 0
neither true = refl
neither false = refl

one_more : (t : Bool) (a b : ℕ) → a ≤ b → a + cond t 1 0 ≤ suc b
one_more true a b le = omega arith
one_more false a b le = omega arith

module _ (F : Form) (p : ℕ) (st : State) (s : Stepping F p st) (k : Below F st) where
  after : Small (effect_by F p st).memory.value × ((effect_by F p st).process.seen < 2 ^ 32)
  after = effect_small F s.good.lawful p (st.process p) st.memory (access_by F p st) k.values (k.seen p)

  seen_after : (record_after F p st).seen < 2 ^ 32
  unfolding next_record at_step
  seen_after = after.1

  below_step : Below F (take_step F p st)
  unfolding take_step row_after
  below_step =
      record {
        values = after.0;
        seen = by_stepper F p st s (λ q r. r.seen < 2 ^ 32) seen_after (λ q n. k.seen q);
        answers = λ i. stepped_row F p st s i (λ w. w.answer < 2 ^ 32) (λ e. answer_small (is_root_read (access_by F p st)) _ seen_after) (λ n. k.answers i);
        seconds = λ i. stepped_row F p st s i (λ w. w.seconds ≤ w.steps) (λ e. one_more (is_second_link (access_by F p st)) _ _ (k.seconds (st.process p).operation)) (λ n. k.seconds i);
        shown = _;
        none = λ i. upd_cases k.shown (st.process p).operation _ (λ n. n ≡ 0) i (λ e. neither (eqb (record_after F p st).step 0)) (λ n. k.none i);
        kept = _;
        keeps = keeps_step F p st s k.shown k.kept k.keeps (k.none (st.process p).operation) 0;
        total = total_step F p st s k.kept k.total 0;
      }

module _ (F : Form) (p : ℕ) (adds : Bool) (delta : ℕ) (st : State) (g : Good F st) (inside : p < 2 ^ F.height) (free : (st.process p).step ≡ 0) (room : st.operations < most_operations) (k : Below F st) where
  below_start : Below F (start F p adds delta st)
  unfolding start started new_row
  below_start =
      record {
        values = k.values;
        seen = by_process F p adds delta st g inside free room (λ q r. r.seen < 2 ^ 32) (omega arith) (λ q n. k.seen q);
        answers = λ i. started_row F p adds delta st g inside free room i (λ w. w.answer < 2 ^ 32) (omega arith) (λ n. k.answers i);
        seconds = λ i. started_row F p adds delta st g inside free room i (λ w. w.seconds ≤ w.steps) (omega arith) (λ n. k.seconds i);
        shown = _;
        none = λ i. upd_cases k.shown st.operations 0 (λ n. n ≡ 0) i (λ e. refl) (λ n. k.none i);
        kept = _;
        keeps = keeps_start F p adds delta st g inside free room k.shown k.kept k.keeps;
        total = total_start F p adds delta st g k.kept k.total (kind_of adds);
      }

-- ---- of every accepted recording

pub record Fits (F : Form) (st : State) : Type 0 where
  pub operations : st.operations ≤ 1024
  pub counter : st.memory.value root < 2 ^ 32
  pub steps : (i : ℕ) → (st.row i).steps < 2 ^ 32
  pub answer : (i : ℕ) → (st.row i).answer < 2 ^ 32
  pub rank : (i : ℕ) → rank F st.history i < 2 ^ 32
  pub seconds : (i : ℕ) → (st.row i).seconds < 2 ^ 32

pub accepted_fits : (s : List ℕ) (st : State) → outcome s ≡ accepted st → Fits (form_of s) st
unfolding rank size
accepted_fits s st e =
    let r = accepted_keeps Below below_initial (λ F p x y z. below_step F p x y z) (λ F p a d x g b f o z. below_start F p a d x g b f o z) s st e in
    let k = r.1 in
    let steps = (accepted_steps s st e).few in
    record {
      operations = r.0.few;
      counter = k.values root;
      steps = λ i. omega (arith, steps i, longest_list s (st.row i), r.0.high);
      answer = k.answers;
      rank = λ i. omega (arith, position_le i (listed (form_of s) st.history), k.keeps.listing, total_few st k.kept k.total, r.0.few);
      seconds = λ i. omega (arith, k.seconds i, steps i, longest_list s (st.row i), r.0.high);
    }
