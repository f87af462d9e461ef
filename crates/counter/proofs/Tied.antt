-- The invariant of the Tree Algorithm holds of the state after any records that pass: so node 1 holds the sum of the leaves' values after
-- those of their writes that are in node 1, and an addition that has done with node 1 is in it.
use Prim.Native.Nat.{ℕ, zero, suc, ◌%◌, ◌^◌, ◌≤◌, ◌<◌}
use native.Mathlib.Omega.{arith}
use mathlib.Core.Path.{◌≡◌, refl, sym, ap, ◌∙◌, subst⁻¹}
use mathlib.Core.Logic.{inl}
use mathlib.Core.Bool.{Bool, true, false, cond}
use mathlib.Core.List.{[], ◌∷◌}
use lib.Dec.{ltb}
use Rattle.meaning.proofs.Updates.{upd_same, upd_other}
use Rattle.cell.specs.Cell.{load_linked}
use Rattle.meaning.specs.Shape.{Form}
use Rattle.meaning.specs.Tree.{processes, leaf_of}
use Rattle.meaning.specs.Access.{Access, is_leaf_write}
use Rattle.meaning.specs.Steps.{Process, effect, onward as moves, cell_at, with_cell, with_value, next_record, at_step, saw_it, idle as idleProcess}
use Rattle.meaning.specs.Run.{Entry, Row, State, initial, started, new_row, start, row_after, most_operations, take_step}
use Rattle.taken.specs.CountIn.{writes_to, count_in, count_store}
use Rattle.spots.specs.Spot.{Spot, node_of, At}
use Rattle.spots.proofs.Laws.{at_late}
use Rattle.spots.specs.Lawful.{Lawful}
use Rattle.history.proofs.Turns.{Turn, root, leaf, write, link, group, store, retry, up, done}
use Rattle.history.proofs.Good.{Good, Stepping, access_by, record_after, begins_by, turns, same_job, same_operation, by_stepper, by_process, stepped_row}
use Rattle.tree.specs.Machine.{Move, Step}
use Rattle.tree.proofs.Invariant.{Invariant}
use Rattle.tree.proofs.Theorem.{begins, keeps}
use Rattle.counter.specs.SumTree.{level_over, is_over, sum_under, sum_tree}
use Rattle.counter.specs.View.{value_after, deltas, places_of, stand_of, climber_of, held_by, view}
use Rattle.counter.proofs.Overs.{level_is, ancestor_none, leaf_high}
use Rattle.counter.proofs.Sums.{sum_none}
use Rattle.counter.proofs.TreeLaws.{sum_laws, lies_of}
use Rattle.counter.proofs.Values.{writes_still}
use Rattle.counter.proofs.Viewed.{Ready, stand_off, stays_on, other_climber, node_inner, step_is_step}
use Rattle.spots.proofs.Shapes.{opened_two}

pub record Tied (F : Form) (st : State) : Type 0 where
  pub invariant : Invariant (sum_tree F.height) (view F st)
  pub ready : Ready F st

-- a leaf's value is the one after all its writes
pub leaf_value : (F : Form) (st : State) → Tied F st → (q : ℕ) → q < 2 ^ F.height → st.memory.value (leaf_of F.height q) ≡ value_after (deltas st) q (writes_to q st.history) st.history
unfolding view places_of sum_tree count_in
leaf_value F st t q b =
    t.invariant.places.values (leaf_of F.height q) ∙ (sum_laws F.height).at_leaf q _ (lies_of F.height q b)
    ∙ ap (λ (l : ℕ). value_after (deltas st) q (count_in F.height l q st.history) st.history) (level_is F.height (leaf_of F.height q) 0 q (omega arith) b (ancestor_none (leaf_of F.height q)))

-- ---- a step

module _ (F : Form) (p : ℕ) (st : State) (s : Stepping F p st) (t : Tied F st) where
  abbrev r : Process
  r = st.process p

  abbrev r' : Process
  r' = record_after F p st

  same_leaf : {a b : ℕ} → leaf_of F.height a ≡ leaf_of F.height b → a ≡ b
  unfolding leaf_of
  same_leaf e = omega arith

  -- an inner node is no leaf
  above_leaves : (σ : Spot) → At F p r.step σ → (q : ℕ) → leaf_of F.height q ≡ node_of F p σ → ⊥
  unfolding node_of
  above_leaves σ at q e = omega (arith, leaf_high F.height q, (node_inner F.height σ.level p at.level s.inside).1)

  -- nobody else's leaf changes
  leaf_still : {b : Access} → Turn F p r st.memory r'.step b → access_by F p st ≡ b → (q : ℕ) → (q ≡ p → ⊥)
      → (take_step F p st).memory.value (leaf_of F.height q) ≡ st.memory.value (leaf_of F.height q)
  unfolding take_step effect moves with_value with_cell cell_at load_linked
  leaf_still (root b w z) eq q n = ap (λ (x : Access). (effect F p r st.memory x).memory.value (leaf_of F.height q)) eq
  leaf_still (leaf b w z) eq q n = ap (λ (x : Access). (effect F p r st.memory x).memory.value (leaf_of F.height q)) eq
  leaf_still (write b w z at) eq q n =
      ap (λ (x : Access). (effect F p r st.memory x).memory.value (leaf_of F.height q)) eq ∙ upd_other st.memory.value (leaf_of F.height p) _ (leaf_of F.height q) (λ e. n (same_leaf e))
  leaf_still (link b σ at w next) eq q n =
      ap (λ (x : Access). (effect F p r st.memory x).memory.value (leaf_of F.height q)) eq
      ∙ upd_other st.memory.value (node_of F p σ) _ (leaf_of F.height q) (above_leaves σ at q)
  leaf_still (group b σ at i few w next) eq q n = ap (λ (x : Access). (effect F p r st.memory x).memory.value (leaf_of F.height q)) eq
  leaf_still (store b σ at w leads) eq q n =
      ap (λ (x : Access). (effect F p r st.memory x).memory.value (leaf_of F.height q)) eq
      ∙ upd_other st.memory.value (node_of F p σ) _ (leaf_of F.height q) (above_leaves σ at q)

  -- past its leaf write
  late : {t : ℕ} {σ : Spot} → At F p t σ → t ≡ 2 → ⊥
  late {t} {σ} at two = omega (arith, at_late F p t σ at, opened_two F p s.good.lawful)

  -- the stepping process is about to write where it has just read its leaf
  knows_now : {b : Access} → Turn F p r st.memory r'.step b → access_by F p st ≡ b → r'.step ≡ 2 → r'.seen ≡ (take_step F p st).memory.value (leaf_of F.height p)
  unfolding take_step effect moves next_record at_step saw_it
  knows_now (root b w z) eq two = absurd (omega arith)
  knows_now (leaf b w z) eq two =
      ap (λ (x : Access). (effect F p r st.memory x).process.seen) eq ∙ sym (ap (λ (x : Access). (effect F p r st.memory x).memory.value (leaf_of F.height p)) eq)
  knows_now (write b w z at) eq two = absurd (omega arith)
  knows_now (link b σ at w next) eq two = absurd (late next two)
  knows_now (group b σ at i few w next) eq two = absurd (late next two)
  knows_now (store b σ at w (retry k o next)) eq two = absurd (late next two)
  knows_now (store b σ at w (up k next)) eq two = absurd (late next two)
  knows_now (store b σ at w (done k l z)) eq two = absurd (omega arith)

  ready_step : Ready F (take_step F p st)
  unfolding deltas row_after
  ready_step =
      record {
        knows = by_stepper F p st s (λ q x. q < 2 ^ F.height → x.adds ≡ true → x.step ≡ 2 → x.seen ≡ (take_step F p st).memory.value (leaf_of F.height q))
            (λ b a two. knows_now (turns F p st s) refl two)
            (λ q n b a two. t.ready.knows q b a two ∙ sym (leaf_still (turns F p st s) refl q n));
        adds = by_stepper F p st s (λ q x. 1 ≤ x.step → ((take_step F p st).row x.operation).delta ≡ x.delta)
            (λ b. delta_on r'.operation ∙ ap (λ (i : ℕ). (st.row i).delta) (same_operation F p st s) ∙ t.ready.adds p s.acts ∙ sym (ap (λ (x : ℕ × Bool × ℕ). x.2) (same_job F p st s)))
            (λ q n b. delta_on (st.process q).operation ∙ t.ready.adds q b);
      }
    where
      delta_on : (i : ℕ) → ((take_step F p st).row i).delta ≡ (st.row i).delta
      delta_on i = stepped_row F p st s i (λ w. w.delta ≡ (st.row i).delta) (λ j. ap (λ (k : ℕ). (st.row k).delta) (sym j)) (λ n. refl)

  pub tied_step : Tied F (take_step F p st)
  tied_step =
      record {
        invariant = keeps (sum_tree F.height) (sum_laws F.height) p (view F st) (view F (take_step F p st)) t.invariant
            (step_is_step F p st s t.ready (λ a two. t.ready.knows p s.inside a two ∙ leaf_value F st t p s.inside));
        ready = ready_step;
      }

-- ---- a start

module _ (F : Form) (p : ℕ) (adds : Bool) (delta : ℕ) (st : State) (g : Good F st) (inside : p < 2 ^ F.height) (free : (st.process p).step ≡ 0) (room : st.operations < most_operations) (t : Tied F st) where
  abbrev now : State
  now = start F p adds delta st

  abbrev e : Entry
  e = begins_by F p adds delta st

  history_is : now.history ≡ e ∷ st.history
  unfolding start
  history_is = refl

  delta_old : (i : ℕ) → i < st.operations → deltas now i ≡ deltas st i
  unfolding deltas start
  delta_old i b = ap (λ (w : Row). w.delta) (upd_other st.row st.operations _ i (λ j. omega arith))

  abbrev new : Process
  new = started st.operations adds delta

  start_is_step : Step (sum_tree F.height) p (view F st) (view F now)
  unfolding view start climber_of stand_of places_of started is_leaf_write
  start_is_step =
      record {
        move =
            subst⁻¹ (λ (x : Process). Move (sum_tree F.height) p (places_of F st) (places_of F now) (climber_of F p (st.process p) (writes_to p st.history) (held_by F p (st.process p) st.history)) (climber_of F p x (writes_to p (e ∷ st.history)) (held_by F p x (e ∷ st.history))))
            (upd_same st.process p new)
            (Move.rests
            (record {
              stays = stays_on F st now e history_is (λ i d. delta_old i (g.known is_leaf_write i d)) refl refl (λ y. refl);
              links = λ x q. refl;
              was = stand_off F p (st.process p) (writes_to p st.history) (λ a. omega arith);
              is = stand_off F p new (writes_to p (e ∷ st.history)) (λ a. omega arith);
              home = inl (refl, writes_still p e st.history refl);
            }));
        others = λ q n.
            ap (λ (x : Process). climber_of F q x (writes_to q (e ∷ st.history)) (held_by F q x (e ∷ st.history))) (upd_other st.process p new q n) ∙ other_climber F q (st.process q) e st.history n (writes_still q e st.history refl);
      }

  ready_start : Ready F now
  unfolding started start deltas new_row
  ready_start =
      record {
        knows = by_process F p adds delta st g inside free room (λ q x. q < 2 ^ F.height → x.adds ≡ true → x.step ≡ 2 → x.seen ≡ now.memory.value (leaf_of F.height q))
            (λ b a two. absurd (omega arith)) (λ q n b a two. t.ready.knows q b a two);
        adds = by_process F p adds delta st g inside free room (λ q x. 1 ≤ x.step → deltas now x.operation ≡ x.delta)
            (λ b. ap (λ (w : Row). w.delta) (upd_same st.row st.operations _)) (λ q n b. delta_old (st.process q).operation (g.owns q b) ∙ t.ready.adds q b);
      }

  pub tied_start : Tied F now
  tied_start = record { invariant = keeps (sum_tree F.height) (sum_laws F.height) p (view F st) (view F now) t.invariant start_is_step; ready = ready_start }

-- ---- the beginning

none_yet : (h l q : ℕ) → count_in h l q [] ≡ 0
unfolding count_in count_store writes_to
none_yet h zero q = refl
none_yet h (suc l) q = refl

sum_of_none : (h x : ℕ) (a : ℕ → ℕ) → ((q : ℕ) → a q ≡ 0) → (sum_tree h).joined x a ≡ 0
unfolding sum_tree sum_under
sum_of_none h x a none = both (ltb x (processes h)) (sum_none (processes h) _ (λ q b. pick (is_over h x q) q))
  where
    pick : (t : Bool) (q : ℕ) → cond t (a q) 0 ≡ 0
    pick true q = none q
    pick false q = refl

    both : (t : Bool) {n : ℕ} → n ≡ 0 → cond t (n % 2 ^ 32) n ≡ 0
    both true e = ap (λ (n : ℕ). n % 2 ^ 32) e
    both false e = e

pub tied_initial : (F : Form) → Lawful F.shape → Tied F (initial F)
unfolding initial idleProcess view places_of climber_of stand_of value_after writes_to
tied_initial F lawful =
    record {
      invariant = begins (sum_tree F.height) (sum_laws F.height) (view F (initial F)) (λ y d. none_yet F.height (level_over F.height y d) d)
          (λ y. lawful.zero ∙ sym (sum_of_none F.height y (λ d. 0) (λ q. refl))) (λ p. refl) (λ p. refl);
      ready = record { knows = λ p b a two. absurd (omega arith); adds = λ p b. absurd (omega arith) };
    }
