-- Every step of a process is a step of the machine that climbs the counter's tree.
use Prim.Native.Nat.{ℕ, zero, suc, ◌+◌, ◌-◌, ◌*◌, ◌%◌, ◌^◌, max, ◌≤◌, ◌<◌}
use native.Mathlib.Omega.{arith}
use mathlib.Core.Path.{◌≡◌, refl, sym, ap, ap₂, ◌∙◌, subst, subst⁻¹, fun_ext}
use mathlib.Core.Logic.{inl, inr}
use mathlib.Core.Bool.{Bool, true, false, not, cond, ◌&&◌, ◌||◌}
use mathlib.Core.List.{List, ◌∷◌}
use lib.ListN.{length, get_or}
use lib.Dec.{leb, eqb}
use lib.Pow.{pow_mono, pow_pos}
use borrow.Author.Tests.{le-leb, lt-leb, eq-eqb, ne_eqb}
use Rattle.sets.specs.Processes.{nobody}
use Rattle.sets.proofs.Laws.{with_same, with_other}
use Rattle.meaning.proofs.Updates.{upd_same, upd_other, upd_cases}
use Rattle.cell.specs.Cell.{State as Cell, read_of, load_linked, succeeds, store_conditional}
use Rattle.cell.proofs.Laws.{sc_succeeds, sc_fails}
use Rattle.meaning.specs.Tree.{processes, leaf_of, left, right, child, parent, ancestor, root as treeRoot}
use Rattle.meaning.specs.Access.{Access, writes_leaf, links, reads, stores, is_leaf_write, component_of, is_read_of, is_store_at}
use Rattle.meaning.specs.Steps.{Process, effect, onward as moves, cell_at, with_cell, with_value, next_record, at_step, saw_children}
use Rattle.meaning.specs.Shape.{Form, Group, the_one, plus}
use Rattle.meaning.specs.Run.{Entry, State, row_after, take_step}
use Rattle.meaning.specs.TakenIn.{before_read}
use Rattle.taken.specs.CountIn.{writes_to, count_in}
use Rattle.spots.specs.Spot.{Spot, attempt_at, spot_of, node_of, At, onward, again, upward, width}
use Rattle.spots.specs.Got.{in_group, groups_at, got_at}
use Rattle.spots.proofs.Laws.{spot_at, at_late, width_is}
use Rattle.spots.proofs.Got.{got_at_link, got_onward, got_all, reads_child}
use Rattle.spots.specs.Lawful.{Lawful}
use Rattle.history.proofs.Turns.{Done, After, retry, up, done, first_spot, Turn, root, leaf, write, link, group, store, false_true}
use Rattle.history.proofs.Did.{did}
use Rattle.history.proofs.Good.{Stepping, access_by, effect_by, record_after, entry_by, turns, same_adds, leaf_write_is, stepped_row}
use Rattle.history.proofs.Counting.{count_still, count_stored, count_unstored, count_unwritten, before_other, before_not, before_it}
use Rattle.history.proofs.Levels.{node_high, node_low}
use Rattle.history.proofs.Waiters.{count_cap}
use Rattle.tree.specs.Tree.{Tree}
use Rattle.tree.specs.Machine.{Memory, Climber, trying, before, Remembers, Stays, Got, Onward, Failed, Move, Step}
use Rattle.counter.specs.SumTree.{level_over, is_over, sum_tree}
use Rattle.counter.specs.View.{value_after, deltas, places_of, stand_of, climber_of, held_by, view}
use Rattle.counter.proofs.Overs.{Above, above, one_level, level_is, top, ancestor_none, ancestor_more}
use Rattle.counter.proofs.TreeLaws.{IsInner, lies_of, child_low}
use Rattle.counter.proofs.Values.{writes_still, writes_other, writes_more, value_same, value_still, value_next}
use Rattle.spots.proofs.Shapes.{opened_two}

-- ---- where a process stands, by its spot

module _ (F : Form) (p : ℕ) (r : Process) (target : ℕ) (σ : Spot) (g : Bool) where
  pub stand_trying : Lawful F.shape → r.adds ≡ true → At F p r.step σ → not (eqb σ.position 0) ≡ g
      → stand_of F p r target ≡ trying p target (node_of F p σ) σ.second g
  unfolding stand_of trying
  stand_trying lawful a at i = rw (a, le-leb 3 r.step (omega (arith, at_late F p r.step σ at, opened_two F p lawful)), spot_at F p r.step σ at, i)

pub stand_off : (F : Form) (p : ℕ) (r : Process) (target : ℕ) → (r.adds ≡ true → r.step ≤ 2) → (stand_of F p r target).climbs ≡ false
unfolding stand_of
stand_off F p r target f = go r.adds refl
  where
    go : (t : Bool) → r.adds ≡ t → (t && leb 3 r.step) ≡ false
    go true e = lt-leb 3 r.step (omega (arith, f e))
    go false e = refl

-- an attempt has begun after its first place
begun_at : (i : ℕ) → 1 ≤ i → not (eqb i 0) ≡ true
begun_at i b = ap not (ne_eqb i 0 (λ e. omega arith))

unbegun_at : (i : ℕ) → i ≡ 0 → not (eqb i 0) ≡ false
unbegun_at i e = ap not (eq-eqb i 0 e)

pub node_inner : (h l p : ℕ) → suc l ≤ h → p < 2 ^ h → IsInner h (ancestor (suc l) (leaf_of h p))
node_inner h l p b c =
    let k = h - suc l in
    let d : h ≡ k + suc l = omega arith in
    (omega (arith, node_low h k (suc l) d p, pow_pos k), omega (arith, node_high h k (suc l) d p c, pow_mono {i = suc k} {j = h} (omega arith)))

-- ---- what is carried beside the invariant of the tree

-- An addition about to write knows its leaf's value, and a busy process's delta is its operation's.
pub record Ready (F : Form) (st : State) : Type 0 where
  pub knows : (p : ℕ) → p < 2 ^ F.height → (st.process p).adds ≡ true → (st.process p).step ≡ 2 → (st.process p).seen ≡ st.memory.value (leaf_of F.height p)
  pub adds : (p : ℕ) → 1 ≤ (st.process p).step → deltas st (st.process p).operation ≡ (st.process p).delta

-- ---- one entry more

module _ (F : Form) (st st' : State) (e : Entry) (history : st'.history ≡ e ∷ st.history)
    (same_deltas : (i : ℕ) → did is_leaf_write i st.history ≡ true → deltas st' i ≡ deltas st i) where
  -- what was written stays
  pub remembers_on : Remembers (sum_tree F.height) (places_of F st) (places_of F st')
  unfolding places_of sum_tree
  remembers_on =
      record {
        still = λ d k b.
            ap (value_after (deltas st') d k) history ∙ value_still (deltas st') d k e st.history (omega (arith, count_cap F.height (level_over F.height (leaf_of F.height d) d) d st.history, b))
            ∙ value_same (deltas st') (deltas st) d k st.history same_deltas;
      }

  -- an entry that is neither a leaf write nor a successful SC changes no count
  pub stays_on : is_leaf_write e.access ≡ false → e.stored ≡ false → ((y : ℕ) → st'.memory.value y ≡ st.memory.value y) → Stays (sum_tree F.height) (places_of F st) (places_of F st')
  unfolding places_of
  stays_on w n same =
      record {
        value = same;
        count = λ y d o. ap (count_in F.height (level_over F.height y d) d) history ∙ count_still F.height e st.history w n (level_over F.height y d) d;
        remembers = remembers_on;
      }

-- another process's part is as it was
pub other_climber : (F : Form) (q : ℕ) (r : Process) (e : Entry) (es : List Entry) → (q ≡ e.process → ⊥) → writes_to q (e ∷ es) ≡ writes_to q es
    → climber_of F q r (writes_to q (e ∷ es)) (held_by F q r (e ∷ es)) ≡ climber_of F q r (writes_to q es) (held_by F q r es)
unfolding held_by
other_climber F q r e es n unwritten =
    let l : ℕ = (spot_of F q r.step).level in
    ap₂ (climber_of F q r) unwritten (fun_ext (λ d. ap (count_in F.height l d) (before_other F.height e es q (ancestor l (leaf_of F.height d)) n)))

-- ---- a step

module _ (F : Form) (p : ℕ) (st : State) (s : Stepping F p st) (ready : Ready F st) where
  abbrev h : ℕ
  h = F.height

  abbrev st' : State
  st' = take_step F p st

  abbrev es : List Entry
  es = st.history

  abbrev e : Entry
  e = entry_by F p st

  abbrev r : Process
  r = st.process p

  abbrev r' : Process
  r' = record_after F p st

  abbrev m : Memory ℕ
  m = places_of F st

  abbrev m' : Memory ℕ
  m' = places_of F st'

  abbrev T : Tree ℕ
  T = sum_tree h

  same_deltas : (i : ℕ) → deltas st' i ≡ deltas st i
  unfolding deltas row_after
  same_deltas i = stepped_row F p st s i (λ w. w.delta ≡ (st.row i).delta) (λ j. ap (λ (k : ℕ). (st.row k).delta) (sym j)) (λ n. refl)

  history_is : st'.history ≡ e ∷ es
  unfolding take_step
  history_is = refl

  stays_here : is_leaf_write (access_by F p st) ≡ false → (effect_by F p st).stored ≡ false → ((y : ℕ) → st'.memory.value y ≡ st.memory.value y) → Stays T m m'
  stays_here = stays_on F st st' e history_is (λ i d. same_deltas i)

  -- the acting process before and after
  abbrev c : Climber ℕ
  c = (view F st).process p

  abbrev c' : Climber ℕ
  c' = (view F st').process p

  c'-is : c' ≡ climber_of F p r' (writes_to p (e ∷ es)) (held_by F p r' (e ∷ es))
  unfolding view take_step
  c'-is = ap (λ (x : Process). climber_of F p x (writes_to p (e ∷ es)) (held_by F p x (e ∷ es))) (upd_same st.process p r')

  -- a leaf write is to its process's own component
  writes_own : (q : ℕ) → (q ≡ p → ⊥) → writes_to q (e ∷ es) ≡ writes_to q es
  writes_own q n = writes_other q e es (λ w d. n (d ∙ (leaf_write_is F p st s (turns F p st s) w).2))

  others_here : (q : ℕ) → (q ≡ p → ⊥) → (view F st').process q ≡ (view F st).process q
  unfolding view take_step
  others_here q n =
      ap (λ (x : Process). climber_of F q x (writes_to q (e ∷ es)) (held_by F q x (e ∷ es))) (upd_other st.process p r' q n) ∙ other_climber F q (st.process q) e es n (writes_own q n)

  abbrev was : Climber ℕ
  was = climber_of F p r (writes_to p es) (held_by F p r es)

  abbrev is : Climber ℕ
  is = climber_of F p r' (writes_to p (e ∷ es)) (held_by F p r' (e ∷ es))

  moved : Move T p m m' was is → Step T p (view F st) (view F st')
  unfolding view
  moved v = record { move = subst⁻¹ (λ (x : Climber ℕ). Move T p m m' c x) c'-is v; others = others_here }

  adds_on : r.adds ≡ true → r'.adds ≡ true
  adds_on a = same_adds F p st s ∙ a

  unwritten_target : is_leaf_write (access_by F p st) ≡ false → writes_to p (e ∷ es) ≡ writes_to p es
  unwritten_target w = writes_still p e es w

  -- neither before nor after its climb
  rests_here : is_leaf_write (access_by F p st) ≡ false → (effect_by F p st).stored ≡ false → ((y : ℕ) → st'.memory.value y ≡ st.memory.value y)
      → ((x q : ℕ) → st'.memory.linked x q ≡ st.memory.linked x q) → (r.adds ≡ true → r.step ≤ 2) → (r.adds ≡ true → r'.step ≤ 2) → Move T p m m' was is
  unfolding climber_of stand_of places_of
  rests_here w n same kept early late =
      Move.rests
      (record {
        stays = stays_here w n same;
        links = kept;
        was = stand_off F p r (writes_to p es) early;
        is = stand_off F p r' (writes_to p (e ∷ es)) (λ a. late (sym (same_adds F p st s) ∙ a));
        home = inl (refl, unwritten_target w);
      })

  -- where the process stands after the step, at a spot of which it has taken no place yet
  stands_before : r.adds ≡ true → (τ : Spot) → τ.position ≡ 0 → At F p r'.step τ → (target : ℕ) → stand_of F p r' target ≡ before p target (node_of F p τ) τ.second
  unfolding before
  stands_before a τ z at target = stand_trying F p r' target τ false s.good.lawful (adds_on a) at (unbegun_at τ.position z)

  got_nothing : (τ : Spot) → τ.position ≡ 0 → At F p r'.step τ → (y : ℕ) → is.got y ≡ false
  unfolding climber_of
  got_nothing τ z at y = ap (λ (σ : Spot). got_at F p σ (y % 2)) (spot_at F p r'.step τ at) ∙ (got_at_link F p τ (y % 2) z).0

  -- ---- the write at the leaf

  at_leaf : level_over h (leaf_of h p) p ≡ 0
  at_leaf = level_is h (leaf_of h p) 0 p (omega arith) s.inside (ancestor_none (leaf_of h p))

  leaf_count : (hs : List Entry) → count_in h (level_over h (leaf_of h p) p) p hs ≡ writes_to p hs
  unfolding count_in
  leaf_count hs = ap (λ (l : ℕ). count_in h l p hs) at_leaf

  -- the counts elsewhere, where p writes its leaf
  count_elsewhere : (effect_by F p st).stored ≡ false → (y d : ℕ) → (y ≡ leaf_of h p → ⊥) → is_over h y d ≡ true → count_in h (level_over h y d) d (e ∷ es) ≡ count_in h (level_over h y d) d es
  unfolding count_in
  count_elsewhere n y d ne o = go v.level v.is (level_is h y v.level d v.low v.inside v.is)
    where
      v : Above h y d
      v = above h y d o

      go : (l : ℕ) → ancestor l (leaf_of h d) ≡ y → level_over h y d ≡ l → count_in h (level_over h y d) d (e ∷ es) ≡ count_in h (level_over h y d) d es
      go zero a i =
          subst⁻¹ (λ (l : ℕ). count_in h l d (e ∷ es) ≡ count_in h l d es) i
          (writes_own d (λ j. ne (sym a ∙ ancestor_none (leaf_of h d) ∙ ap (leaf_of h) j)))
      go (suc l) a i = subst⁻¹ (λ (l : ℕ). count_in h l d (e ∷ es) ≡ count_in h l d es) i (count_unstored h e es n l d)

  writes_here : access_by F p st ≡ writes_leaf p → r.adds ≡ true → At F p r'.step first_spot → r.seen ≡ value_after (deltas st) p (writes_to p es) es → Move T p m m' was is
  unfolding climber_of places_of effect moves with_value is_leaf_write component_of take_step sum_tree processes node_of
  writes_here eq a at seen =
      Move.writes p (ancestor 1 (leaf_of h p))
      (record {
        elsewhere =
            record {
              value = λ y n. ap (λ (x : Access). (effect F p r st.memory x).memory.value y) eq ∙ upd_other st.memory.value (leaf_of h p) _ y n;
              count = λ y d n o. count_elsewhere (ap (λ (x : Access). (effect F p r st.memory x).stored) eq) y d n o;
            };
        remembers = remembers_on F st st' e history_is (λ i d. same_deltas i);
        links = λ y q. ap (λ (x : Access). (effect F p r st.memory x).memory.linked y q) eq;
        count = leaf_count (e ∷ es) ∙ wrote ∙ ap suc (sym (leaf_count es));
        value =
            ap (λ (x : Access). (effect F p r st.memory x).memory.value (leaf_of h p)) eq ∙ upd_same st.memory.value (leaf_of h p) _
            ∙ ap₂ plus seen (sym (ready.adds p s.acts))
            ∙ sym (ap (λ (k : ℕ). value_after (deltas st') p k (e ∷ es)) (leaf_count (e ∷ es) ∙ wrote) ∙ ap (λ (f : ℕ → ℕ). value_after f p (suc (writes_to p es)) (e ∷ es)) (fun_ext same_deltas) ∙ value_next (deltas st) p e es leaf_write own_component);
        leaf = lies_of h p s.inside;
        above = (node_inner h 0 p s.good.low s.inside, sym (ancestor_more 0 (leaf_of h p) ∙ ap parent (ancestor_none (leaf_of h p))));
        stand = ap (λ (k : ℕ). stand_of F p r' k) (sym (leaf_count (e ∷ es))) ∙ stands_before a first_spot refl at _;
        got = got_nothing first_spot refl at;
      })
    where
      leaf_write : is_leaf_write (access_by F p st) ≡ true
      leaf_write = ap is_leaf_write eq

      own_component : component_of (access_by F p st) ≡ p
      own_component = ap component_of eq

      wrote : writes_to p (e ∷ es) ≡ suc (writes_to p es)
      wrote = writes_more p e es leaf_write own_component

  -- ---- an attempt

  module _ (a : r.adds ≡ true) (σ : Spot) (at : At F p r.step σ) where
    abbrev l : ℕ
    l = σ.level

    abbrev x : ℕ
    x = node_of F p σ

    x_is : x ≡ ancestor (suc l) (leaf_of h p)
    unfolding node_of
    x_is = refl

    small_process : p < 64
    small_process = omega (arith, s.inside, pow_mono {i = h} {j = 6} s.good.high)

    inner_here : IsInner h x
    inner_here = subst⁻¹ (IsInner h) x_is (node_inner h l p at.level s.inside)

    -- the level of x above a component
    level_here : (d : ℕ) → is_over h x d ≡ true → (level_over h x d ≡ suc l) × (ancestor (suc l) (leaf_of h d) ≡ x)
    level_here d o = (level_is h x v.level d v.low v.inside v.is ∙ same, subst (λ (k : ℕ). ancestor k (leaf_of h d) ≡ x) same v.is)
      where
        v : Above h x d
        v = above h x d o

        same : v.level ≡ suc l
        same = one_level h x v.level (suc l) d p v.low at.level v.inside s.inside v.is (sym x_is)

    -- a child of x over q is the ancestor of q's leaf at level l
    child_level : (y q : ℕ) → parent y ≡ x → is_over h y q ≡ true → (ancestor l (leaf_of h q) ≡ y) × (level_over h y q ≡ l) × (q < 2 ^ h)
    child_level y q e o = (subst (λ (k : ℕ). ancestor k (leaf_of h q) ≡ y) same v.is, level_is h y v.level q v.low v.inside v.is ∙ same, v.inside)
      where
        v : Above h y q
        v = above h y q o

        up_one : ancestor (suc v.level) (leaf_of h q) ≡ x
        up_one = ancestor_more v.level (leaf_of h q) ∙ ap parent v.is ∙ e

        below_top : suc v.level ≤ h
        below_top = child_low h x y q inner_here e v

        same : v.level ≡ l
        same = let k = one_level h x (suc v.level) (suc l) q p below_top at.level v.inside s.inside up_one (sym x_is) in omega (arith, k)

    was_stand : (g : Bool) → not (eqb σ.position 0) ≡ g → was.stand ≡ trying p (writes_to p es) x σ.second g
    unfolding climber_of
    was_stand g e = stand_trying F p r (writes_to p es) σ g s.good.lawful a at e

    -- one place further in the same attempt
    next_stand : At F p r'.step (onward σ) → is_leaf_write (access_by F p st) ≡ false → is.stand ≡ trying p (writes_to p es) x σ.second true
    unfolding climber_of onward node_of
    next_stand n w =
        ap (stand_of F p r') (unwritten_target w)
        ∙ stand_trying F p r' (writes_to p es) (onward σ) true s.good.lawful (adds_on a) n (begun_at (suc σ.position) (omega arith))

    links_here : access_by F p st ≡ links (attempt_at σ.second) x → σ.position ≡ 0 → At F p r'.step (onward σ) → Move T p m m' was is
    unfolding climber_of places_of effect moves with_cell cell_at load_linked is_leaf_write take_step before
    links_here eq zeroth n =
        Move.links p (writes_to p es) x σ.second
        (record {
          stays = stays_here (ap is_leaf_write eq) (ap (λ (y : Access). (effect F p r st.memory y).stored) eq)
              (λ y. ap (λ (b : Access). (effect F p r st.memory b).memory.value y) eq ∙ upd_cases st.memory.value x (st.memory.value x) (λ (v : ℕ). v ≡ st.memory.value y) y (λ d. ap st.memory.value (sym d)) (λ d. refl));
          linked = ap (λ (b : Access). (effect F p r st.memory b).memory.linked x p) eq ∙ ap (λ (f : ℕ → Bool). f p) (upd_same st.memory.linked x _) ∙ with_same p (st.memory.linked x) small_process;
          others = λ y q n. ap (λ (b : Access). (effect F p r st.memory b).memory.linked y q) eq
              ∙ upd_cases st.memory.linked x _ (λ (f : ℕ → Bool). f q ≡ st.memory.linked y q) y (λ d. with_other p q (st.memory.linked x) n ∙ ap (λ (z : ℕ). st.memory.linked z q) (sym d)) (λ d. refl);
          was = was_stand false (unbegun_at σ.position zeroth);
          stand = next_stand n (ap is_leaf_write eq);
          got = λ y. ap (λ (τ : Spot). got_at F p τ (y % 2)) (spot_at F p r'.step (onward σ) n) ∙ (got_at_link F p σ (y % 2) zeroth).1;
        })

    -- ---- a read of a group of children

    held_was : (q : ℕ) → held_by F p r es q ≡ count_in h l q (before_read p (ancestor l (leaf_of h q)) es)
    unfolding held_by
    held_was q = ap (λ (τ : Spot). count_in h τ.level q (before_read p (ancestor τ.level (leaf_of h q)) es)) (spot_at F p r.step σ at)

    -- what was read earlier in this attempt is held still, and what is read now is held as it is counted
    held_on : At F p r'.step (onward σ) → (q : ℕ) → held_by F p r' (e ∷ es) q ≡ count_in h l q (before_read p (ancestor l (leaf_of h q)) (e ∷ es))
    unfolding held_by onward
    held_on n q = ap (λ (τ : Spot). count_in h τ.level q (before_read p (ancestor τ.level (leaf_of h q)) (e ∷ es))) (spot_at F p r'.step (onward σ) n)

    -- a child by its number, which is its parity
    child_is : (z : ℕ) → parent z ≡ x → z ≡ child x (z % 2)
    unfolding parent child left
    child_is z e = omega (arith, e)

    module _ (i : ℕ) (few : i < length (groups_at F p σ)) (place : σ.position ≡ suc i) (n : At F p r'.step (onward σ)) where
      abbrev G : Group
      G = get_or (groups_at F p σ) i (the_one 0)

      module _ (eq : access_by F p st ≡ reads x G.from G.count) where
        unwritten_read : is_leaf_write (access_by F p st) ≡ false
        unfolding is_leaf_write
        unwritten_read = ap is_leaf_write eq

        -- what the read leaves in the process's record
        seen_by_lem : (z : ℕ) → parent z ≡ x → (b : Bool) → in_group G (z % 2) ≡ b → is.seen z ≡ cond b (st.memory.value z) (was.seen z)
        unfolding climber_of next_record at_step effect moves saw_children read_of cell_at in_group
        seen_by_lem z ch b d =
            ap (λ (u : Access). (effect F p r st.memory u).process.children (z % 2)) eq
            ∙ ap (λ (t : Bool). cond t (st.memory.value (child x (z % 2))) (r.children (z % 2))) d
            ∙ ap (λ (y : ℕ). cond b (st.memory.value y) (r.children (z % 2))) (sym (child_is z ch))

        -- whether it was a read of the child towards q
        read_of_lem : (z q : ℕ) → parent z ≡ x → is_over h z q ≡ true → is_read_of (ancestor l (leaf_of h q)) (access_by F p st) ≡ in_group G (z % 2)
        read_of_lem z q ch o =
            ap₂ is_read_of ((child_level z q ch o).0 ∙ child_is z ch) eq ∙ reads_child x (z % 2) G

        got_was : (z : ℕ) → was.got z ≡ got_at F p σ (z % 2)
        unfolding climber_of
        got_was z = ap (λ (τ : Spot). got_at F p τ (z % 2)) (spot_at F p r.step σ at)

        got_is : (z : ℕ) → is.got z ≡ (got_at F p σ (z % 2) || in_group G (z % 2))
        unfolding climber_of
        got_is z = ap (λ (τ : Spot). got_at F p τ (z % 2)) (spot_at F p r'.step (onward σ) n) ∙ got_onward F p σ (z % 2) i few place

        had : (b : Bool) → (b || false) ≡ true → b ≡ true
        had true d = refl
        had false d = d

        got_by : (z : ℕ) → parent z ≡ x → is.got z ≡ true → (b : Bool) → in_group G (z % 2) ≡ b → Got T z m was is
        unfolding climber_of places_of sum_tree
        got_by z ch g true d =
            Got.now (seen_by_lem z ch true d)
            (λ q o. held_on n q ∙ ap (count_in h l q) (before_it h e es (ancestor l (leaf_of h q)) (read_of_lem z q ch o ∙ d)) ∙ ap (λ (j : ℕ). count_in h j q es) (sym (child_level z q ch o).1))
        got_by z ch g false d =
            Got.earlier (got_was z ∙ had (got_at F p σ (z % 2)) (ap (λ (t : Bool). got_at F p σ (z % 2) || t) (sym d) ∙ sym (got_is z) ∙ g)) (seen_by_lem z ch false d)
            (λ q o. held_on n q ∙ ap (count_in h l q) (before_not h e es p (ancestor l (leaf_of h q)) (read_of_lem z q ch o ∙ d)) ∙ sym (held_was q))

        reads_here : Move T p m m' was is
        unfolding climber_of places_of sum_tree effect moves take_step
        reads_here =
            Move.reads p (writes_to p es) x σ.second
            (record {
              stays = stays_here unwritten_read (ap (λ (y : Access). (effect F p r st.memory y).stored) eq) (λ y. ap (λ (u : Access). (effect F p r st.memory u).memory.value y) eq);
              links = λ y q. ap (λ (u : Access). (effect F p r st.memory u).memory.linked y q) eq;
              was = was_stand true (begun_at σ.position (omega (arith, place)));
              stand = next_stand n unwritten_read;
              got = λ z ch g. got_by z ch.1 g (in_group G (z % 2)) refl;
            })

    -- ---- an SC

    module _ (eq : access_by F p st ≡ stores (attempt_at σ.second) x) (last : suc σ.position ≡ width F x) where
      unwritten_here : is_leaf_write (access_by F p st) ≡ false
      unfolding is_leaf_write
      unwritten_here = ap is_leaf_write eq

      abbrev ok : Bool
      ok = succeeds p (cell_at st.memory x)

      -- the attempt has taken its LL and read all its groups
      at_end : σ.position ≡ suc (length (groups_at F p σ))
      at_end = omega (arith, last, width_is F x)

      begun_here : not (eqb σ.position 0) ≡ true
      begun_here = begun_at σ.position (omega (arith, at_end))

      -- done with x: at the node above, or at the end of the climb
      goes_up : At F p r'.step (upward σ) → Onward T p (writes_to p es) x is
      unfolding climber_of sum_tree processes upward node_of
      goes_up n =
          Onward.up (ancestor (suc (suc l)) (leaf_of h p)) (node_inner h (suc l) p n.level s.inside, sym (ancestor_more (suc l) (leaf_of h p)))
          (ap (stand_of F p r') (unwritten_target unwritten_here) ∙ stands_before a (upward σ) refl n (writes_to p es))
          (got_nothing (upward σ) refl n)

      ends_here : r'.step ≡ 0 → suc l ≡ h → Onward T p (writes_to p es) x is
      unfolding climber_of stand_of sum_tree treeRoot
      ends_here none up-there =
          Onward.end (x_is ∙ ap (λ (k : ℕ). ancestor k (leaf_of h p)) up-there ∙ top h p s.inside) (stand_off F p r' (writes_to p (e ∷ es)) (λ b. omega arith)) refl (unwritten_target unwritten_here)

      stored_is : (effect_by F p st).stored ≡ ok
      unfolding effect
      stored_is = ap (λ (b : Access). (effect F p r st.memory b).stored) eq

      succeeded : ok ≡ true → After F p σ ok r'.step → Onward T p (writes_to p es) x is
      succeeded good (retry k bad n) = absurd (false_true (sym bad ∙ good))
      succeeded good (up k n) = goes_up n
      succeeded good (done k above z) = ends_here z above

      enough_here : ok ≡ false → Done σ ok → Onward T p (writes_to p es) x is → Failed T p (writes_to p es) x is σ.second
      enough_here bad (inl g) o = absurd (false_true (sym bad ∙ g))
      enough_here bad (inr g) o = subst⁻¹ (Failed T p (writes_to p es) x is) g (Failed.enough o)

      failed : ok ≡ false → After F p σ ok r'.step → Failed T p (writes_to p es) x is σ.second
      unfolding climber_of again node_of
      failed bad (retry k b n) =
          subst⁻¹ (Failed T p (writes_to p es) x is) k
          (Failed.again (ap (stand_of F p r') (unwritten_target unwritten_here) ∙ stands_before a (again σ) refl n (writes_to p es)) (got_nothing (again σ) refl n))
      failed bad (up k n) = enough_here bad k (goes_up n)
      failed bad (done k above z) = enough_here bad k (ends_here z above)

      -- what it would store
      abbrev sum : ℕ
      sum = F.shape.joins h x r.children

      module _ (leads : After F p σ ok r'.step) where
        -- an SC that fails leaves the memory as it was
        fails_here : ok ≡ false → Move T p m m' was is
        unfolding climber_of places_of effect with_cell cell_at succeeds take_step
        fails_here bad =
            Move.fails p (writes_to p es) x σ.second
            (record {
              stays = stays_here unwritten_here (stored_is ∙ bad)
                  (λ y. ap (λ (b : Access). (effect F p r st.memory b).memory.value y) eq
                  ∙ upd_cases st.memory.value x _ (λ (v : ℕ). v ≡ st.memory.value y) y (λ d. ap (λ (q : Cell). q.value) unchanged ∙ ap st.memory.value (sym d)) (λ d. refl));
              links = λ y q. ap (λ (b : Access). (effect F p r st.memory b).memory.linked y q) eq
                  ∙ upd_cases st.memory.linked x _ (λ (f : ℕ → Bool). f q ≡ st.memory.linked y q) y (λ d. ap (λ (c : Cell). c.linked q) unchanged ∙ ap (λ (z : ℕ). st.memory.linked z q) (sym d)) (λ d. refl);
              was = was_stand true begun_here;
              unlinked = bad;
              then = failed bad leads;
            })
          where
            unchanged : store_conditional sum p (cell_at st.memory x) ≡ cell_at st.memory x
            unchanged = sc_fails sum p (cell_at st.memory x) bad

        -- the counts after a successful SC, at x and elsewhere
        counts_now : ok ≡ true → (k d : ℕ) (b : Bool) → eqb (ancestor (suc k) (leaf_of h d)) x ≡ b
            → count_in h (suc k) d (e ∷ es) ≡ cond b (max (count_in h (suc k) d es) (count_in h k d (before_read p (ancestor k (leaf_of h d)) es))) (count_in h (suc k) d es)
        unfolding is_store_at
        counts_now good k d b is-it =
            subst (λ (b : Bool). count_in h (suc k) d (e ∷ es) ≡ cond b (max (count_in h (suc k) d es) (count_in h k d (before_read p (ancestor k (leaf_of h d)) es))) (count_in h (suc k) d es)) is-it
            (count_stored h e es k d x (ap (is_store_at (ancestor (suc k) (leaf_of h d))) eq) (stored_is ∙ good))

        count_at : ok ≡ true → (d : ℕ) → is_over h x d ≡ true → count_in h (level_over h x d) d (e ∷ es) ≡ max (count_in h (level_over h x d) d es) (held_by F p r es d)
        count_at good d o =
            let v = level_here d o in
            subst⁻¹ (λ (k : ℕ). count_in h k d (e ∷ es) ≡ max (count_in h k d es) (held_by F p r es d)) v.0
            (counts_now good l d true (eq-eqb (ancestor (suc l) (leaf_of h d)) x v.1) ∙ ap (max (count_in h (suc l) d es)) (sym (held_was d)))

        count_off : ok ≡ true → (y d : ℕ) → (y ≡ x → ⊥) → is_over h y d ≡ true → count_in h (level_over h y d) d (e ∷ es) ≡ count_in h (level_over h y d) d es
        count_off good y d n o = go v.level v.is (level_is h y v.level d v.low v.inside v.is)
          where
            v : Above h y d
            v = above h y d o

            go : (k : ℕ) → ancestor k (leaf_of h d) ≡ y → level_over h y d ≡ k → count_in h (level_over h y d) d (e ∷ es) ≡ count_in h (level_over h y d) d es
            go zero b i = subst⁻¹ (λ (k : ℕ). count_in h k d (e ∷ es) ≡ count_in h k d es) i (count_unwritten h e es unwritten_here d)
            go (suc k) b i =
                subst⁻¹ (λ (k : ℕ). count_in h k d (e ∷ es) ≡ count_in h k d es) i
                (counts_now good k d false (ne_eqb (ancestor (suc k) (leaf_of h d)) x (λ j. n (sym b ∙ j))))

        -- the sum is of what was seen of both children
        sum_is : sum ≡ plus (was.seen (left x)) (was.seen (right x))
        unfolding climber_of left right
        sum_is =
            s.good.lawful.sums h x r.children
            ∙ ap₂ (λ (i j : ℕ). plus (r.children i) (r.children j)) (even x) (odd x)
          where
            even : (y : ℕ) → 0 ≡ 2 * y % 2
            even y = omega arith

            odd : (y : ℕ) → 1 ≡ (2 * y + 1) % 2
            odd y = omega arith

        stores_here : ok ≡ true → Move T p m m' was is
        unfolding climber_of places_of effect with_cell cell_at succeeds take_step sum_tree nobody
        stores_here good =
            Move.stores p (writes_to p es) x σ.second
            (record {
              elsewhere =
                  record {
                    value = λ y n. ap (λ (b : Access). (effect F p r st.memory b).memory.value y) eq ∙ upd_other st.memory.value x _ y n;
                    count = λ y d n o. count_off good y d n o;
                  };
              remembers = remembers_on F st st' e history_is (λ i d. same_deltas i);
              was = was_stand true begun_here;
              linked = good;
              read = λ y ch. ap (λ (τ : Spot). got_at F p τ (y % 2)) (spot_at F p r.step σ at) ∙ got_all F p σ (y % 2) at_end ∙ s.good.lawful.covers h x (y % 2) (omega arith);
              value = ap (λ (b : Access). (effect F p r st.memory b).memory.value x) eq ∙ upd_same st.memory.value x _ ∙ ap (λ (q : Cell). q.value) changed ∙ sum_is;
              count = λ d o. count_at good d o;
              emptied = λ q. ap (λ (b : Access). (effect F p r st.memory b).memory.linked x q) eq ∙ ap (λ (f : ℕ → Bool). f q) (upd_same st.memory.linked x _) ∙ ap (λ (c : Cell). c.linked q) changed;
              others = λ y q n. ap (λ (b : Access). (effect F p r st.memory b).memory.linked y q) eq ∙ ap (λ (f : ℕ → Bool). f q) (upd_other st.memory.linked x _ y n);
              onward = succeeded good leads;
            })
          where
            changed : store_conditional sum p (cell_at st.memory x) ≡ record { value = sum; linked = nobody }
            changed = sc_succeeds sum p (cell_at st.memory x) good

        sc_here : Move T p m m' was is
        sc_here = go ok refl
          where
            go : (b : Bool) → ok ≡ b → Move T p m m' was is
            go true g = stores_here g
            go false g = fails_here g

  -- ---- whatever the access

  move_case : {b : Access} → Turn F p r st.memory r'.step b → access_by F p st ≡ b → (r.adds ≡ true → r.step ≡ 2 → r.seen ≡ value_after (deltas st) p (writes_to p es) es) → Move T p m m' was is
  unfolding effect moves is_leaf_write take_step
  move_case (root b w z) eq known =
      rests_here (ap is_leaf_write eq) (ap (λ (x : Access). (effect F p r st.memory x).stored) eq) (λ y. ap (λ (x : Access). (effect F p r st.memory x).memory.value y) eq)
      (λ x q. ap (λ (y : Access). (effect F p r st.memory y).memory.linked x q) eq) (λ a. omega arith) (λ a. omega arith)
  move_case (leaf b w z) eq known =
      rests_here (ap is_leaf_write eq) (ap (λ (x : Access). (effect F p r st.memory x).stored) eq) (λ y. ap (λ (x : Access). (effect F p r st.memory x).memory.value y) eq)
      (λ x q. ap (λ (y : Access). (effect F p r st.memory y).memory.linked x q) eq) (λ a. omega arith) (λ a. omega arith)
  move_case (write b w z at) eq known = writes_here eq b at (known b w)
  move_case (link b σ at w n) eq known = links_here b σ at eq w n
  move_case (group b σ at i few w n) eq known = reads_here b σ at i few w n eq
  move_case (store b σ at w leads) eq known = sc_here b σ at eq w leads

  pub step_is_step : (r.adds ≡ true → r.step ≡ 2 → r.seen ≡ value_after (deltas st) p (writes_to p es) es) → Step T p (view F st) (view F st')
  step_is_step known = moved (move_case (turns F p st s) refl known)
