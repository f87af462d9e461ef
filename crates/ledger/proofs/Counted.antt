-- The counts that the replay keeps are the counts by the history, also for what a process has read and not yet stored.
use Prim.Native.Nat.{ℕ, zero, suc, ◌+◌, ◌-◌, ◌*◌, ◌%◌, ◌^◌, max, ◌≤◌, ◌<◌}
use native.Mathlib.Nat.{add-zero}
use native.Mathlib.Omega.{arith}
use mathlib.Core.Path.{◌≡◌, refl, sym, ap, ap₂, ◌∙◌, subst}
use mathlib.Core.Bool.{Bool, true, false, cond, ◌&&◌, ◌||◌}
use mathlib.Core.List.{List, [], ◌∷◌}
use lib.ListN.{length, get_or}
use lib.Dec.{leb, ltb, eqb}
use borrow.Author.Tests.{eq-eqb, ne_eqb, eqb-true, eqb-false, le-leb, lt-ltb, leb-true, ltb-true}
use Rattle.arrays.specs.Arrays.{between}
use Rattle.meaning.proofs.Updates.{upd_same, upd_other, upd_cases}
use Rattle.meaning.specs.Tree.{leaf_of, left, child, parent, ancestor}
use Rattle.meaning.specs.Access.{Access, reads, stores, Attempt, is_leaf_write, component_of, is_read_of, is_store_at}
use Rattle.meaning.specs.Shape.{Group, the_one, Form}
use Rattle.meaning.specs.Steps.{upd, Process, effect, onward as moves, idle as idleProcess}
use Rattle.meaning.specs.Run.{Entry, State, initial, started, start, most_operations, take_step}
use Rattle.meaning.specs.TakenIn.{before_read}
use Rattle.taken.specs.CountIn.{writes_to, count_store, count_in}
use Rattle.spots.specs.Spot.{Spot, attempt_at, width, spot_of, node_of, At, onward, again, upward}
use Rattle.spots.specs.Got.{in_group, groups_at, got_at}
use Rattle.spots.proofs.Laws.{width_is, at_late, spot_at, same_spot}
use Rattle.spots.proofs.Got.{got_at_link, got_onward, got_all, reads_child}
use Rattle.counts.specs.Counts.{Counts, attempted, counts_after, wrote, read_over, stored_over, group_read, node_stored, first_under}
use Rattle.counts.proofs.Laws.{between_in, between_out, attempted_link, attempted_read, attempted_stored, attempted_failed, after_start, after_write, after_attempt}
use Rattle.spots.specs.Lawful.{Lawful}
use Rattle.history.proofs.Turns.{Turn, root, leaf, write, link, group, store, After, retry, up, done, first_spot, false_true}
use Rattle.history.proofs.Good.{Good, Stepping, access_by, effect_by, record_after, entry_by, turns, by_stepper, by_process}
use Rattle.history.proofs.Levels.{same_level}
use Rattle.history.proofs.Counting.{count_unwritten, count_unstored, count_stored, count_still, before_other, before_not, before_it}
use Rattle.ledger.specs.Kept.{counts_then}
use Rattle.ledger.proofs.Under.{under_children, children_under, under_node, node_under}
use Rattle.spots.proofs.Shapes.{opened_two}

-- ---- the relation

-- the node l levels above q's leaf: towards that leaf, the child of the node above it
abbrev pub towards : Form → ℕ → ℕ → ℕ
towards F l q = ancestor l (leaf_of F.height q)

-- what process x, at the spot σ, has read of the children of its node
abbrev pub ReadsAt : Form → (ℕ → ℕ) → List Entry → ℕ → Spot → Type 0
ReadsAt F read es x σ =
    (q : ℕ) → q < 2 ^ F.height → towards F (suc σ.level) q ≡ node_of F x σ → got_at F x σ (towards F σ.level q % 2) ≡ true
    → read q ≡ count_in F.height σ.level q (before_read x (towards F σ.level q) es)

-- the same by its step number
abbrev pub Reads : Form → (ℕ → ℕ) → List Entry → ℕ → ℕ → Type 0
Reads F read es x s = (σ : Spot) → At F x s σ → ReadsAt F read es x σ

pub record Counted (F : Form) (st : State) (c : Counts) : Type 0 where
  pub in_node : (l q : ℕ) → l ≤ F.height → q < 2 ^ F.height → c.in_node l q ≡ count_in F.height l q st.history
  pub reads : (x : ℕ) → (st.process x).adds ≡ true → Reads F (c.read x) st.history x (st.process x).step

-- ---- where no child has been read

-- nothing is to be shown of what has been
abbrev Unread : Form → ℕ → ℕ → Type 0
Unread F x s = (σ : Spot) → At F x s σ → (c : ℕ) → got_at F x σ c ≡ false

nothing_read : (F : Form) (read : ℕ → ℕ) (es : List Entry) (x s : ℕ) → Unread F x s → Reads F read es x s
nothing_read F read es x s none σ at q b u v = absurd (false_true (sym (none σ at _) ∙ v))

unread_at : (F : Form) (x s : ℕ) (τ : Spot) → At F x s τ → ((c : ℕ) → got_at F x τ c ≡ false) → Unread F x s
unread_at F x s τ at none σ too = subst (λ (ρ : Spot). (c : ℕ) → got_at F x ρ c ≡ false) (same_spot F x s τ σ at too) none

-- before the climb, or idle
unread_early : (F : Form) → Lawful F.shape → (x s : ℕ) → s ≤ 2 → Unread F x s
unread_early F lawful x s b σ at = absurd (omega (arith, at_late F x s σ at, opened_two F x lawful))

-- at an LL
unread_link : (F : Form) (x s : ℕ) (τ : Spot) → At F x s τ → τ.position ≡ 0 → Unread F x s
unread_link F x s τ at z = unread_at F x s τ at (λ c. (got_at_link F x τ c z).0)

unread_after : (F : Form) → Lawful F.shape → (p : ℕ) (σ : Spot) (ok : Bool) (t : ℕ) → After F p σ ok t → Unread F p t
unfolding again upward
unread_after F lawful p σ ok t (retry k o at) = unread_link F p t (again σ) at refl
unread_after F lawful p σ ok t (up k at) = unread_link F p t (upward σ) at refl
unread_after F lawful p σ ok t (done k l z) = unread_early F lawful p t (omega arith)

-- ---- the counts after a step, by its spot

module _ (F : Form) (p : ℕ) (r : Process) (stored : Bool) (c : Counts) where
  pub then_read : r.adds ≡ false → counts_then F p r stored c ≡ c
  unfolding counts_then
  then_read e = rw e

  pub then_addition : r.adds ≡ true → counts_then F p r stored c ≡ counts_after F p r.step (spot_of F p r.step) stored c
  unfolding counts_then
  then_addition e = rw e

  then_attempt : r.adds ≡ true → Lawful F.shape → (σ : Spot) → At F p r.step σ → counts_then F p r stored c ≡ attempted (groups_at F p σ) p σ stored c
  then_attempt e lawful σ at =
      then_addition e ∙ after_attempt F p r.step (spot_of F p r.step) stored c (omega (arith, at_late F p r.step σ at, opened_two F p lawful))
      ∙ ap (λ (τ : Spot). attempted (groups_at F p τ) p τ stored c) (spot_at F p r.step σ at)

-- ---- a read of children by their numbers

or_first : (a b : Bool) → b ≡ false → (a || b) ≡ true → a ≡ true
or_first true b n e = refl
or_first false b n e = absurd (false_true (sym n ∙ e))

its_child : (y : ℕ) → y ≡ child (parent y) (y % 2)
unfolding child left parent
its_child y = omega arith

module _ (y x from count : ℕ) where
  read_of_lem : child x from ≤ y → y < child x (from + count) → is_read_of y (reads x from count) ≡ true
  unfolding is_read_of
  read_of_lem low high = rw (le-leb (child x from) y low, lt-ltb y (child x (from + count)) high)

  of_read_lem : is_read_of y (reads x from count) ≡ true → (child x from ≤ y) × (y < child x (from + count))
  unfolding is_read_of
  of_read_lem e = go (leb (child x from) y) refl (ltb y (child x (from + count))) refl e
    where
      go : (s : Bool) → leb (child x from) y ≡ s → (t : Bool) → ltb y (child x (from + count)) ≡ t → (s && t) ≡ true → (child x from ≤ y) × (y < child x (from + count))
      go true a true b d = (leb-true (child x from) y a, ltb-true y (child x (from + count)) b)
      go true a false b d = absurd (false_true d)
      go false a t b d = absurd (false_true d)

-- whether it was of y, by the number of y under its parent
read_number : (y x : ℕ) (g : Group) → parent y ≡ x → is_read_of y (reads x g.from g.count) ≡ in_group g (y % 2)
read_number y x g e =
    ap (λ (z : ℕ). is_read_of z (reads x g.from g.count)) (its_child y ∙ ap (λ (w : ℕ). child w (y % 2)) e) ∙ reads_child x (y % 2) g

-- ---- a step

module _ (F : Form) (p : ℕ) (st : State) (s : Stepping F p st) (c : Counts) (k : Counted F st c) where
  -- what is to be shown of the counts c' after the step: the nodes' counts, that nobody else's reads moved, and what p has read
  joined : (c' : Counts) → ((l q : ℕ) → l ≤ F.height → q < 2 ^ F.height → c'.in_node l q ≡ count_in F.height l q (entry_by F p st ∷ st.history))
      → ((x : ℕ) → (x ≡ p → ⊥) → c'.read x ≡ c.read x)
      → Reads F (c'.read p) (entry_by F p st ∷ st.history) p (record_after F p st).step
      → Counted F (take_step F p st) c'
  unfolding take_step
  joined c' nodes others own =
      record {
        in_node = nodes;
        reads = by_stepper F p st s (λ x r. r.adds ≡ true → Reads F (c'.read x) (entry_by F p st ∷ st.history) x r.step) (λ a. own)
            (λ x n a σ at q b u v. ap (λ (g : ℕ → ℕ). g q) (others x n) ∙ k.reads x a σ at q b u v
            ∙ ap (λ (old : List Entry). count_in F.height σ.level q old) (sym (before_other F.height (entry_by F p st) st.history x _ n)));
      }

  -- an access that is neither a leaf write, a child read nor a successful SC
  quiet : is_leaf_write (access_by F p st) ≡ false → (effect_by F p st).stored ≡ false → Unread F p (record_after F p st).step → Counted F (take_step F p st) c
  quiet w n none =
      joined c (λ l q a b. k.in_node l q a b ∙ sym (count_still F.height (entry_by F p st) st.history w n l q)) (λ x m. refl)
      (nothing_read F (c.read p) _ p (record_after F p st).step none)

  -- a leaf write
  writing : is_leaf_write (access_by F p st) ≡ true → component_of (access_by F p st) ≡ p → (effect_by F p st).stored ≡ false → Unread F p (record_after F p st).step
      → Counted F (take_step F p st) (wrote p c)
  unfolding wrote count_in writes_to
  writing w own n none = joined (wrote p c) nodes (λ x m. refl) (nothing_read F (c.read p) _ p (record_after F p st).step none)
    where
      at_leaf : (q : ℕ) → q < 2 ^ F.height → upd (c.in_node 0) p (c.in_node 0 p + 1) q ≡ count_in F.height 0 q (entry_by F p st ∷ st.history)
      at_leaf q b =
          upd_cases (c.in_node 0) p (c.in_node 0 p + 1)
          (λ (x : ℕ). x ≡ writes_to q st.history + cond (is_leaf_write (access_by F p st) && eqb q (component_of (access_by F p st))) 1 0) q
          (λ e. rw (w, own, e, eq-eqb p p refl, k.in_node 0 p (omega arith) s.inside))
          (λ e. rw (w, own, ne_eqb q p e) (k.in_node 0 q (omega arith) b ∙ sym (add-zero (writes_to q st.history))))

      nodes : (l q : ℕ) → l ≤ F.height → q < 2 ^ F.height → (wrote p c).in_node l q ≡ count_in F.height l q (entry_by F p st ∷ st.history)
      nodes zero q a b = ap (λ (f : ℕ → ℕ). f q) (upd_same c.in_node 0 (upd (c.in_node 0) p (c.in_node 0 p + 1))) ∙ at_leaf q b
      nodes (suc l) q a b =
          ap (λ (f : ℕ → ℕ). f q) (upd_other c.in_node 0 (upd (c.in_node 0) p (c.in_node 0 p + 1)) (suc l) (λ z. omega arith))
          ∙ k.in_node (suc l) q a b ∙ sym (count_unstored F.height (entry_by F p st) st.history n l q)

  -- a read of the group g, number i of its attempt
  reading : (σ : Spot) → At F p (st.process p).step σ → (st.process p).adds ≡ true → (i : ℕ) → i < length (groups_at F p σ) → σ.position ≡ suc i
      → (g : Group) → get_or (groups_at F p σ) i (the_one 0) ≡ g → access_by F p st ≡ reads (node_of F p σ) g.from g.count → (effect_by F p st).stored ≡ false
      → At F p (record_after F p st).step (onward σ) → Counted F (take_step F p st) (group_read g p σ.level c)
  unfolding read_over is_leaf_write node_of ancestor onward
  reading σ at adds i b w g eg eq n next =
      joined (group_read g p l c) (λ m q a b. k.in_node m q a b ∙ sym (count_still F.height (entry_by F p st) st.history (ap is_leaf_write eq) n m q))
      (λ x m. upd_other c.read p _ x m)
      (λ τ too. subst (ReadsAt F read' (entry_by F p st ∷ st.history) p) (same_spot F p (record_after F p st).step (onward σ) τ next too) moved)
    where
      l : ℕ
      l = σ.level

      lo : ℕ
      lo = first_under (suc l) p + g.from * 2 ^ l

      hi : ℕ
      hi = first_under (suc l) p + (g.from + g.count) * 2 ^ l

      read' : ℕ → ℕ
      read' = (group_read g p l c).read p

      levels : F.height ≡ suc (F.height - suc l) + l
      levels = omega (arith, at.level)

      at_p : read' ≡ between lo hi (c.in_node l) (c.read p)
      at_p = upd_same c.read p (between lo hi (c.in_node l) (c.read p))

      moved : ReadsAt F read' (entry_by F p st ∷ st.history) p (onward σ)
      moved q d u v = go (is_read_of (towards F l q) (access_by F p st)) refl
        where
          now : {old : List Entry} → before_read p (towards F l q) (entry_by F p st ∷ st.history) ≡ old
              → between lo hi (c.in_node l) (c.read p) q ≡ count_in F.height l q old
              → read' q ≡ count_in F.height l q (before_read p (towards F l q) (entry_by F p st ∷ st.history))
          now e f = ap (λ (h : ℕ → ℕ). h q) at_p ∙ f ∙ ap (λ (a : List Entry). count_in F.height l q a) (sym e)

          -- what was read before, if it is not of this group
          before : in_group g (towards F l q % 2) ≡ false → got_at F p σ (towards F l q % 2) ≡ true
          before o =
              or_first _ _ (ap (λ (h : Group). in_group h (towards F l q % 2)) eg ∙ o) (sym (got_onward F p σ (towards F l q % 2) i b w) ∙ v)

          number : is_read_of (towards F l q) (access_by F p st) ≡ in_group g (towards F l q % 2)
          number = ap (is_read_of (towards F l q)) eq ∙ read_number (towards F l q) (node_of F p σ) g u

          go : (t : Bool) → is_read_of (towards F l q) (access_by F p st) ≡ t → read' q ≡ count_in F.height l q (before_read p (towards F l q) (entry_by F p st ∷ st.history))
          go true e =
              let its = of_read_lem (towards F l q) (node_of F p σ) g.from g.count (sym (ap (is_read_of (towards F l q)) eq) ∙ e) in
              let here = under_children F.height (F.height - suc l) l p q levels g.from (g.from + g.count) its.0 its.1 in
              now (before_it F.height (entry_by F p st) st.history (towards F l q) e)
              (between_in lo hi (c.in_node l) (c.read p) q here.0 here.1 ∙ k.in_node l q (omega (arith, at.level)) d)
          go false e =
              now (before_not F.height (entry_by F p st) st.history p (towards F l q) e)
              (between_out lo hi (c.in_node l) (c.read p) q outside ∙ k.reads p adds σ at q d u (before (sym number ∙ e)))
            where
              outside : lo ≤ q → q < hi → ⊥
              outside x y =
                  let its = children_under F.height (F.height - suc l) l p q levels g.from (g.from + g.count) (x, y) in
                  false_true (sym e ∙ ap (is_read_of (towards F l q)) eq ∙ read_of_lem (towards F l q) (node_of F p σ) g.from g.count its.0 its.1)

  -- a successful SC at the node of the spot σ
  storing : (σ : Spot) → At F p (st.process p).step σ → (st.process p).adds ≡ true → suc σ.position ≡ width F (node_of F p σ) → (a : Attempt)
      → access_by F p st ≡ stores a (node_of F p σ) → (effect_by F p st).stored ≡ true → Unread F p (record_after F p st).step
      → Counted F (take_step F p st) (node_stored p σ.level c)
  unfolding stored_over is_leaf_write is_store_at node_of
  storing σ at adds last a eq ok none =
      joined (node_stored p l c) nodes (λ x m. refl) (nothing_read F (c.read p) _ p (record_after F p st).step none)
    where
      l : ℕ
      l = σ.level

      lo : ℕ
      lo = first_under (suc l) p

      hi : ℕ
      hi = first_under (suc l) p + 2 ^ suc l

      x : ℕ
      x = node_of F p σ

      levels : F.height ≡ suc (F.height - suc l) + l
      levels = omega (arith, at.level)

      row : ℕ → ℕ
      row = between lo hi (λ q. max (c.in_node (suc l) q) (c.read p q)) (c.in_node (suc l))

      -- both children have been read
      both : (y : ℕ) → got_at F p σ (y % 2) ≡ true
      both y = got_all F p σ (y % 2) (omega (arith, last, width_is F x)) ∙ s.good.lawful.covers F.height x (y % 2) (omega arith)

      nodes : (m q : ℕ) → m ≤ F.height → q < 2 ^ F.height → upd c.in_node (suc l) row m q ≡ count_in F.height m q (entry_by F p st ∷ st.history)
      nodes zero q b d =
          ap (λ (f : ℕ → ℕ). f q) (upd_other c.in_node (suc l) row 0 (λ z. omega arith)) ∙ k.in_node 0 q b d
          ∙ sym (count_unwritten F.height (entry_by F p st) st.history (ap is_leaf_write eq) q)
      nodes (suc m) q b d =
          go (eqb (towards F (suc m) q) x) refl
          ∙ sym (count_stored F.height (entry_by F p st) st.history m q x (ap (is_store_at (towards F (suc m) q)) eq) ok)
        where
          A : ℕ → ℕ
          A n = count_in F.height (suc n) q st.history

          B : ℕ → ℕ
          B n = count_in F.height n q (before_read p (towards F n q) st.history)

          inside : towards F (suc l) q ≡ x → row q ≡ max (A l) (B l)
          inside z =
              let w = under_node F.height (F.height - suc l) l p q levels z in
              between_in lo hi (λ y. max (c.in_node (suc l) y) (c.read p y)) (c.in_node (suc l)) q w.0 w.1
              ∙ ap₂ max (k.in_node (suc l) q at.level d) (k.reads p adds σ at q d z (both (towards F l q)))

          outside : (towards F (suc l) q ≡ x → ⊥) → row q ≡ A l
          outside n =
              between_out lo hi (λ y. max (c.in_node (suc l) y) (c.read p y)) (c.in_node (suc l)) q (λ f g. n (node_under F.height (F.height - suc l) l p q levels (f, g)))
              ∙ k.in_node (suc l) q at.level d

          go : (t : Bool) → eqb (towards F (suc m) q) x ≡ t → upd c.in_node (suc l) row (suc m) q ≡ cond t (max (A m) (B m)) (A m)
          go true z =
              let same = eqb-true (towards F (suc m) q) x z in
              let level : suc m ≡ suc l = same_level F.height (F.height - suc m) (suc m) (F.height - suc l) (suc l) q p (omega arith) (omega (arith, at.level)) d s.inside same in
              let ml : m ≡ l = omega arith in
              subst (λ (n : ℕ). upd c.in_node (suc l) row (suc n) q ≡ max (A n) (B n)) (sym ml)
              (ap (λ (f : ℕ → ℕ). f q) (upd_same c.in_node (suc l) row) ∙ inside (subst (λ (n : ℕ). towards F (suc n) q ≡ x) ml same))
          go false z =
              let apart = eqb-false (towards F (suc m) q) x z in
              upd_cases c.in_node (suc l) row (λ (f : ℕ → ℕ). f q ≡ A m) (suc m)
              (λ e. let ml : m ≡ l = omega arith in subst (λ (n : ℕ). row q ≡ A n) (sym ml) (outside (subst (λ (n : ℕ). towards F (suc n) q ≡ x → ⊥) ml apart)))
              (λ e. k.in_node (suc m) q b d)

  abbrev did_store : Access → Bool
  did_store b = (effect F p (st.process p) st.memory b).stored

  abbrev after : Bool → Counts
  after ok = counts_then F p (st.process p) ok c

  -- the stepping process's counts are those after its step, whatever its access
  counted_case : {a : Access} → Turn F p (st.process p) st.memory (record_after F p st).step a → access_by F p st ≡ a → Counted F (take_step F p st) (after (effect_by F p st).stored)
  unfolding is_leaf_write component_of effect moves onward
  counted_case (root e w z) eq =
      rw (then_read F p (st.process p) (effect_by F p st).stored c e)
      (quiet (ap is_leaf_write eq) (ap did_store eq) (unread_early F s.good.lawful p _ (omega arith)))
  counted_case (leaf e w z) eq =
      rw (then_addition F p (st.process p) (effect_by F p st).stored c e, after_start F p (st.process p).step _ (effect_by F p st).stored c (omega arith))
      (quiet (ap is_leaf_write eq) (ap did_store eq) (unread_early F s.good.lawful p _ (omega arith)))
  counted_case (write e w z at) eq =
      rw (then_addition F p (st.process p) (effect_by F p st).stored c e, after_write F p (st.process p).step _ (effect_by F p st).stored c w)
      (writing (ap is_leaf_write eq) (ap component_of eq) (ap did_store eq) (unread_link F p _ first_spot at refl))
  counted_case (link e σ at w next) eq =
      rw (then_attempt F p (st.process p) (effect_by F p st).stored c e s.good.lawful σ at, attempted_link (groups_at F p σ) p σ (effect_by F p st).stored c w)
      (quiet (ap is_leaf_write eq) (ap did_store eq) (unread_at F p _ (onward σ) next (λ d. (got_at_link F p σ d w).1)))
  counted_case (group e σ at i b w next) eq =
      rw (then_attempt F p (st.process p) (effect_by F p st).stored c e s.good.lawful σ at, attempted_read (groups_at F p σ) p σ (effect_by F p st).stored c i w b)
      (reading σ at e i b w (get_or (groups_at F p σ) i (the_one 0)) refl eq (ap did_store eq) next)
  counted_case (store e σ at w leads) eq = go (effect_by F p st).stored refl
    where
      none : Unread F p (record_after F p st).step
      none = unread_after F s.good.lawful p σ _ _ leads

      past : length (groups_at F p σ) < σ.position
      past = omega (arith, w, width_is F (node_of F p σ))

      go : (ok : Bool) → (effect_by F p st).stored ≡ ok → Counted F (take_step F p st) (after ok)
      go true ok =
          rw (then_attempt F p (st.process p) true c e s.good.lawful σ at, attempted_stored (groups_at F p σ) p σ true c past refl)
          (storing σ at e w (attempt_at σ.second) eq ok none)
      go false ok =
          rw (then_attempt F p (st.process p) false c e s.good.lawful σ at, attempted_failed (groups_at F p σ) p σ false c past refl)
          (quiet (ap is_leaf_write eq) ok none)

  pub counted_step : Counted F (take_step F p st) (counts_then F p (st.process p) (effect_by F p st).stored c)
  counted_step = counted_case (turns F p st s) refl

-- ---- a start, and the beginning

pub counted_start : (F : Form) (p : ℕ) (adds : Bool) (delta : ℕ) (st : State) (g : Good F st) (inside : p < 2 ^ F.height) (free : (st.process p).step ≡ 0) (room : st.operations < most_operations)
    (c : Counts) → Counted F st c → Counted F (start F p adds delta st) c
unfolding start started is_leaf_write
counted_start F p adds delta st g inside free room c k =
    record {
      in_node = λ l q a b. k.in_node l q a b ∙ sym (count_still F.height _ st.history refl refl l q);
      reads = by_process F p adds delta st g inside free room (λ x r. r.adds ≡ true → Reads F (c.read x) (start F p adds delta st).history x r.step)
          (λ a. nothing_read F (c.read p) _ p 1 (unread_early F g.lawful p 1 (omega arith)))
          (λ x n a σ at q b u v. k.reads x a σ at q b u v ∙ ap (λ (old : List Entry). count_in F.height σ.level q old) (sym (before_other F.height _ st.history x _ n)));
    }

pub counted_initial : (F : Form) (c : Counts) → ((l q : ℕ) → c.in_node l q ≡ 0) → Counted F (initial F) c
unfolding initial idleProcess count_in count_store writes_to
counted_initial F c none = record { in_node = λ l q a b. none l q ∙ sym (empty l q); reads = λ x a. absurd (false_true a) }
  where
    empty : (l q : ℕ) → count_in F.height l q [] ≡ 0
    empty zero q = refl
    empty (suc l) q = refl
