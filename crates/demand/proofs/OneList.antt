-- The list of an accepted recording meets the clauses of `ListOf`, and no other list does.
use Prim.Native.Nat.{ℕ, ◌≤◌, ◌<◌}
use native.Mathlib.Omega.{arith}
use mathlib.Core.Path.{◌≡◌, refl, sym, ap, ◌∙◌}
use mathlib.Core.Logic.{◌⊎◌, inl, inr, ⊎_elim}
use mathlib.Core.Bool.{Bool, true, false, cond, ◌&&◌, ◌||◌}
use mathlib.Core.List.{List, ◌∷◌, Memᴰ}
use lib.Dec.{ltb, eqb}
use borrow.Author.Tests.{eqb-true, eq-eqb, ltb-true, ltb-false}
use Rattle.meaning.specs.Shape.{Form}
use Rattle.meaning.specs.Tree.{leaf_of, ancestor, root}
use Rattle.meaning.specs.Access.{Access, is_leaf_write, is_root_read, is_store_at}
use Rattle.meaning.specs.Run.{Entry, State}
use Rattle.meaning.specs.TakenIn.{in_leaf, listed, position_of}
use Rattle.meaning.specs.Plain.{times_in}
use Rattle.history.proofs.Did.{did, did_leaf, did_cases}
use Rattle.history.proofs.Good.{Good}
use Rattle.history.proofs.Turns.{false_true}
use Rattle.counter.proofs.Told.{Told}
use Rattle.counter.proofs.Whose.{Whose, writes_did}
use Rattle.counter.proofs.Lists.{times_some, times_not, read_no_store}
use Rattle.counter.proofs.Overs.{and_both, top}
use Rattle.demand.specs.InOrder.{is_taken_in, is_listed, is_placed, place_of, write_of, is_read_by, is_root_store, is_write_by, Places, ListOf}
use Rattle.demand.proofs.First.{Turned, turned, turned_at, Together, together}
use Rattle.demand.proofs.OneOrder.{mem_times, same_order}
use Rattle.demand.proofs.TakesIn.{or_cases, or_left, node_leaf, TakesIn, takes_in}
use Rattle.demand.proofs.InOrder.{Books, as_read, as_addition, two_or_not, at_first, stands, lists, listed_in_order}

-- the entry by which an operation has first made an access is of that operation
did_turn : (kind : Access → Bool) (i : ℕ) (e : Entry) (es : List Entry) → did kind i es ≡ false → did kind i (e ∷ es) ≡ true → (kind e.access ≡ true) × (i ≡ e.operation)
did_turn kind i e es n d = ⊎_elim (λ r. absurd (false_true (sym n ∙ r))) (λ r. r) (did_cases kind i e es d)

both_are : (a b : Bool) → a ≡ true → b ≡ true → (a && b) ≡ true
both_are a b d e = rw (d, e)

or_right : (a b : Bool) → b ≡ true → (a || b) ≡ true
or_right true b d = refl
or_right false b d = d

module _ (F : Form) (st : State) (g : Good F st) (t : Told F st) (k : Whose F st) where
  abbrev es : List Entry
  es = st.history

  books : Books F st.row es
  books =
      record {
        once = g.once;
        apart = t.apart;
        readers = k.readers;
        writers = λ w m. (t.additions w.operation (writes_did es w m), k.writers w m);
      }

  -- ---- who

  is_listed_lem : (i : ℕ) → is_listed F st i ≡ true → Memᴰ i (listed F es)
  unfolding is_listed is_taken_in
  is_listed_lem i d = ⊎_elim reads (λ a. adds a.1) (or_cases (eqb (st.row i).kind 2 && (st.row i).finished) _ d)
    where
      reads : (eqb (st.row i).kind 2 && (st.row i).finished) ≡ true → Memᴰ i (listed F es)
      reads a = t.finished i (and_both (eqb (st.row i).kind 2) _ a).1

      adds : (eqb (st.row i).kind 3 && is_taken_in F st.row i es) ≡ true → Memᴰ i (listed F es)
      adds a =
          let b = and_both (eqb (st.row i).kind 3) (is_taken_in F st.row i es) a in
          lists F g.low st.row es books i (as_addition F st.row i es (λ z. omega (arith, eqb-true (st.row i).kind 3 b.0)) ∙ b.1)

  -- an addition that is listed has its kind, as it has written
  is_addition : (i : ℕ) → Memᴰ i (listed F es) → ((st.row i).kind ≡ 2 → ⊥) → (is_taken_in F st.row i es ≡ true) × (in_leaf i es ≡ true) × ((st.row i).kind ≡ 3)
  unfolding is_taken_in
  is_addition i m n =
      let a = sym (as_addition F st.row i es n) ∙ stands F g.low st.row es books i m in
      let w = node_leaf F.height _ i es a in
      (a, w, t.additions i (sym (did_leaf i es) ∙ w))

  not_two : {n : ℕ} → n ≡ 3 → n ≡ 2 → ⊥
  not_two a b = omega arith

  listed_is : (i : ℕ) → Memᴰ i (listed F es) → is_listed F st i ≡ true
  unfolding is_listed is_taken_in
  listed_is i m =
      two_or_not (st.row i).kind _ (λ a. or_left (eqb (st.row i).kind 2 && (st.row i).finished) _ (both_are _ _ (eq-eqb (st.row i).kind 2 a) (t.reads i m a)))
      (λ a. let b = is_addition i m a in or_right (eqb (st.row i).kind 2 && (st.row i).finished) _ (both_are _ _ (eq-eqb (st.row i).kind 3 b.2) b.0))

  times_listed : (i : ℕ) → times_in i (listed F es) ≡ cond (is_listed F st i) 1 0
  times_listed i = go (is_listed F st i) refl
    where
      go : (b : Bool) → is_listed F st i ≡ b → times_in i (listed F es) ≡ cond b 1 0
      go true d = times_some i (listed F es) t.apart (is_listed_lem i d)
      go false d = times_not i (listed F es) (λ m. false_true (sym d ∙ listed_is i m))

  pub list_of : ListOf F st (listed F es)
  unfolding place_of write_of
  list_of =
      record {
        who = times_listed;
        earlier = λ i j a b lt. listed_in_order F g.low st.row es books i j (is_listed_lem i a) (is_listed_lem j b) (inl lt);
        ties = λ i j a b x y e lt. listed_in_order F g.low st.row es books i j (is_listed_lem i a) (is_listed_lem j b) (inr (e, (x, y, lt)));
      }

  -- ---- of two, one stands first

  -- i's place is the earlier record, or it is the same and i's leaf write is
  abbrev Earlier : ℕ → ℕ → Type 0
  Earlier i j = (place_of F st i < place_of F st j) ⊎ ((place_of F st i ≡ place_of F st j) × ((st.row i).kind ≡ 3) × ((st.row j).kind ≡ 3) × (write_of st i < write_of st j))

  by_number : (a b : ℕ) (P : Type 0) → (a < b → P) → (b < a → P) → (a ≡ b → P) → P
  by_number a b P less more same = go (ltb a b) refl (ltb b a) refl
    where
      go : (x : Bool) → ltb a b ≡ x → (y : Bool) → ltb b a ≡ y → P
      go true d y f = less (ltb-true a b d)
      go false d true f = more (ltb-true b a f)
      go false d false f = same (let u = ltb-false a b d in let v = ltb-false b a f in omega arith)

  abbrev Placed : ℕ → List Entry → Bool
  Placed = is_placed F st.row

  its_place : (i : ℕ) → Memᴰ i (listed F es) → Turned (Placed i) es
  its_place i m = turned (Placed i) es (at_first F st.row i) (stands F g.low st.row es books i m)

  its_write : (i : ℕ) → in_leaf i es ≡ true → Turned (in_leaf i) es
  unfolding in_leaf
  its_write i w = turned (in_leaf i) es refl w

  one_place : (i j : ℕ) → Memᴰ i (listed F es) → Memᴰ j (listed F es) → place_of F st i ≡ place_of F st j → Together (Placed i) (Placed j)
  unfolding place_of
  one_place i j m n e = together (its_place i m) (its_place j n) e

  -- the entry that places a read is its step, the one that places an addition an SC at node 1, and its write its leaf write
  read_turn : (i : ℕ) → (st.row i).kind ≡ 2 → (e : Entry) (old : List Entry) → Placed i old ≡ false → Placed i (e ∷ old) ≡ true → (is_root_read e.access ≡ true) × (i ≡ e.operation)
  read_turn i a e old n d =
      did_turn is_root_read i e old (sym (as_read F st.row i old a) ∙ n) (sym (as_read F st.row i (e ∷ old) a) ∙ d)

  store_turn : (i : ℕ) → ((st.row i).kind ≡ 2 → ⊥) → (e : Entry) (old : List Entry) → Placed i old ≡ false → Placed i (e ∷ old) ≡ true → TakesIn (ancestor F.height (leaf_of F.height (st.row i).process)) i e old
  unfolding is_taken_in
  store_turn i a e old n d =
      takes_in F.height _ i g.low e old (sym (as_addition F st.row i old a) ∙ n) (sym (as_addition F st.row i (e ∷ old) a) ∙ d)

  write_turn : (i : ℕ) (e : Entry) (old : List Entry) → in_leaf i old ≡ false → in_leaf i (e ∷ old) ≡ true → (is_leaf_write e.access ≡ true) × (i ≡ e.operation)
  write_turn i e old n d = did_turn is_leaf_write i e old (sym (did_leaf i old) ∙ n) (sym (did_leaf i (e ∷ old)) ∙ d)

  -- a read has its place for itself
  read_alone : (i j : ℕ) → (st.row i).kind ≡ 2 → Together (Placed i) (Placed j) → i ≡ j
  read_alone i j two c =
      let r = read_turn i two c.entry c.old c.was c.is in
      two_or_not (st.row j).kind (i ≡ j) (λ a. r.1 ∙ sym (read_turn j a c.entry c.old c.was' c.is').1)
      (λ a. absurd (false_true (sym (read_no_store F g.low c.entry.access r.0 _) ∙ (store_turn j a c.entry c.old c.was' c.is').store)))

  -- and a leaf write is one operation's
  one_write : (i j : ℕ) → in_leaf i es ≡ true → in_leaf j es ≡ true → write_of st i ≡ write_of st j → i ≡ j
  unfolding write_of
  one_write i j a b e =
      let c = together (its_write i a) (its_write j b) e in
      (write_turn i c.entry c.old c.was c.is).1 ∙ sym (write_turn j c.entry c.old c.was' c.is').1

  one_first : (i j : ℕ) → Memᴰ i (listed F es) → Memᴰ j (listed F es) → (i ≡ j → ⊥) → Earlier i j ⊎ Earlier j i
  one_first i j m n apart = by_number (place_of F st i) (place_of F st j) _ (λ lt. inl (inl lt)) (λ lt. inr (inl lt)) same
    where
      same : place_of F st i ≡ place_of F st j → Earlier i j ⊎ Earlier j i
      same e =
          let a = is_addition i m (λ two. apart (read_alone i j two (one_place i j m n e))) in
          let b = is_addition j n (λ two. apart (sym (read_alone j i two (one_place j i n m (sym e))))) in
          by_number (write_of st i) (write_of st j) _ (λ lt. inl (inr (e, a.2, b.2, lt))) (λ lt. inr (inr (sym e, b.2, a.2, lt))) (λ w. absurd (apart (one_write i j a.1 b.1 w)))

  -- ---- the records

  pub places : Places F st
  unfolding place_of write_of is_read_by is_root_store is_write_by root
  places =
      record {
        reads = λ i d a.
            let c = its_place i (is_listed_lem i d) in
            let r = read_turn i a c.entry c.old c.was c.is in
            turned_at (is_read_by i) c (both_are (is_root_read c.entry.access) _ r.0 (eq-eqb i c.entry.operation r.1));
        additions = λ i d a.
            let m = is_listed_lem i d in
            let c = its_place i m in
            let r = store_turn i (not_two a) c.entry c.old c.was c.is in
            turned_at is_root_store c
            (both_are (is_store_at 1 c.entry.access) _ (ap (λ (x : ℕ). is_store_at x c.entry.access) (sym (top F.height (st.row i).process (k.inside i))) ∙ r.store) r.stored);
        writes = λ i d a.
            let c = its_write i (is_addition i (is_listed_lem i d) (not_two a)).1 in
            let r = write_turn i c.entry c.old c.was c.is in
            turned_at (is_write_by i) c (both_are (is_leaf_write c.entry.access) _ r.0 (eq-eqb i c.entry.operation r.1));
      }

  -- ---- one list

  -- what stands in a list of the clauses is listed
  in_list : {l : List ℕ} → ListOf F st l → (i : ℕ) → Memᴰ i l → is_listed F st i ≡ true
  in_list {l} c i m = go (is_listed F st i) refl
    where
      go : (b : Bool) → is_listed F st i ≡ b → b ≡ true
      go true d = refl
      go false d = absurd (omega (arith, mem_times i l m, c.who i, ap {B = ℕ} (λ b. cond b 1 0) d))

  stands_first : {l : List ℕ} → ListOf F st l → (i j : ℕ) → is_listed F st i ≡ true → is_listed F st j ≡ true → Earlier i j → position_of i l < position_of j l
  unfolding place_of write_of
  stands_first c i j a b = ⊎_elim (c.earlier i j a b) (λ e. c.ties i j a b e.1 e.2 e.0 e.3)

  pub list_one : (l m : List ℕ) → ListOf F st l → ListOf F st m → l ≡ m
  list_one l m a b =
      same_order l m
      (record {
        times = λ i. a.who i ∙ sym (b.who i);
        once = λ i. omega (arith, a.who i, at_most_one (is_listed F st i));
        order = order;
      })
    where
      at_most_one : (b : Bool) → cond b 1 0 ≤ 1
      at_most_one true = omega arith
      at_most_one false = omega arith

      order : (i j : ℕ) → Memᴰ i l → Memᴰ j l → position_of i l < position_of j l → position_of i m < position_of j m
      order i j x y lt =
          let u = in_list a i x in
          let v = in_list a j y in
          ⊎_elim (stands_first b i j u v) (λ e. absurd (omega (arith, lt, stands_first a j i v u e)))
          (one_first i j (is_listed_lem i u) (is_listed_lem j v) (λ e. omega (arith, lt, ap (λ (x : ℕ). position_of x l) e)))
