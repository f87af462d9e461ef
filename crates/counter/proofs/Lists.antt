-- Positions in a list that grows at its end, and that every write that is in node 1 is listed.
use Prim.Native.Nat.{ℕ, zero, suc, ◌+◌, max, ◌≤◌}
use native.Mathlib.Omega.{arith}
use mathlib.Core.Path.{◌≡◌, refl, sym, ap, ap₂, ◌∙◌, subst⁻¹}
use mathlib.Core.Logic.{⊎_elim}
use mathlib.Core.Bool.{Bool, true, false, not, cond, ◌&&◌}
use mathlib.Core.List.Memᴰ
use mathlib.Core.List.{List, [], ◌∷◌, ◌++◌, Memᴰ}
use lib.Dec.{eqb, ltb}
use borrow.Author.Tests.{eqb-true, eqb-false, eq-eqb, ne_eqb, ltb-true}
use Rattle.meaning.specs.Shape.{Form}
use Rattle.meaning.specs.Tree.{leaf_of, ancestor}
use Rattle.meaning.specs.Access.{Access, starts, reads_root, reads_leaf, writes_leaf, links, reads, stores, is_root_read, is_store_at}
use Rattle.meaning.specs.Run.{Entry}
use Rattle.meaning.specs.TakenIn.{before_read, keep, further, position_of, placed, listed}
use Rattle.meaning.specs.Plain.{up_to, times_in}
use Rattle.taken.specs.CountIn.{writes_to, count_store, count_in, Waiter, waiter_of, waiters, is_counted, operations_of}
use Rattle.taken.proofs.Agree.{Once, more, by_before, before_read_lem}
use Rattle.taken.proofs.Lists.{Distinct, nothing, another, listed_some, absent, found, position_neither}
use Rattle.history.proofs.Turns.{false_true}
use Rattle.history.proofs.Waiters.{root_count, newly, placed_is, NewOrOld, old, new, new_or_old, count_cap}

-- ---- positions

pub distinct_append : {l m : List ℕ} → Distinct l → Distinct m → ((i : ℕ) → Memᴰ i m → Memᴰ i l → ⊥) → Distinct (l ++ m)
distinct_append nothing d apart = d
distinct_append {m = m} (another {i} {is} z d) e apart =
    another (position_neither i is m (λ n. listed_some n z) (λ n. apart i n (Memᴰ.head refl))) (distinct_append d e (λ j n k. apart j n (Memᴰ.tail k)))

pub distinct_front : (l m : List ℕ) → Distinct (l ++ m) → Distinct l
distinct_front [] m d = nothing
distinct_front (x ∷ l) m (another z d) = another (absent x l (λ n. listed_some (Memᴰ.append_left m n) z)) (distinct_front l m d)

pub distinct_both : (l m : List ℕ) → Distinct (l ++ m) → {i : ℕ} → Memᴰ i l → Memᴰ i m → ⊥
distinct_both (x ∷ l) m (another z d) (Memᴰ.head e) n = listed_some (Memᴰ.append_right l n) (ap (λ (j : ℕ). position_of j (l ++ m)) e ∙ z)
distinct_both (x ∷ l) m (another z d) (Memᴰ.tail k) n = distinct_both l m d k n
distinct_both [] m d k n = Memᴰ.not-nil k

pub some_position : {i : ℕ} (l : List ℕ) → Memᴰ i l → 1 ≤ position_of i l
some_position {i} l m = go (position_of i l) (listed_some m)
  where
    go : (n : ℕ) → (n ≡ 0 → ⊥) → 1 ≤ n
    go zero z = absurd (z refl)
    go (suc n) z = omega arith

-- ---- the list up to an operation

pub up_to_first : (i : ℕ) (a b : List ℕ) → Memᴰ i a → up_to i (a ++ b) ≡ up_to i a
unfolding up_to
up_to_first i (x ∷ a) b m = go (eqb i x) refl (up_to_first i a b) m
  where
    go : (t : Bool) → eqb i x ≡ t → (Memᴰ i a → up_to i (a ++ b) ≡ up_to i a) → Memᴰ i (x ∷ a) → cond t [] (x ∷ up_to i (a ++ b)) ≡ cond t [] (x ∷ up_to i a)
    go true e ih n = refl
    go false e ih (Memᴰ.head d) = absurd (eqb-false i x e d)
    go false e ih (Memᴰ.tail n) = ap (λ (l : List ℕ). x ∷ l) (ih n)
up_to_first i [] b m = absurd (Memᴰ.not-nil m)

pub up_to_last : (i : ℕ) (a : List ℕ) → (Memᴰ i a → ⊥) → up_to i (a ++ (i ∷ [])) ≡ a
unfolding up_to
up_to_last i [] n = rw (eq-eqb i i refl)
up_to_last i (x ∷ a) n = rw (ne_eqb i x (λ e. n (Memᴰ.head e))) (ap (λ (l : List ℕ). x ∷ l) (up_to_last i a (λ m. n (Memᴰ.tail m))))

pub mem_up_to : (i j : ℕ) (l : List ℕ) → Memᴰ j (up_to i l) → Memᴰ j l
unfolding up_to
mem_up_to i j [] m = m
mem_up_to i j (x ∷ l) m = go (eqb i x) (mem_up_to i j l) m
  where
    go : (t : Bool) → (Memᴰ j (up_to i l) → Memᴰ j l) → Memᴰ j (cond t [] (x ∷ up_to i l)) → Memᴰ j (x ∷ l)
    go true ih m = absurd (Memᴰ.not-nil m)
    go false ih (Memᴰ.head e) = Memᴰ.head e
    go false ih (Memᴰ.tail n) = Memᴰ.tail (ih n)

-- ---- how often

times_none : (i : ℕ) (l : List ℕ) → position_of i l ≡ 0 → times_in i l ≡ 0
unfolding times_in position_of further
times_none i [] z = refl
times_none i (x ∷ l) z = go (eqb i x) (position_of i l) refl z (times_none i l)
  where
    go : (t : Bool) (n : ℕ) → position_of i l ≡ n → cond t 1 (further n) ≡ 0 → (position_of i l ≡ 0 → times_in i l ≡ 0) → cond t 1 0 + times_in i l ≡ 0
    go true n e z ih = absurd (omega arith)
    go false zero e z ih = omega (arith, ih e)
    go false (suc n) e z ih = absurd (omega arith)

pub times_some : (i : ℕ) (l : List ℕ) → Distinct l → Memᴰ i l → times_in i l ≡ 1
unfolding times_in
times_some i (x ∷ l) (another z d) m = go (eqb i x) refl m (times_some i l d)
  where
    go : (t : Bool) → eqb i x ≡ t → Memᴰ i (x ∷ l) → (Memᴰ i l → times_in i l ≡ 1) → cond t 1 0 + times_in i l ≡ 1
    go true e n ih = omega (arith, times_none i l (ap (λ (j : ℕ). position_of j l) (eqb-true i x e) ∙ z))
    go false e (Memᴰ.head d) ih = absurd (eqb-false i x e d)
    go false e (Memᴰ.tail n) ih = omega (arith, ih n)
times_some i [] d m = absurd (Memᴰ.not-nil m)

pub times_not : (i : ℕ) (l : List ℕ) → (Memᴰ i l → ⊥) → times_in i l ≡ 0
times_not i l n = times_none i l (absent i l n)

pub times_once : (i : ℕ) (l : List ℕ) → Distinct l → times_in i l ≤ 1
times_once i l d = ⊎_elim (λ z. omega (arith, times_none i l z)) (λ m. omega (arith, times_some i l d m)) (found i l)

-- what passes is kept
pub keep_mem : {A : Type 0} (f : A → Bool) (l : List A) {w : A} → Memᴰ w l → f w ≡ true → Memᴰ w (keep f l)
unfolding keep
keep_mem f (x ∷ l) {w} m e = go (f x) refl m (λ n. keep_mem f l n e)
  where
    go : (t : Bool) → f x ≡ t → Memᴰ w (x ∷ l) → (Memᴰ w l → Memᴰ w (keep f l)) → Memᴰ w (cond t (x ∷ keep f l) (keep f l))
    go true d (Memᴰ.head j) ih = Memᴰ.head j
    go true d (Memᴰ.tail n) ih = Memᴰ.tail (ih n)
    go false d (Memᴰ.head j) ih = absurd (false_true (sym d ∙ ap f (sym j) ∙ e))
    go false d (Memᴰ.tail n) ih = ih n
keep_mem f [] m e = absurd (Memᴰ.not-nil m)

-- ---- what is in node 1 is listed

module _ (F : Form) (low : 1 ≤ F.height) where
  -- a count above the leaves is a count of what had been written before the latest entry
  lags : (l q : ℕ) (e : Entry) (es : List Entry) → count_in F.height (suc l) q (e ∷ es) ≤ writes_to q es
  unfolding count_in count_store
  lags l q e es = go (is_store_at (ancestor (suc l) (leaf_of F.height q)) e.access && e.stored)
    where
      old_count : ℕ
      old_count = count_store (count_in F.height l q) (ancestor (suc l) (leaf_of F.height q)) (ancestor l (leaf_of F.height q)) es

      before : List Entry
      before = before_read e.process (ancestor l (leaf_of F.height q)) es

      go : (t : Bool) → cond t (max old_count (count_in F.height l q before)) old_count ≤ writes_to q es
      go true = omega (arith, count_cap F.height (suc l) q es, count_cap F.height l q before, by_before q (before_read_lem e.process (ancestor l (leaf_of F.height q)) es))
      go false = omega (arith, count_cap F.height (suc l) q es)

  pub root_lags : (q : ℕ) (e : Entry) (es : List Entry) → root_count F (e ∷ es) q ≤ writes_to q es
  root_lags q e es = go F.height refl
    where
      go : (m : ℕ) → F.height ≡ m → root_count F (e ∷ es) q ≤ writes_to q es
      go zero d = absurd (omega arith)
      go (suc m) d = subst⁻¹ (λ (l : ℕ). count_in F.height l q (e ∷ es) ≤ writes_to q es) d (lags m q e es)

  -- an access that is no SC changes no count there
  pub root_still : (e : Entry) (es : List Entry) → ((x : ℕ) → is_store_at x e.access ≡ false) → (q : ℕ) → root_count F (e ∷ es) q ≡ root_count F es q
  unfolding count_in count_store
  root_still e es n q = go F.height refl
    where
      step : (m : ℕ) → count_in F.height (suc m) q (e ∷ es) ≡ count_in F.height (suc m) q es
      step m = rw (n (ancestor (suc m) (leaf_of F.height q)))

      go : (m : ℕ) → F.height ≡ m → root_count F (e ∷ es) q ≡ root_count F es q
      go zero d = absurd (omega arith)
      go (suc m) d = subst⁻¹ (λ (l : ℕ). count_in F.height l q (e ∷ es) ≡ count_in F.height l q es) d (step m)

  pub read_no_store : (a : Access) → is_root_read a ≡ true → (x : ℕ) → is_store_at x a ≡ false
  unfolding is_root_read is_store_at
  read_no_store starts r x = refl
  read_no_store reads_root r x = refl
  read_no_store (reads_leaf c) r x = refl
  read_no_store (writes_leaf c) r x = refl
  read_no_store (links a y) r x = refl
  read_no_store (reads y from count) r x = refl
  read_no_store (stores a y) r x = absurd (false_true r)

  operations_mem : (l : List Waiter) {w : Waiter} → Memᴰ w l → Memᴰ w.operation (operations_of l)
  unfolding operations_of
  operations_mem (x ∷ l) (Memᴰ.head e) = Memᴰ.head (ap (λ (v : Waiter). v.operation) e)
  operations_mem (x ∷ l) (Memᴰ.tail m) = Memᴰ.tail (operations_mem l m)
  operations_mem [] m = absurd (Memᴰ.not-nil m)

  pub counted_listed : (es : List Entry) → Once es → (w : Waiter) → Memᴰ w (waiters es) → is_counted (root_count F es) w ≡ true → Memᴰ w.operation (listed F es)
  unfolding listed waiters is_counted waiter_of
  counted_listed [] o w m c = absurd (Memᴰ.not-nil m)
  counted_listed (e ∷ es) (more f o) w m c = go (new_or_old e es w m) (counted_listed es o w)
    where
      -- a new write is not in node 1
      not_yet : w ≡ waiter_of e es → ⊥
      not_yet d =
          let b = ltb-true w.turn (root_count F (e ∷ es) w.component) c in
          omega (arith, b, ap (λ (v : Waiter). v.turn) d, root_lags w.component e es, ap (λ (v : Waiter). writes_to v.component es) d)

      go : NewOrOld e es w → (Memᴰ w (waiters es) → is_counted (root_count F es) w ≡ true → Memᴰ w.operation (listed F es)) → Memᴰ w.operation (listed F es ++ placed F e es)
      go (new k d) ih = absurd (not_yet d)
      go (old n) ih = split (is_counted (root_count F es) w) refl
        where
          split : (t : Bool) → is_counted (root_count F es) w ≡ t → Memᴰ w.operation (listed F es ++ placed F e es)
          split true b = Memᴰ.append_left _ (ih n b)
          split false b = Memᴰ.append_right (listed F es) (taken (is_root_read e.access) refl)
            where
              taken : (t : Bool) → is_root_read e.access ≡ t → Memᴰ w.operation (placed F e es)
              taken true r = absurd (false_true (sym b ∙ ap (λ (n : ℕ). ltb w.turn n) (sym (root_still e es (read_no_store e.access r) w.component)) ∙ c))
              taken false r =
                  subst⁻¹ (Memᴰ w.operation) (placed_is F e es (more f o) r)
                  (operations_mem (keep (newly F e es (more f o)) (waiters es)) (keep_mem (newly F e es (more f o)) (waiters es) n (ap₂ (λ (x y : Bool). x && not y) c b)))
