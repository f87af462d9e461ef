-- The leaf writes with their turns: each is its operation's one write, and whether it is in node 1 is told by the count there. So what an
-- entry adds to the list are the waiters that are counted after it and were not before.
use Prim.Native.Nat.{ℕ, zero, suc, ◌+◌, max, ◌≤◌}
use native.Mathlib.Omega.{arith}
use mathlib.Core.Path.{◌≡◌, refl, sym, ap, ap₂, ◌∙◌, subst}
use mathlib.Core.Logic.{⊎_elim}
use mathlib.Core.Bool.{Bool, true, false, not, cond, ◌&&◌}
use mathlib.Core.List.Memᴰ
use mathlib.Core.List.{List, [], ◌∷◌, ◌++◌, map, map-append, append-nil, Memᴰ}
use lib.Dec.{eqb}
use Rattle.meaning.specs.Tree.{leaf_of, ancestor}
use Rattle.meaning.specs.Access.{is_leaf_write, is_root_read, component_of, is_store_at}
use Rattle.meaning.specs.Shape.{Form}
use Rattle.meaning.specs.Run.{Entry}
use Rattle.meaning.specs.TakenIn.{in_leaf, before_read, keep, leaf_writes, in_root, placed}
use Rattle.taken.specs.CountIn.{writes_to, count_store, count_in, Waiter, waiter_of, waiters, is_counted, operations_of}
use Rattle.taken.proofs.Agree.{Once, more, Before, same, later, before_read_lem, by_before, Writes, here, there, written, agree}
use Rattle.taken.proofs.Lists.{keep_append, Distinct, nothing, mem_keep, mem_operations, operations_append, distinct_more}
use Rattle.history.proofs.Turns.{false_true}

-- ---- who waits

abbrev one_if : Bool → Waiter → List Waiter
one_if t w = cond t (w ∷ []) []

pub data NewOrOld (e : Entry) (es : List Entry) (w : Waiter) : Type 0 where
  old : Memᴰ w (waiters es) → NewOrOld e es w
  new : is_leaf_write e.access ≡ true → w ≡ waiter_of e es → NewOrOld e es w

pub new_or_old : (e : Entry) (es : List Entry) (w : Waiter) → Memᴰ w (waiters (e ∷ es)) → NewOrOld e es w
unfolding waiters
new_or_old e es w m = ⊎_elim old (λ n. go (is_leaf_write e.access) refl n) (Memᴰ.append_cases (waiters es) m)
  where
    go : (t : Bool) → is_leaf_write e.access ≡ t → Memᴰ w (one_if t (waiter_of e es)) → NewOrOld e es w
    go true k n = new k (Memᴰ.eq_of_singleton n)
    go false k n = absurd (Memᴰ.not-nil n)

pub waiters_write : (e : Entry) (es : List Entry) → is_leaf_write e.access ≡ true → waiters (e ∷ es) ≡ waiters es ++ (waiter_of e es ∷ [])
unfolding waiters
waiters_write e es k = rw k

pub waiters_still : (e : Entry) (es : List Entry) → is_leaf_write e.access ≡ false → waiters (e ∷ es) ≡ waiters es
unfolding waiters
waiters_still e es k = rw k (append-nil (waiters es))

nobody_waits : (w : Waiter) → Memᴰ w (waiters []) → ⊥
unfolding waiters
nobody_waits w m = Memᴰ.not-nil m

pub waiter_writes : (es : List Entry) (w : Waiter) → Memᴰ w (waiters es) → Writes w.operation w.component w.turn es
unfolding waiter_of
waiter_writes [] w m = absurd (nobody_waits w m)
waiter_writes (e ∷ es) w m = go (waiter_writes es w) (new_or_old e es w m)
  where
    go : (Memᴰ w (waiters es) → Writes w.operation w.component w.turn es) → NewOrOld e es w → Writes w.operation w.component w.turn (e ∷ es)
    go ih (old n) = there (ih n)
    go ih (new k d) =
        here k (sym (ap (λ (v : Waiter). v.operation) d)) (sym (ap (λ (v : Waiter). v.component) d))
        (ap (λ (v : Waiter). writes_to v.component es) d ∙ sym (ap (λ (v : Waiter). v.turn) d))

-- a new waiter's operation is none of the old ones'
unwritten : (e : Entry) (es : List Entry) (u v : Waiter) → in_leaf e.operation es ≡ false → u ≡ waiter_of e es → Memᴰ v (waiters es) → u.operation ≡ v.operation → ⊥
unfolding waiter_of
unwritten e es u v n d m j =
    let i : e.operation ≡ v.operation = sym (ap (λ (x : Waiter). x.operation) d) ∙ j in
    false_true (sym n ∙ ap (λ (x : ℕ). in_leaf x es) i ∙ written (waiter_writes es v m))

-- two of one operation are one
pub same_waiter : (es : List Entry) (w v : Waiter) → Once es → Memᴰ w (waiters es) → Memᴰ v (waiters es) → w.operation ≡ v.operation → w ≡ v
same_waiter (e ∷ es) w v (more f o) m n i = go (same_waiter es w v o) (new_or_old e es w m) (new_or_old e es v n)
  where
    never : (u u' : Waiter) → is_leaf_write e.access ≡ true → u ≡ waiter_of e es → Memᴰ u' (waiters es) → u.operation ≡ u'.operation → ⊥
    never u u' k d m j = unwritten e es u u' (f k) d m j

    go : (Memᴰ w (waiters es) → Memᴰ v (waiters es) → w.operation ≡ v.operation → w ≡ v) → NewOrOld e es w → NewOrOld e es v → w ≡ v
    go ih (old a) (old b) = ih a b i
    go ih (old a) (new k d) = absurd (never v w k d a (sym i))
    go ih (new k d) (old b) = absurd (never w v k d b i)
    go ih (new k d) (new k' d') = d ∙ sym d'
same_waiter [] w v o m n i = absurd (nobody_waits w m)

none_kept : (p : Waiter → Bool) → Distinct (operations_of (keep p (waiters [])))
unfolding waiters keep operations_of
none_kept p = nothing

-- the operations kept are told apart
pub distinct_waiters : (p : Waiter → Bool) (es : List Entry) → Once es → Distinct (operations_of (keep p (waiters es)))
unfolding keep operations_of waiter_of
distinct_waiters p [] o = none_kept p
distinct_waiters p (e ∷ es) (more f o) = go (is_leaf_write e.access) refl (distinct_waiters p es o)
  where
    last : (t : Bool) → is_leaf_write e.access ≡ true → Distinct (operations_of (keep p (waiters es)))
        → Distinct (operations_of (keep p (waiters es)) ++ operations_of (one_if t (waiter_of e es)))
    last true k d =
        distinct_more e.operation d
        (λ m. let r = mem_operations (keep p (waiters es)) m in unwritten e es (waiter_of e es) r.0 (f k) refl (mem_keep p (waiters es) r.1).0 (sym r.2))
    last false k d = subst Distinct (sym (append-nil (operations_of (keep p (waiters es))))) d

    go : (t : Bool) → is_leaf_write e.access ≡ t → Distinct (operations_of (keep p (waiters es))) → Distinct (operations_of (keep p (waiters (e ∷ es))))
    go true k d = rw (waiters_write e es k, keep_append p (waiters es), operations_append) (last (p (waiter_of e es)) k d)
    go false k d = rw (waiters_still e es k) d

-- ---- the counts at node 1

abbrev pub root_count : Form → List Entry → ℕ → ℕ
root_count F es c = count_in F.height F.height c es

-- no more are in a node than have been written
store_cap : (q x y : ℕ) (below : List Entry → ℕ) → ((es : List Entry) → below es ≤ writes_to q es) → (es : List Entry) → count_store below x y es ≤ writes_to q es
unfolding count_store writes_to
store_cap q x y below cap [] = omega arith
store_cap q x y below cap (e ∷ es) = go (is_store_at x e.access && e.stored) (store_cap q x y below cap es)
  where
    old : List Entry
    old = before_read e.process y es

    go : (t : Bool) → count_store below x y es ≤ writes_to q es
        → cond t (max (count_store below x y es) (below old)) (count_store below x y es) ≤ writes_to q es + cond (is_leaf_write e.access && eqb q (component_of e.access)) 1 0
    go true ih = omega (arith, cap old, by_before q (before_read_lem e.process y es))
    go false ih = omega arith

pub count_cap : (h l q : ℕ) (es : List Entry) → count_in h l q es ≤ writes_to q es
unfolding count_in
count_cap h zero q es = omega arith
count_cap h (suc l) q es = store_cap q _ _ (count_in h l q) (count_cap h l q) es

-- counts only grow
pub count_grows : (h l q : ℕ) (e : Entry) (es : List Entry) → count_in h l q es ≤ count_in h l q (e ∷ es)
unfolding count_in writes_to count_store
count_grows h zero q e es = omega arith
count_grows h (suc l) q e es = go (is_store_at (ancestor (suc l) (leaf_of h q)) e.access && e.stored)
  where
    below : ℕ
    below = count_store (count_in h l q) (ancestor (suc l) (leaf_of h q)) (ancestor l (leaf_of h q)) es

    go : (t : Bool) → below ≤ cond t (max below (count_in h l q (before_read e.process (ancestor l (leaf_of h q)) es))) below
    go true = omega arith
    go false = omega arith

-- ---- what an entry adds to the list

writes_later : {i p k : ℕ} {old es : List Entry} → Before old es → Writes i p k old → Writes i p k es
writes_later same w = w
writes_later (later b) w = there (writes_later b w)

-- the leaf writes kept by a test of entries, and by the same test of waiters, have the same operations
together : (P : Entry → Bool) (Q : Waiter → Bool) (es : List Entry)
    → ((e : Entry) (old : List Entry) → Before (e ∷ old) es → is_leaf_write e.access ≡ true → P e ≡ Q (waiter_of e old))
    → map (λ (e : Entry). e.operation) (keep P (leaf_writes es)) ≡ operations_of (keep Q (waiters es))
unfolding leaf_writes waiters keep operations_of waiter_of
together P Q [] same_test = refl
together P Q (e ∷ es) same_test =
    ap (map (λ (e : Entry). e.operation)) (keep_append P (leaf_writes es) _) ∙ map-append _ (keep P (leaf_writes es)) _
    ∙ ap₂ (λ (a b : List ℕ). a ++ b) (together P Q es (λ x old b. same_test x old (later b))) (last (is_leaf_write e.access) refl)
    ∙ sym (ap operations_of (keep_append Q (waiters es) _) ∙ operations_append (keep Q (waiters es)) _)
  where
    kept : (t : Bool) → map (λ (e : Entry). e.operation) (cond t (e ∷ []) []) ≡ operations_of (cond t (waiter_of e es ∷ []) [])
    kept true = refl
    kept false = refl

    last : (t : Bool) → is_leaf_write e.access ≡ t → map (λ (e : Entry). e.operation) (keep P (cond t (e ∷ []) [])) ≡ operations_of (keep Q (cond t (waiter_of e es ∷ []) []))
    last true k = rw (same_test e es same k) (kept (Q (waiter_of e es)))
    last false k = refl

module _ (F : Form) (e : Entry) (es : List Entry) (o : Once (e ∷ es)) where
  -- the waiters that are counted in node 1 after the entry and were not before
  abbrev pub newly : Waiter → Bool
  newly w = is_counted (root_count F (e ∷ es)) w && not (is_counted (root_count F es) w)

  pub placed_is : is_root_read e.access ≡ false → placed F e es ≡ operations_of (keep newly (waiters es))
  unfolding placed in_root is_counted waiter_of
  placed_is n =
      rw n
      (together _ newly es
      (λ x past b k.
      let w = before_writes x past b k in
      ap₂ (λ (s t : Bool). s && not t) (agree F.height _ _ _ (e ∷ es) o w F.height (e ∷ es) same) (agree F.height _ _ _ (e ∷ es) o w F.height es (later same))))
    where
      before_writes : (x : Entry) (past : List Entry) → Before (x ∷ past) es → is_leaf_write x.access ≡ true → Writes x.operation (component_of x.access) (writes_to (component_of x.access) past) (e ∷ es)
      before_writes x past b k = there (writes_later b (here k refl refl refl))
