-- The list of an accepted recording is in order: an operation is in it from its place on, and two that have one place stand in the order of
-- their leaf writes. Said of any history whose reads and leaf writes are those of the rows.
use Prim.Native.Nat.{ℕ, ◌≤◌, ◌<◌}
use native.Mathlib.Omega.{arith}
use mathlib.Core.Path.{◌≡◌, refl, sym, ap, ap₂, ◌∙◌, subst, subst⁻¹}
use mathlib.Core.Logic.{◌⊎◌, inl, ⊎_elim}
use mathlib.Core.Bool.{Bool, true, false, not, cond, ◌&&◌}
use mathlib.Core.List.Memᴰ
use mathlib.Core.List.{List, [], ◌∷◌, ◌++◌, map, map-append, Memᴰ}
use lib.Dec.{eqb}
use borrow.Author.Tests.{eqb-true, eqb-false, eq-eqb, ne_eqb}
use Rattle.meaning.specs.Shape.{Form}
use Rattle.meaning.specs.Tree.{leaf_of, ancestor}
use Rattle.meaning.specs.Access.{is_leaf_write, component_of, is_root_read}
use Rattle.meaning.specs.Run.{Entry, Row}
use Rattle.meaning.specs.TakenIn.{in_leaf, is_in_node, keep, leaf_writes, in_root, placed, listed, position_of}
use Rattle.taken.proofs.Agree.{Once, more}
use Rattle.taken.proofs.Lists.{Distinct, keep_append, mem_keep}
use Rattle.history.proofs.Did.{did, did_leaf, did_now, did_on, did_cases}
use Rattle.history.proofs.Turns.{false_true}
use Rattle.history.proofs.Listing.{placed_read}
use Rattle.counter.proofs.Lists.{distinct_front, distinct_both, keep_mem, read_no_store}
use Rattle.counter.proofs.Overs.{and_both}
use Rattle.counter.proofs.Whose.{writes_did}
use Rattle.demand.specs.InOrder.{first_after, is_taken_in, is_placed}
use Rattle.demand.proofs.First.{first_old, in_order}
use Rattle.demand.proofs.TakesIn.{has_read_lem, node_on, node_leaf, TakesIn, takes_in, in_nowhere}

-- ---- the leaf writes

abbrev operation_of : Entry → ℕ
operation_of w = w.operation

mem_map : {i : ℕ} (l : List Entry) → Memᴰ i (map operation_of l) → (w : Entry) × Memᴰ w l × (w.operation ≡ i)
mem_map [] m = absurd (Memᴰ.not-nil m)
mem_map (x ∷ l) (Memᴰ.head e) = (x, Memᴰ.head refl, sym e)
mem_map (x ∷ l) (Memᴰ.tail m) = let r = mem_map l m in (r.0, Memᴰ.tail r.1, r.2)

map_mem : {w : Entry} (l : List Entry) → Memᴰ w l → Memᴰ w.operation (map operation_of l)
map_mem (x ∷ l) (Memᴰ.head e) = Memᴰ.head (ap operation_of e)
map_mem (x ∷ l) (Memᴰ.tail m) = Memᴰ.tail (map_mem l m)
map_mem [] m = absurd (Memᴰ.not-nil m)

-- what is in its leaf was written there
write_in : (i : ℕ) (es : List Entry) → in_leaf i es ≡ true → (w : Entry) × Memᴰ w (leaf_writes es) × (w.operation ≡ i)
unfolding leaf_writes did
write_in i [] d = absurd (false_true (sym (did_leaf i []) ∙ d))
write_in i (e ∷ es) d =
    ⊎_elim (λ a. let r = write_in i es (did_leaf i es ∙ a) in (r.0, Memᴰ.append_left _ r.1, r.2))
    (λ a. (e, Memᴰ.append_right (leaf_writes es) (rw a.0 (Memᴰ.head refl)), sym a.1)) (did_cases is_leaf_write i e es (sym (did_leaf i (e ∷ es)) ∙ d))

-- those of them that pass, in their order
module _ (P : Entry → Bool) where
  abbrev passing : List Entry → List ℕ
  passing es = map operation_of (keep P (leaf_writes es))

  abbrev passes : Entry → List Entry → List ℕ
  passes e es = map operation_of (keep P (cond (is_leaf_write e.access) (e ∷ []) []))

  passing_more : (e : Entry) (es : List Entry) → passing (e ∷ es) ≡ passing es ++ passes e es
  unfolding leaf_writes
  passing_more e es = ap (map operation_of) (keep_append P (leaf_writes es) _) ∙ map-append operation_of (keep P (leaf_writes es)) _

  passing_in : (es : List Entry) (i : ℕ) → Memᴰ i (passing es) → in_leaf i es ≡ true
  passing_in es i m =
      let r = mem_map (keep P (leaf_writes es)) m in
      ap (λ (x : ℕ). in_leaf x es) (sym r.2) ∙ did_leaf r.0.operation es ∙ writes_did es r.0 (mem_keep P (leaf_writes es) r.1).0

  passes_new : (e : Entry) (es : List Entry) → Once (e ∷ es) → (i : ℕ) → Memᴰ i (passes e es) → in_leaf i es ≡ false
  unfolding keep
  passes_new e es (more f o) i m = go (is_leaf_write e.access) refl m
    where
      go : (t : Bool) → is_leaf_write e.access ≡ t → Memᴰ i (map operation_of (keep P (cond t (e ∷ []) []))) → in_leaf i es ≡ false
      go true d n =
          let r = mem_map (keep P (e ∷ [])) n in
          ap (λ (x : ℕ). in_leaf x es) (sym r.2 ∙ ap operation_of (Memᴰ.eq_of_singleton (mem_keep P (e ∷ []) r.1).0)) ∙ f d
      go false d n = absurd (Memᴰ.not-nil n)

  once_less : (e : Entry) (es : List Entry) → Once (e ∷ es) → Once es
  once_less e es (more f o) = o

  writes_in_order : (es : List Entry) → Once es → (i j : ℕ) → Memᴰ i (passing es) → Memᴰ j (passing es) → first_after (in_leaf i) es < first_after (in_leaf j) es
      → position_of i (passing es) < position_of j (passing es)
  unfolding leaf_writes keep in_leaf
  writes_in_order es o i j m n b =
      in_order passing passes in_leaf Once (λ es i j. ⊥) refl passing_more once_less (λ i. refl) (λ es o. passing_in es) passes_new (λ e es o i j m n t. t)
      (λ e es o i j m n t. absurd t) es o i j m n (inl b)

-- ---- whether an operation has its place

pub two_or_not : (k : ℕ) (P : Type 0) → (k ≡ 2 → P) → ((k ≡ 2 → ⊥) → P) → P
two_or_not k P two other = go (eqb k 2) refl
  where
    go : (t : Bool) → eqb k 2 ≡ t → P
    go true e = two (eqb-true k 2 e)
    go false e = other (eqb-false k 2 e)

module _ (F : Form) (row : ℕ → Row) (i : ℕ) where
  pub as_read : (es : List Entry) → (row i).kind ≡ 2 → is_placed F row i es ≡ did is_root_read i es
  unfolding is_placed
  as_read es k = rw (eq-eqb (row i).kind 2 k) (has_read_lem i es)

  pub as_addition : (es : List Entry) → ((row i).kind ≡ 2 → ⊥) → is_placed F row i es ≡ is_taken_in F row i es
  unfolding is_placed is_taken_in
  as_addition es k = rw (ne_eqb (row i).kind 2 k)

  pub at_first : is_placed F row i [] ≡ false
  unfolding did is_taken_in
  at_first = two_or_not (row i).kind _ (λ k. as_read [] k) (λ k. as_addition [] k ∙ in_nowhere F.height _ i)

-- ---- the list

-- what ties the history to the rows: who has read node 1 is a read, who has written is an addition, to the component of its row's process
pub record Books (F : Form) (row : ℕ → Row) (es : List Entry) : Type 0 where
  pub once : Once es
  pub apart : Distinct (listed F es)
  pub readers : (i : ℕ) → did is_root_read i es ≡ true → (row i).kind ≡ 2
  pub writers : (w : Entry) → Memᴰ w (leaf_writes es) → ((row w.operation).kind ≡ 3) × ((row w.operation).process ≡ component_of w.access)

module _ (F : Form) (low : 1 ≤ F.height) (row : ℕ → Row) where
  books_less : (e : Entry) (es : List Entry) → Books F row (e ∷ es) → Books F row es
  unfolding listed leaf_writes
  books_less e es b =
      record {
        once = once_less (λ w. true) e es b.once;
        apart = distinct_front (listed F es) _ b.apart;
        readers = λ i d. b.readers i (did_on is_root_read i e es d);
        writers = λ w m. b.writers w (Memᴰ.append_left _ m);
      }

  placed_on : (i : ℕ) (e : Entry) (es : List Entry) → is_placed F row i es ≡ true → is_placed F row i (e ∷ es) ≡ true
  unfolding is_taken_in
  placed_on i e es d =
      two_or_not (row i).kind (is_placed F row i (e ∷ es) ≡ true) (λ k. as_read F row i (e ∷ es) k ∙ did_on is_root_read i e es (sym (as_read F row i es k) ∙ d))
      (λ k. as_addition F row i (e ∷ es) k ∙ node_on F.height _ i e es (sym (as_addition F row i es k) ∙ d))

  -- ---- what an entry adds

  -- the leaf writes that it takes in
  abbrev taken : Entry → List Entry → Entry → Bool
  taken e es w = in_root F w (e ∷ es) && not (in_root F w es)

  placed_taken : (e : Entry) (es : List Entry) → is_root_read e.access ≡ false → placed F e es ≡ passing (taken e es) es
  unfolding placed
  placed_taken e es n = rw n

  -- an addition in node 1, by its leaf write
  same_root : (es past : List Entry) (b : Books F row past) (w : Entry) → Memᴰ w (leaf_writes past) → is_taken_in F row w.operation es ≡ in_root F w es
  unfolding is_taken_in in_root
  same_root es past b w m = ap (λ (p : ℕ). is_in_node F.height (leaf_of F.height p) w.operation es) (b.writers w m).1

  not_two : {k : ℕ} → k ≡ 3 → k ≡ 2 → ⊥
  not_two a b = omega arith

  new_placed : (e : Entry) (es : List Entry) → Books F row (e ∷ es) → (i : ℕ) → Memᴰ i (placed F e es) → is_placed F row i (e ∷ es) ≡ true
  new_placed e es b i m = go (is_root_read e.access) refl
    where
      go : (t : Bool) → is_root_read e.access ≡ t → is_placed F row i (e ∷ es) ≡ true
      go true d =
          let r = did_now is_root_read i e es d (Memᴰ.eq_of_singleton (subst (Memᴰ i) (placed_read F e es d) m)) in
          as_read F row i (e ∷ es) (b.readers i r) ∙ r
      go false d =
          let u = mem_map (keep (taken e es) (leaf_writes es)) (subst (Memᴰ i) (placed_taken e es d) m) in
          let k = mem_keep (taken e es) (leaf_writes es) u.1 in
          let c = books_less e es b in
          subst (λ (x : ℕ). is_placed F row x (e ∷ es) ≡ true) u.2
          (as_addition F row u.0.operation (e ∷ es) (not_two (c.writers u.0 k.0).0) ∙ same_root (e ∷ es) es c u.0 k.0 ∙ (and_both (in_root F u.0 (e ∷ es)) _ k.1).0)

  -- who is listed has its place
  pub stands : (es : List Entry) → Books F row es → (i : ℕ) → Memᴰ i (listed F es) → is_placed F row i es ≡ true
  unfolding listed
  stands [] b i m = absurd (Memᴰ.not-nil m)
  stands (e ∷ es) b i m = ⊎_elim (λ n. placed_on i e es (stands es (books_less e es b) i n)) (new_placed e es b i) (Memᴰ.append_cases (listed F es) m)

  -- who gets its place by an entry is listed by it
  newly_listed : (e : Entry) (es : List Entry) → Books F row es → (i : ℕ) → is_placed F row i es ≡ false → is_placed F row i (e ∷ es) ≡ true → Memᴰ i (placed F e es)
  unfolding is_taken_in
  newly_listed e es b i n d = two_or_not (row i).kind (Memᴰ i (placed F e es)) reads adds
    where
      reads : (row i).kind ≡ 2 → Memᴰ i (placed F e es)
      reads k =
          ⊎_elim (λ r. absurd (false_true (sym n ∙ as_read F row i es k ∙ r))) (λ r. subst⁻¹ (Memᴰ i) (placed_read F e es r.0) (Memᴰ.head r.1))
          (did_cases is_root_read i e es (sym (as_read F row i (e ∷ es) k) ∙ d))

      adds : ((row i).kind ≡ 2 → ⊥) → Memᴰ i (placed F e es)
      adds k = go (is_root_read e.access) refl
        where
          was : is_taken_in F row i es ≡ false
          was = sym (as_addition F row i es k) ∙ n

          is : is_taken_in F row i (e ∷ es) ≡ true
          is = sym (as_addition F row i (e ∷ es) k) ∙ d

          by : TakesIn (ancestor F.height (leaf_of F.height (row i).process)) i e es
          by = takes_in F.height (leaf_of F.height (row i).process) i low e es was is

          go : (t : Bool) → is_root_read e.access ≡ t → Memᴰ i (placed F e es)
          go true r = absurd (false_true (sym (read_no_store F low e.access r _) ∙ by.store))
          go false r =
              let w = write_in i es by.written in
              let m = keep_mem (taken e es) (leaf_writes es) w.1 (ap₂ (λ (x y : Bool). x && not y) (now w.0 w.1 w.2 (e ∷ es) ∙ is) (now w.0 w.1 w.2 es ∙ was)) in
              subst⁻¹ (Memᴰ i) (placed_taken e es r) (subst (λ (x : ℕ). Memᴰ x (passing (taken e es) es)) w.2 (map_mem _ m))
            where
              now : (w : Entry) → Memᴰ w (leaf_writes es) → w.operation ≡ i → (l : List Entry) → in_root F w l ≡ is_taken_in F row i l
              now w m o l = sym (same_root l es b w m) ∙ ap (λ (x : ℕ). is_taken_in F row x l) o

  pub lists : (es : List Entry) → Books F row es → (i : ℕ) → is_placed F row i es ≡ true → Memᴰ i (listed F es)
  unfolding listed
  lists [] b i d = absurd (false_true (sym (at_first F row i) ∙ d))
  lists (e ∷ es) b i d = go (is_placed F row i es) refl (lists es (books_less e es b) i)
    where
      go : (t : Bool) → is_placed F row i es ≡ t → (is_placed F row i es ≡ true → Memᴰ i (listed F es)) → Memᴰ i (listed F es ++ placed F e es)
      go true r ih = Memᴰ.append_left _ (ih r)
      go false r ih = Memᴰ.append_right (listed F es) (newly_listed e es (books_less e es b) i r d)

  -- what an entry adds had no place before it
  new_unplaced : (e : Entry) (es : List Entry) → Books F row (e ∷ es) → (i : ℕ) → Memᴰ i (placed F e es) → is_placed F row i es ≡ false
  unfolding listed
  new_unplaced e es b i m = go (is_placed F row i es) refl
    where
      go : (t : Bool) → is_placed F row i es ≡ t → t ≡ false
      go true d = absurd (distinct_both (listed F es) (placed F e es) b.apart (lists es (books_less e es b) i d) m)
      go false d = refl

  -- ---- the order

  -- two additions, the first with the earlier leaf write
  abbrev pub Tie : List Entry → ℕ → ℕ → Type 0
  Tie es i j = ((row i).kind ≡ 3) × ((row j).kind ≡ 3) × (first_after (in_leaf i) es < first_after (in_leaf j) es)

  write_before : (e : Entry) (es : List Entry) → Books F row es → (i : ℕ) → Memᴰ i (listed F es) → (row i).kind ≡ 3 → first_after (in_leaf i) (e ∷ es) ≡ first_after (in_leaf i) es
  unfolding is_taken_in
  write_before e es b i m k = first_old (in_leaf i) e es (node_leaf F.height _ i es (sym (as_addition F row i es (not_two k)) ∙ stands es b i m))

  tie_old : (e : Entry) (es : List Entry) → Books F row (e ∷ es) → (i j : ℕ) → Memᴰ i (listed F es) → Memᴰ j (listed F es) → Tie (e ∷ es) i j → Tie es i j
  tie_old e es b i j m n t =
      let c = books_less e es b in
      (t.0, t.1, omega (arith, write_before e es c i m t.0, write_before e es c j n t.1, t.2))

  tie_new : (e : Entry) (es : List Entry) → Books F row (e ∷ es) → (i j : ℕ) → Memᴰ i (placed F e es) → Memᴰ j (placed F e es) → Tie (e ∷ es) i j
      → position_of i (placed F e es) < position_of j (placed F e es)
  tie_new e es b i j m n t = go (is_root_read e.access) refl
    where
      go : (r : Bool) → is_root_read e.access ≡ r → position_of i (placed F e es) < position_of j (placed F e es)
      go true r = absurd (not_two t.0 (b.readers i (did_now is_root_read i e es r (Memᴰ.eq_of_singleton (subst (Memᴰ i) (placed_read F e es r) m)))))
      go false r =
          let same = placed_taken e es r in
          let m' = subst (Memᴰ i) same m in
          let n' = subst (Memᴰ j) same n in
          subst⁻¹ (λ (l : List ℕ). position_of i l < position_of j l) same
          (writes_in_order (taken e es) es (books_less e es b).once i j m' n'
          (omega (arith, first_old (in_leaf i) e es (passing_in (taken e es) es i m'), first_old (in_leaf j) e es (passing_in (taken e es) es j n'), t.2)))

  pub listed_in_order : (es : List Entry) → Books F row es → (i j : ℕ) → Memᴰ i (listed F es) → Memᴰ j (listed F es)
      → (first_after (is_placed F row i) es < first_after (is_placed F row j) es) ⊎ ((first_after (is_placed F row i) es ≡ first_after (is_placed F row j) es) × Tie es i j)
      → position_of i (listed F es) < position_of j (listed F es)
  unfolding listed
  listed_in_order = in_order (listed F) (placed F) (is_placed F row) (Books F row) Tie refl (λ e es. refl) books_less (at_first F row) stands new_unplaced tie_old tie_new
