-- The counts agree with the definition of "in": the addition with turn k at its leaf is in a node exactly if k is below the count there.
-- Both are defined by the same recursion over the stores, so that this goes by the level and then along the history; the one premise is
-- that no operation writes its leaf twice.
use Prim.Native.Nat.{ℕ, zero, suc, max, ◌≤◌, ◌<◌}
use native.Mathlib.Omega.{arith}
use mathlib.Core.Path.{◌≡◌, refl, sym, ap, ap₂, ◌∙◌}
use mathlib.Core.Bool.{Bool, true, false, cond, ◌&&◌, ◌||◌}
use mathlib.Core.List.{List, [], ◌∷◌}
use lib.Dec.{ltb, eqb}
use borrow.Author.Tests.{lt-ltb, le-ltb, ltb-true, ltb-false, eq-eqb}
use Rattle.meaning.specs.Tree.{leaf_of}
use Rattle.meaning.specs.Access.{is_leaf_write, component_of, is_store_at, is_read_of}
use Rattle.meaning.specs.Run.{Entry}
use Rattle.meaning.specs.TakenIn.{in_leaf, before_read, in_store, is_in_node}
use Rattle.taken.specs.CountIn.{writes_to, count_store, count_in}

-- no operation writes its leaf twice
pub data Once : List Entry → Type 0 where
  none : Once []
  more : {e : Entry} {es : List Entry} → (is_leaf_write e.access ≡ true → in_leaf e.operation es ≡ false) → Once es → Once (e ∷ es)

-- a history, and one that it goes on from
pub data Before : List Entry → List Entry → Type 0 where
  same : {es : List Entry} → Before es es
  later : {e : Entry} {old es : List Entry} → Before old es → Before old (e ∷ es)

-- component c's turn k is the write of operation i
pub data Writes (i c k : ℕ) : List Entry → Type 0 where
  here : {e : Entry} {es : List Entry} → is_leaf_write e.access ≡ true → e.operation ≡ i → component_of e.access ≡ c → writes_to c es ≡ k → Writes i c k (e ∷ es)
  there : {e : Entry} {es : List Entry} → Writes i c k es → Writes i c k (e ∷ es)

pub before_trans : {a b c : List Entry} → Before a b → Before b c → Before a c
before_trans f same = f
before_trans f (later g) = later (before_trans f g)

before_tail : {e : Entry} {a b : List Entry} → Before (e ∷ a) b → Before a b
before_tail f = before_trans (later same) f

pub before_read_lem : (p y : ℕ) (es : List Entry) → Before (before_read p y es) es
unfolding before_read
before_read_lem p y [] = same
before_read_lem p y (e ∷ es) = go (is_read_of y e.access && eqb p e.process) (before_read_lem p y es)
  where
    go : (t : Bool) → Before (before_read p y es) es → Before (cond t es (before_read p y es)) (e ∷ es)
    go true f = later same
    go false f = later f

-- ---- at the leaf

or_all : (a : Bool) → (a || true) ≡ true
or_all true = refl
or_all false = refl

or_none : (a : Bool) → (a || false) ≡ a
or_none true = refl
or_none false = refl

or_true : (a b : Bool) → a ≡ true → (a || b) ≡ true
or_true a b e = rw e

or_false_left : (a b : Bool) → (a || b) ≡ false → a ≡ false
or_false_left false b e = refl
or_false_left true b e = e

pub in_before : (i : ℕ) {old es : List Entry} → Before old es → in_leaf i es ≡ false → in_leaf i old ≡ false
unfolding in_leaf
in_before i same n = n
in_before i (later b) n = in_before i b (or_false_left _ _ n)

pub by_before : (c : ℕ) {old es : List Entry} → Before old es → writes_to c old ≤ writes_to c es
unfolding writes_to
by_before c same = omega arith
by_before c (later b) = omega (arith, by_before c b)

pub written : {i c k : ℕ} {es : List Entry} → Writes i c k es → in_leaf i es ≡ true
unfolding in_leaf
written {i} (here {e} {es} w o q t) = rw (w, eq-eqb i e.operation (sym o)) (or_all (in_leaf i es))
written (there w) = or_true _ _ (written w)

pub turn_below : {i c k : ℕ} {es : List Entry} → Writes i c k es → k < writes_to c es
unfolding writes_to
turn_below {c} (here {e} {es} w o q t) = rw (w, eq-eqb c (component_of e.access) (sym q)) (omega arith)
turn_below (there w) = omega (arith, turn_below w)

in_leaf_lem : {i c k : ℕ} {old es : List Entry} → Once es → Writes i c k es → Before old es → in_leaf i old ≡ ltb k (writes_to c old)
in_leaf_lem none w _ = elim w [ ]
in_leaf_lem (more n o) (here w x q t) same = written (here w x q t) ∙ sym (lt-ltb _ _ (turn_below (here w x q t)))
in_leaf_lem {i} {c} {k} {old} (more n o) (here {e} {es} w x q t) (later b) =
    in_before i b (ap (λ (j : ℕ). in_leaf j es) (sym x) ∙ n w) ∙ sym (le-ltb k (writes_to c old) (omega (arith, by_before c b)))
in_leaf_lem (more n o) (there w) same = written (there w) ∙ sym (lt-ltb _ _ (turn_below (there w)))
in_leaf_lem (more n o) (there w) (later b) = in_leaf_lem o w b

-- ---- up the tree

ltb_max : (k a b : ℕ) → (ltb k a || ltb k b) ≡ ltb k (max a b)
ltb_max k a b = go (ltb k a) refl (ltb k b) refl
  where
    go : (s : Bool) → ltb k a ≡ s → (t : Bool) → ltb k b ≡ t → (s || t) ≡ ltb k (max a b)
    go true d t e = sym (lt-ltb k (max a b) (omega (arith, ltb-true k a d)))
    go false d true e = sym (lt-ltb k (max a b) (omega (arith, ltb-true k b e)))
    go false d false e = sym (le-ltb k (max a b) (omega (arith, ltb-false k a d, ltb-false k b e)))

store_step : (k a b : ℕ) (s t u : Bool) → s ≡ ltb k a → t ≡ ltb k b → (s || (u && t)) ≡ ltb k (cond u (max a b) a)
store_step k a b s t true d e = ap₂ (λ (x y : Bool). x || y) d e ∙ ltb_max k a b
store_step k a b s t false d e = or_none s ∙ d

module _ (h i c k : ℕ) (es : List Entry) (o : Once es) (w : Writes i c k es) where
  -- the same along every history that es goes on from
  stores : (x y : ℕ) (inside : List Entry → Bool) (count : List Entry → ℕ)
      → ((old : List Entry) → Before old es → inside old ≡ ltb k (count old))
      → (old : List Entry) → Before old es → in_store inside x y old ≡ ltb k (count_store count x y old)
  unfolding in_store count_store
  stores x y inside count below [] b = sym (le-ltb k 0 (omega arith))
  stores x y inside count below (e ∷ old) b =
      store_step k _ _ _ _ (is_store_at x e.access && e.stored) (stores x y inside count below old (before_tail b))
      (below (before_read e.process y old) (before_trans (before_read_lem e.process y old) (before_tail b)))

  pub agree : (l : ℕ) (old : List Entry) → Before old es → is_in_node l (leaf_of h c) i old ≡ ltb k (count_in h l c old)
  unfolding is_in_node count_in
  agree zero old b = in_leaf_lem o w b
  agree (suc l) old b = stores _ _ (is_in_node l (leaf_of h c) i) (count_in h l c) (agree l) old b
