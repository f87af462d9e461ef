-- A leaf's values by the history: they are settled once written, and the next is the last one plus the new delta.
use Prim.Native.Nat.{ℕ, suc, ◌+◌, ◌≤◌}
use native.Mathlib.Omega.{arith}
use mathlib.Core.Path.{◌≡◌, refl, sym, ap, ap₂}
use mathlib.Core.Bool.{Bool, true, false, cond, ◌&&◌}
use mathlib.Core.List.{List, [], ◌∷◌}
use lib.Dec.{ltb, eqb}
use borrow.Author.Tests.{lt-ltb, le-ltb, eq-eqb, ne_eqb}
use Rattle.meaning.specs.Access.{is_leaf_write, component_of}
use Rattle.meaning.specs.Shape.{plus}
use Rattle.meaning.specs.Run.{Entry}
use Rattle.taken.specs.CountIn.{writes_to}
use Rattle.history.proofs.Did.{did, did_now, did_on}
use Rattle.counter.specs.View.{value_after}

and_no : (t : Bool) → (t && false) ≡ false
and_no true = refl
and_no false = refl

-- an entry that is no leaf write, or not one to this component
pub writes_still : (q : ℕ) (e : Entry) (es : List Entry) → is_leaf_write e.access ≡ false → writes_to q (e ∷ es) ≡ writes_to q es
unfolding writes_to
writes_still q e es n = rw n (omega arith)

writes_elsewhere : (q : ℕ) (e : Entry) (es : List Entry) → (q ≡ component_of e.access → ⊥) → writes_to q (e ∷ es) ≡ writes_to q es
unfolding writes_to
writes_elsewhere q e es n = rw (ne_eqb q (component_of e.access) n, and_no (is_leaf_write e.access)) (omega arith)

pub writes_other : (q : ℕ) (e : Entry) (es : List Entry) → (is_leaf_write e.access ≡ true → q ≡ component_of e.access → ⊥) → writes_to q (e ∷ es) ≡ writes_to q es
writes_other q e es n = go (is_leaf_write e.access) refl
  where
    go : (t : Bool) → is_leaf_write e.access ≡ t → writes_to q (e ∷ es) ≡ writes_to q es
    go true w = writes_elsewhere q e es (n w)
    go false w = writes_still q e es w

pub writes_more : (q : ℕ) (e : Entry) (es : List Entry) → is_leaf_write e.access ≡ true → component_of e.access ≡ q → writes_to q (e ∷ es) ≡ suc (writes_to q es)
unfolding writes_to
writes_more q e es w d = rw (w, eq-eqb q (component_of e.access) (sym d)) (omega arith)

-- the deltas of operations that have not written do not matter
pub value_same : (f g : ℕ → ℕ) (q k : ℕ) (es : List Entry) → ((i : ℕ) → did is_leaf_write i es ≡ true → f i ≡ g i) → value_after f q k es ≡ value_after g q k es
unfolding value_after
value_same f g q k [] same = refl
value_same f g q k (e ∷ es) same = go (is_leaf_write e.access) refl (eqb q (component_of e.access)) (ltb (writes_to q es) k) (value_same f g q k es (λ i d. same i (did_on is_leaf_write i e es d)))
  where
    go : (t : Bool) → is_leaf_write e.access ≡ t → (u v : Bool) → value_after f q k es ≡ value_after g q k es
        → cond (t && u && v) (plus (value_after f q k es) (f e.operation)) (value_after f q k es) ≡ cond (t && u && v) (plus (value_after g q k es) (g e.operation)) (value_after g q k es)
    go true w true true ih = ap₂ plus ih (same e.operation (did_now is_leaf_write e.operation e es w refl))
    go true w true false ih = ih
    go true w false v ih = ih
    go false w u v ih = ih

-- what k writes made stays
pub value_still : (f : ℕ → ℕ) (q k : ℕ) (e : Entry) (es : List Entry) → k ≤ writes_to q es → value_after f q k (e ∷ es) ≡ value_after f q k es
unfolding value_after
value_still f q k e es b = rw (le-ltb (writes_to q es) k b, and_no (is_leaf_write e.access && eqb q (component_of e.access)))

-- more writes than there are are all of them
value_all : (f : ℕ → ℕ) (q k l : ℕ) (es : List Entry) → writes_to q es ≤ k → writes_to q es ≤ l → value_after f q k es ≡ value_after f q l es
unfolding value_after writes_to
value_all f q k l [] b c = refl
value_all f q k l (e ∷ es) b c = go (is_leaf_write e.access) (eqb q (component_of e.access)) b c (λ d d'. value_all f q k l es d d')
  where
    go : (t u : Bool) → writes_to q es + cond (t && u) 1 0 ≤ k → writes_to q es + cond (t && u) 1 0 ≤ l
        → (writes_to q es ≤ k → writes_to q es ≤ l → value_after f q k es ≡ value_after f q l es)
        → cond (t && u && ltb (writes_to q es) k) (plus (value_after f q k es) (f e.operation)) (value_after f q k es)
        ≡ cond (t && u && ltb (writes_to q es) l) (plus (value_after f q l es) (f e.operation)) (value_after f q l es)
    go true true b c ih =
        rw (lt-ltb (writes_to q es) k (omega arith), lt-ltb (writes_to q es) l (omega arith)) (ap (λ (v : ℕ). plus v (f e.operation)) (ih (omega arith) (omega arith)))
    go true false b c ih = ih (omega arith) (omega arith)
    go false u b c ih = ih (omega arith) (omega arith)

pub value_next : (f : ℕ → ℕ) (q : ℕ) (e : Entry) (es : List Entry) → is_leaf_write e.access ≡ true → component_of e.access ≡ q
    → value_after f q (suc (writes_to q es)) (e ∷ es) ≡ plus (value_after f q (writes_to q es) es) (f e.operation)
unfolding value_after
value_next f q e es w d =
    rw (w, eq-eqb q (component_of e.access) (sym d), lt-ltb (writes_to q es) (suc (writes_to q es)) (omega arith))
    (ap (λ (v : ℕ). plus v (f e.operation)) (value_all f q (suc (writes_to q es)) (writes_to q es) es (omega arith) (omega arith)))
