-- What is in a node stays in it, is in its leaf, and is taken in by an SC there that succeeded.
use Prim.Native.Nat.{ℕ, zero, suc, ◌≤◌}
use native.Mathlib.Omega.{arith}
use mathlib.Core.Path.{◌≡◌, refl, sym, ap, ◌∙◌}
use mathlib.Core.Logic.{◌⊎◌, inl, inr, ⊎_elim}
use mathlib.Core.Bool.{Bool, true, false, ◌&&◌, ◌||◌}
use mathlib.Core.List.{List, [], ◌∷◌}
use lib.Dec.{eqb}
use Rattle.meaning.specs.Tree.{ancestor}
use Rattle.meaning.specs.Access.{is_root_read, is_store_at}
use Rattle.meaning.specs.Run.{Entry}
use Rattle.meaning.specs.TakenIn.{in_leaf, before_read, in_store, is_in_node}
use Rattle.taken.proofs.Agree.{Before, before_read_lem, in_before}
use Rattle.history.proofs.Did.{did}
use Rattle.history.proofs.Turns.{false_true}
use Rattle.counter.proofs.Overs.{and_both}
use Rattle.demand.specs.InOrder.{is_read_by, has_read}

-- ---- what is so stays so

pub or_cases : (a b : Bool) → (a || b) ≡ true → (a ≡ true) ⊎ ((a ≡ false) × (b ≡ true))
or_cases true b e = inl refl
or_cases false b e = inr (refl, e)

pub or_left : (a b : Bool) → a ≡ true → (a || b) ≡ true
or_left a b e = rw e

pub has_read_lem : (i : ℕ) (es : List Entry) → has_read i es ≡ did is_root_read i es
unfolding did has_read is_read_by
has_read_lem i [] = refl
has_read_lem i (e ∷ es) = ap (λ (t : Bool). t || (is_root_read e.access && eqb i e.operation)) (has_read_lem i es)

pub leaf_on : (i : ℕ) (e : Entry) (es : List Entry) → in_leaf i es ≡ true → in_leaf i (e ∷ es) ≡ true
unfolding in_leaf
leaf_on i e es d = or_left (in_leaf i es) _ d

pub node_on : (l c i : ℕ) (e : Entry) (es : List Entry) → is_in_node l c i es ≡ true → is_in_node l c i (e ∷ es) ≡ true
unfolding is_in_node in_store
node_on zero c i e es d = leaf_on i e es d
node_on (suc l) c i e es d = or_left _ _ d

leaf_later : (i : ℕ) {old es : List Entry} → Before old es → in_leaf i old ≡ true → in_leaf i es ≡ true
leaf_later i {old} {es} b d = go (in_leaf i es) refl
  where
    go : (t : Bool) → in_leaf i es ≡ t → t ≡ true
    go true e = refl
    go false e = absurd (false_true (sym (in_before i b e) ∙ d))

-- ---- what is in a node is in its leaf, and was so before the latest record

module _ (i : ℕ) (below : List Entry → Bool) (from : (es : List Entry) → below es ≡ true → in_leaf i es ≡ true) (x y : ℕ) where
  store_lags : (e : Entry) (es : List Entry) → (in_store below x y es ≡ true → in_leaf i es ≡ true) → in_store below x y (e ∷ es) ≡ true → in_leaf i es ≡ true
  unfolding in_store
  store_lags e es ih d =
      ⊎_elim ih (λ s. leaf_later i (before_read_lem e.process y es) (from (before_read e.process y es) (and_both (is_store_at x e.access && e.stored) _ s.1).1))
      (or_cases (in_store below x y es) _ d)

  store_leaf : (es : List Entry) → in_store below x y es ≡ true → in_leaf i es ≡ true
  unfolding in_store
  store_leaf [] d = absurd (false_true d)
  store_leaf (e ∷ es) d = leaf_on i e es (store_lags e es (store_leaf es) d)

pub node_leaf : (l c i : ℕ) (es : List Entry) → is_in_node l c i es ≡ true → in_leaf i es ≡ true
unfolding is_in_node
node_leaf zero c i es d = d
node_leaf (suc l) c i es d = store_leaf i (is_in_node l c i) (node_leaf l c i) _ _ es d

-- the entry that takes an addition in is an SC at that node that succeeded, of what was in its leaf
pub record TakesIn (x i : ℕ) (e : Entry) (es : List Entry) : Type 0 where
  pub store : is_store_at x e.access ≡ true
  pub stored : e.stored ≡ true
  pub written : in_leaf i es ≡ true

taken_by : (l c i : ℕ) (e : Entry) (es : List Entry) → is_in_node (suc l) c i es ≡ false → is_in_node (suc l) c i (e ∷ es) ≡ true → TakesIn (ancestor (suc l) c) i e es
unfolding is_in_node in_store
taken_by l c i e es n d = go (or_cases _ _ d)
  where
    x : ℕ
    x = ancestor (suc l) c

    go : (in_store (is_in_node l c i) x (ancestor l c) es ≡ true) ⊎ ((in_store (is_in_node l c i) x (ancestor l c) es ≡ false) × ((is_store_at x e.access && e.stored && is_in_node l c i (before_read e.process (ancestor l c) es)) ≡ true)) → TakesIn x i e es
    go (inl z) = absurd (false_true (sym n ∙ z))
    go (inr z) =
        let s = and_both (is_store_at x e.access) e.stored (and_both (is_store_at x e.access && e.stored) _ z.1).0 in
        record { store = s.0; stored = s.1; written = store_lags i (is_in_node l c i) (node_leaf l c i) x (ancestor l c) e es (λ z. absurd (false_true (sym n ∙ z))) d }

pub takes_in : (l c i : ℕ) → 1 ≤ l → (e : Entry) (es : List Entry) → is_in_node l c i es ≡ false → is_in_node l c i (e ∷ es) ≡ true → TakesIn (ancestor l c) i e es
takes_in zero c i low e es n d = absurd (omega arith)
takes_in (suc l) c i low e es n d = taken_by l c i e es n d

pub in_nowhere : (l c i : ℕ) → is_in_node l c i [] ≡ false
unfolding is_in_node in_store in_leaf
in_nowhere zero c i = refl
in_nowhere (suc l) c i = refl
