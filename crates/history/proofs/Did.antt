-- Which operations have made an access of some kind, by the history; `in_leaf` is one such.
use Prim.Native.Nat.{ℕ}
use mathlib.Core.Path.{◌≡◌, refl, ap}
use mathlib.Core.Logic.{◌⊎◌, inl, inr}
use mathlib.Core.Bool.{Bool, true, false, ◌&&◌, ◌||◌}
use mathlib.Core.List.{List, [], ◌∷◌}
use lib.Dec.{eqb}
use borrow.Author.Tests.{eqb-true, eq-eqb, ne_eqb}
use Rattle.meaning.specs.Access.{Access, is_leaf_write}
use Rattle.meaning.specs.Run.{Entry}
use Rattle.meaning.specs.TakenIn.{in_leaf}

unfoldable pub did : (Access → Bool) → ℕ → List Entry → Bool
did kind i [] = false
did kind i (e ∷ es) = did kind i es || (kind e.access && eqb i e.operation)

pub did_leaf : (i : ℕ) (es : List Entry) → in_leaf i es ≡ did is_leaf_write i es
unfolding did in_leaf
did_leaf i [] = refl
did_leaf i (e ∷ es) = ap (λ (t : Bool). t || (is_leaf_write e.access && eqb i e.operation)) (did_leaf i es)

or_none : (a b : Bool) → b ≡ false → (a || b) ≡ a
or_none true b e = refl
or_none false b e = e

or_all : (a : Bool) → (a || true) ≡ true
or_all true = refl
or_all false = refl

or_either : (a b : Bool) → (a || b) ≡ true → (a ≡ true) ⊎ (b ≡ true)
or_either true b e = inl refl
or_either false b e = inr e

and_false : (a b : Bool) → b ≡ false → (a && b) ≡ false
and_false true b e = e
and_false false b e = refl

and_left : (a b : Bool) → (a && b) ≡ true → a ≡ true
and_left true b e = refl
and_left false b e = e

and_right : (a b : Bool) → (a && b) ≡ true → b ≡ true
and_right true b e = e
and_right false b e = absurd_bool e
  where
    absurd_bool : false ≡ true → b ≡ true
    absurd_bool e = cc

module _ (kind : Access → Bool) (i : ℕ) (e : Entry) (es : List Entry) where
  pub did_other : (i ≡ e.operation → ⊥) → did kind i (e ∷ es) ≡ did kind i es
  unfolding did
  did_other n = or_none (did kind i es) _ (and_false (kind e.access) _ (ne_eqb i e.operation n))

  pub did_not : kind e.access ≡ false → did kind i (e ∷ es) ≡ did kind i es
  unfolding did
  did_not n = or_none (did kind i es) _ (rw n)

  pub did_cases : did kind i (e ∷ es) ≡ true → (did kind i es ≡ true) ⊎ ((kind e.access ≡ true) × (i ≡ e.operation))
  unfolding did
  did_cases d = go (or_either (did kind i es) (kind e.access && eqb i e.operation) d)
    where
      go : (did kind i es ≡ true) ⊎ ((kind e.access && eqb i e.operation) ≡ true) → (did kind i es ≡ true) ⊎ ((kind e.access ≡ true) × (i ≡ e.operation))
      go (inl w) = inl w
      go (inr w) = inr (and_left _ _ w, eqb-true i e.operation (and_right (kind e.access) _ w))

  pub did_now : kind e.access ≡ true → i ≡ e.operation → did kind i (e ∷ es) ≡ true
  unfolding did
  did_now k d = rw (k, eq-eqb i e.operation d) (or_all (did kind i es))

  pub did_on : did kind i es ≡ true → did kind i (e ∷ es) ≡ true
  unfolding did
  did_on d = rw d
