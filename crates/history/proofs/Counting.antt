-- The counts by the history after one more entry, and what a process had read before it.
use Prim.Native.Nat.{ℕ, zero, suc, max}
use native.Mathlib.Nat.{add-zero}
use mathlib.Core.Path.{◌≡◌, refl}
use mathlib.Core.Bool.{Bool, true, false, cond, ◌&&◌}
use mathlib.Core.List.{List, ◌∷◌}
use lib.Dec.{eqb}
use borrow.Author.Tests.{eq-eqb, ne_eqb}
use Rattle.meaning.specs.Tree.{leaf_of, ancestor}
use Rattle.meaning.specs.Access.{is_leaf_write, is_read_of, is_store_at}
use Rattle.meaning.specs.Run.{Entry}
use Rattle.meaning.specs.TakenIn.{before_read}
use Rattle.taken.specs.CountIn.{writes_to, count_store, count_in}

module _ (h : ℕ) (e : Entry) (es : List Entry) where
  pub count_unwritten : is_leaf_write e.access ≡ false → (q : ℕ) → count_in h 0 q (e ∷ es) ≡ count_in h 0 q es
  unfolding count_in writes_to
  count_unwritten n q = rw n (add-zero (writes_to q es))

  pub count_unstored : e.stored ≡ false → (l q : ℕ) → count_in h (suc l) q (e ∷ es) ≡ count_in h (suc l) q es
  unfolding count_in count_store
  count_unstored n l q = rw (n, and_no (is_store_at (ancestor (suc l) (leaf_of h q)) e.access))
    where
      and_no : (t : Bool) → (t && false) ≡ false
      and_no true = refl
      and_no false = refl

  pub count_stored : (l q x : ℕ) → is_store_at (ancestor (suc l) (leaf_of h q)) e.access ≡ eqb (ancestor (suc l) (leaf_of h q)) x → e.stored ≡ true
      → count_in h (suc l) q (e ∷ es)
      ≡ cond (eqb (ancestor (suc l) (leaf_of h q)) x) (max (count_in h (suc l) q es) (count_in h l q (before_read e.process (ancestor l (leaf_of h q)) es))) (count_in h (suc l) q es)
  unfolding count_in count_store
  count_stored l q x is ok = rw (is, ok, and_yes (eqb (ancestor (suc l) (leaf_of h q)) x))
    where
      and_yes : (t : Bool) → (t && true) ≡ t
      and_yes true = refl
      and_yes false = refl

  pub count_still : is_leaf_write e.access ≡ false → e.stored ≡ false → (l q : ℕ) → count_in h l q (e ∷ es) ≡ count_in h l q es
  count_still w n zero q = count_unwritten w q
  count_still w n (suc l) q = count_unstored n l q

  pub before_other : (x y : ℕ) → (x ≡ e.process → ⊥) → before_read x y (e ∷ es) ≡ before_read x y es
  unfolding before_read
  before_other x y n = rw (ne_eqb x e.process n, and_no (is_read_of y e.access))
    where
      and_no : (t : Bool) → (t && false) ≡ false
      and_no true = refl
      and_no false = refl

  pub before_not : (x y : ℕ) → is_read_of y e.access ≡ false → before_read x y (e ∷ es) ≡ before_read x y es
  unfolding before_read
  before_not x y n = rw n

  pub before_it : (y : ℕ) → is_read_of y e.access ≡ true → before_read e.process y (e ∷ es) ≡ es
  unfolding before_read
  before_it y n = rw (n, eq-eqb e.process e.process refl)
