-- Two lists of the same operations, each once, in which the same stand before the same, are one list.
use Prim.Native.Nat.{ℕ, ◌+◌, ◌≤◌, ◌<◌}
use native.Mathlib.Omega.{arith}
use mathlib.Core.Path.{◌≡◌, refl, sym, ap, ap₂, subst}
use mathlib.Core.Logic.{⊎_elim}
use mathlib.Core.Bool.{Bool, true, false}
use mathlib.Core.List.Memᴰ
use mathlib.Core.List.{List, [], ◌∷◌, Memᴰ}
use lib.Dec.{eqb}
use borrow.Author.Tests.{eqb-true, eqb-false, eq-eqb}
use Rattle.meaning.specs.TakenIn.{position_of}
use Rattle.meaning.specs.Plain.{times_in}
use Rattle.taken.proofs.Lists.{listed_some, found, position_second}
use Rattle.counter.proofs.Lists.{some_position, times_not}

times_head : (x : ℕ) (l : List ℕ) → times_in x (x ∷ l) ≡ 1 + times_in x l
unfolding times_in
times_head x l = rw (eq-eqb x x refl)

times_nil : (x : ℕ) → times_in x [] ≡ 0
unfolding times_in
times_nil x = refl

pub times_mem : (i : ℕ) (l : List ℕ) → 1 ≤ times_in i l → Memᴰ i l
times_mem i l b = ⊎_elim (λ z. absurd (omega (arith, times_not i l (λ m. listed_some m z)))) (λ m. m) (found i l)

pub mem_times : (i : ℕ) (l : List ℕ) → Memᴰ i l → 1 ≤ times_in i l
unfolding times_in
mem_times i [] m = elim m [ ]
mem_times i (x ∷ l) (Memᴰ.head e) = rw (eq-eqb i x e) (omega arith)
mem_times i (x ∷ l) (Memᴰ.tail m) = omega (arith, mem_times i l m)

position_head : (x : ℕ) (l : List ℕ) → position_of x (x ∷ l) ≡ 1
unfolding position_of
position_head x l = rw (eq-eqb x x refl)

position_tail : (i x : ℕ) (l : List ℕ) → (i ≡ x → ⊥) → Memᴰ i l → position_of i (x ∷ l) ≡ 1 + position_of i l
position_tail i x l n m = position_second i (x ∷ []) l (λ k. n (Memᴰ.eq_of_singleton k)) m

-- everybody of l has its place in m, and in the order of l
pub record SameOrder (l m : List ℕ) : Type 0 where
  pub times : (i : ℕ) → times_in i l ≡ times_in i m
  pub once : (i : ℕ) → times_in i l ≤ 1
  pub order : (i j : ℕ) → Memᴰ i l → Memᴰ j l → position_of i l < position_of j l → position_of i m < position_of j m

-- the first is the first
same_head : (x y : ℕ) (l m : List ℕ) → SameOrder (x ∷ l) (y ∷ m) → x ≡ y
same_head x y l m o = go (eqb x y) refl
  where
    in_first : Memᴰ y (x ∷ l)
    in_first = times_mem y (x ∷ l) (omega (arith, o.times y, times_head y m))

    in_second : Memᴰ x (y ∷ m)
    in_second = times_mem x (y ∷ m) (omega (arith, o.times x, times_head x l))

    go : (t : Bool) → eqb x y ≡ t → x ≡ y
    go true e = eqb-true x y e
    go false e = absurd (swapped in_first in_second)
      where
        n : x ≡ y → ⊥
        n = eqb-false x y e

        swapped : Memᴰ y (x ∷ l) → Memᴰ x (y ∷ m) → ⊥
        swapped (Memᴰ.head d) b = n (sym d)
        swapped (Memᴰ.tail a) b =
            let late : position_of x (x ∷ l) < position_of y (x ∷ l) = omega (arith, position_head x l, position_tail y x l (λ d. n (sym d)) a, some_position l a) in
            listed_some b (omega (arith, position_head y m, o.order x y (Memᴰ.head refl) (Memᴰ.tail a) late))

-- and the rest is the rest
same_tail : (x : ℕ) (l m : List ℕ) → SameOrder (x ∷ l) (x ∷ m) → SameOrder l m
unfolding times_in
same_tail x l m o =
    record {
      times = λ i. omega (arith, o.times i);
      once = λ i. omega (arith, o.once i);
      order = λ i j a b lt.
          let i_in = later i a in
          let j_in = later j b in
          omega (
            arith,
            position_tail i x m (other i a) i_in,
            position_tail j x m (other j b) j_in,
            o.order i j (Memᴰ.tail a) (Memᴰ.tail b) (omega (arith, position_tail i x l (other i a) a, position_tail j x l (other j b) b, lt)),
          );
    }
  where
    other : (i : ℕ) → Memᴰ i l → i ≡ x → ⊥
    other i a e = omega (arith, o.once i, ap (λ (k : ℕ). times_in k (x ∷ l)) e, ap (λ (k : ℕ). times_in k l) e, times_head x l, mem_times i l a)

    later : (i : ℕ) → Memᴰ i l → Memᴰ i m
    later i a = times_mem i m (omega (arith, o.times i, mem_times i l a))

pub same_order : (l m : List ℕ) → SameOrder l m → l ≡ m
same_order [] [] o = refl
same_order [] (y ∷ m) o = absurd (omega (arith, o.times y, times_head y m, times_nil y))
same_order (x ∷ l) [] o = absurd (omega (arith, o.times x, times_head x l, times_nil x))
same_order (x ∷ l) (y ∷ m) o =
    let e = same_head x y l m o in
    ap₂ (λ (z : ℕ) (k : List ℕ). z ∷ k) e (same_order l m (same_tail x l m (subst (λ (z : ℕ). SameOrder (x ∷ l) (z ∷ m)) (sym e) o)))
