-- Sums below a number: term by term, split in two, with one term only, and modulo 2^32.
use Prim.Native.Nat.{ℕ, zero, suc, ◌+◌, ◌%◌, ◌^◌, ◌<◌}
use native.Mathlib.Omega.{arith}
use mathlib.Core.Path.{◌≡◌, refl, sym, ap, ap₂}
use mathlib.Core.Bool.{Bool, true, false}
use lib.Dec.{eqb}
use borrow.Author.Tests.{eqb-true, eqb-false}
use Rattle.meaning.specs.Shape.{plus}
use Rattle.counter.specs.SumTree.{sum_below}

pub sum_same : (n : ℕ) (f g : ℕ → ℕ) → ((q : ℕ) → q < n → f q ≡ g q) → sum_below n f ≡ sum_below n g
unfolding sum_below
sum_same zero f g e = refl
sum_same (suc n) f g e = ap₂ (λ (a b : ℕ). a + b) (sum_same n f g (λ q b. e q (omega arith))) (e n (omega arith))

pub sum_split : (n : ℕ) (f g k : ℕ → ℕ) → ((q : ℕ) → q < n → f q ≡ g q + k q) → sum_below n f ≡ sum_below n g + sum_below n k
unfolding sum_below
sum_split zero f g k e = refl
sum_split (suc n) f g k e = omega (arith, sum_split n f g k (λ q b. e q (omega arith)), e n (omega arith))

pub sum_none : (n : ℕ) (f : ℕ → ℕ) → ((q : ℕ) → q < n → f q ≡ 0) → sum_below n f ≡ 0
unfolding sum_below
sum_none zero f e = refl
sum_none (suc n) f e = omega (arith, sum_none n f (λ q b. e q (omega arith)), e n (omega arith))

-- all but the term at c are 0
pub sum_one : (n c : ℕ) (f : ℕ → ℕ) → c < n → ((q : ℕ) → q < n → (q ≡ c → ⊥) → f q ≡ 0) → sum_below n f ≡ f c
unfolding sum_below
sum_one zero c f b e = absurd (omega arith)
sum_one (suc n) c f b e = go (eqb c n) refl (λ d. sum_one n c f d (λ q a m. e q (omega arith) m))
  where
    go : (t : Bool) → eqb c n ≡ t → (c < n → sum_below n f ≡ f c) → sum_below n f + f n ≡ f c
    go true d ih = omega (arith, sum_none n f (λ q a. e q (omega arith) (λ m. omega (arith, eqb-true c n d))), ap f (eqb-true c n d))
    go false d ih = let m = eqb-false c n d in omega (arith, ih (omega arith), e n (omega arith) (λ x. m (sym x)))

-- one term grows by v, modulo 2^32, and so does the sum
pub sum_plus : (n c v : ℕ) (f g : ℕ → ℕ) → c < n → g c ≡ plus (f c) v → ((q : ℕ) → q < n → (q ≡ c → ⊥) → g q ≡ f q) → sum_below n g % 2 ^ 32 ≡ plus (sum_below n f % 2 ^ 32) v
unfolding sum_below plus
sum_plus zero c v f g b e o = absurd (omega arith)
sum_plus (suc n) c v f g b e o = go (eqb c n) refl (λ d. sum_plus n c v f g d e (λ q a m. o q (omega arith) m))
  where
    go : (t : Bool) → eqb c n ≡ t → (c < n → sum_below n g % 2 ^ 32 ≡ (sum_below n f % 2 ^ 32 + v) % 2 ^ 32) → (sum_below n g + g n) % 2 ^ 32 ≡ ((sum_below n f + f n) % 2 ^ 32 + v) % 2 ^ 32
    go true d ih = omega (arith, sum_same n g f (λ q a. o q (omega arith) (λ m. omega (arith, eqb-true c n d))), ap f (eqb-true c n d), ap g (eqb-true c n d), e)
    go false d ih = let m = eqb-false c n d in omega (arith, ih (omega arith), o n (omega arith) (λ x. m (sym x)))

-- a reduced term is as good as the term itself, in a sum modulo 2^32
pub plus_left : (a b : ℕ) → plus (a % 2 ^ 32) b ≡ plus a b
unfolding plus
plus_left a b = omega arith

pub plus_right : (a b : ℕ) → plus a (b % 2 ^ 32) ≡ plus a b
unfolding plus
plus_right a b = omega arith
